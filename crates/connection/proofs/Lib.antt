pub mod CodeLaws
pub mod Exact
