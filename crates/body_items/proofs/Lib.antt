pub mod ItemLaws
pub mod Exact
