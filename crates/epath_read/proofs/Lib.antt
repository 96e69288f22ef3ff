pub mod FillLaws
pub mod Exact
