pub mod HeaderLaws
pub mod Exact
