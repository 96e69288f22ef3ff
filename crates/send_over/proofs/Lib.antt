pub mod OverLaws
pub mod Exact
