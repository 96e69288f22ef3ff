pub mod WriteLaws
pub mod OverLaws
pub mod Exact
