pub mod FirstLaws
pub mod Exact
