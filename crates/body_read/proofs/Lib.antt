pub mod ReadLaws
pub mod Accepts
pub mod Exact
