pub mod ReadLaws
pub mod Begins
pub mod Got
pub mod Back
pub mod Exact
