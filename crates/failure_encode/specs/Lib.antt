pub mod Sizes
pub mod Failures
