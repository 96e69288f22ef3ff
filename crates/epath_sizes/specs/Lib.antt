pub mod Limits
pub mod Segments
pub mod Lists
pub mod Sizes
