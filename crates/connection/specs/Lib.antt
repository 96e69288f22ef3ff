pub mod Codes
pub mod Limits
pub mod Defaults
