pub mod Frames
pub mod Calls
pub mod Conditions
pub mod Drives
