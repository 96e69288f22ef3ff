pub mod Headers
pub mod Replies
pub mod Again
