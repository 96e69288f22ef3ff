pub mod Written
pub mod Again
pub mod Joins
pub mod Replies
pub mod Cards
