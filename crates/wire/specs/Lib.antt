pub mod Refusals
pub mod Numbers
pub mod Parts
pub mod Choice
pub mod Answers
pub mod Folds
pub mod Records
