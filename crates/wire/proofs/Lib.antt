pub mod Numbers
pub mod Stores
pub mod Rules
pub mod Answers
pub mod Folds
pub mod Records
pub mod Choice
pub mod Exact
