pub mod ReplyLaws
pub mod Exact
