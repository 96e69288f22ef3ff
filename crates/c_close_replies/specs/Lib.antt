pub mod CloseReplies
