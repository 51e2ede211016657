pub mod ReplyText
pub mod Reply
pub mod Walk
