pub mod Replies
pub mod Walks
