pub mod Walks
pub mod Makes
