pub mod Bytes
pub mod Job
pub mod Setup
pub mod Inner
pub mod Old
