pub mod File
pub mod Made
