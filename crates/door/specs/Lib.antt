pub mod Door
pub mod Calls
