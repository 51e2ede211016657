pub mod Fresh
pub mod Held
