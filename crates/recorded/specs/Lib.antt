pub mod Recorded
pub mod Shown
