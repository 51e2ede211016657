pub mod Encoding
pub mod Same
pub mod Replay
pub mod Recorded
pub mod Shown
