pub mod Looks
pub mod Moves
