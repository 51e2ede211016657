pub mod Laws
pub mod Turns
pub mod Finds
pub mod Theory
pub mod Adds
