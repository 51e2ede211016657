pub mod Loops
pub mod Written
