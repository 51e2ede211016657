pub mod State
pub mod Step
pub mod Calls
pub mod Written
pub mod Inner
