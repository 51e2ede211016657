pub mod Machine
pub mod Ideal
pub mod Ok
