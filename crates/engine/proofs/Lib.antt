pub mod Laws
pub mod Begins
pub mod Record
pub mod Written
pub mod Turns
pub mod Marks
