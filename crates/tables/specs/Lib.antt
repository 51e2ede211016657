pub mod Table
pub mod Worked
