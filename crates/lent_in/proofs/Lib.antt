pub mod Loops
pub mod Filled
pub mod Begins
pub mod Says
