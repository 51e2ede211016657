pub mod Numbers
pub mod Pick
pub mod Told
pub mod Parts
pub mod Instr
pub mod Lay
