pub mod Carried
pub mod Fits
pub mod Shown
