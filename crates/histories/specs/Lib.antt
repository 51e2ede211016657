pub mod Filling
pub mod History
pub mod Filled
pub mod Worn
pub mod Plainly
pub mod Used
