pub mod Alone
pub mod Jobs
