pub mod Worker
pub mod Try
pub mod Places
