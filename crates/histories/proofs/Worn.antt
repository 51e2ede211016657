-- Request 03: when worn is told, and what becomes of a worn lock.
pub mod Looks
pub mod Stays
pub mod Looked
pub mod Worn
pub mod Exhibit
