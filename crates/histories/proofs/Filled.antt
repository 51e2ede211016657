-- Request 02: who filled the entries of each log.
pub mod Entries
pub mod Goes
pub mod Fills
pub mod Kept
pub mod Begun
pub mod Moved
pub mod Keep
pub mod Over
pub mod Filled
pub mod Exhibit
