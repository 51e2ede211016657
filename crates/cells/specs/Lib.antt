pub mod Pieces
pub mod Codes
pub mod Layout
pub mod State
