pub mod Pieces
pub mod Back
pub mod Unpack
pub mod Laws
pub mod Row
pub mod Tags
