pub mod Put
pub mod Moved
pub mod Says
pub mod Fills
pub mod Laws
