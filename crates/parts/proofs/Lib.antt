pub mod Laws
pub mod Lay
pub mod Order
pub mod Touch
