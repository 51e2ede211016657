pub mod Laws
pub mod Items
