pub mod Fours
pub mod Laws
pub mod Exactly
pub mod Form
pub mod One
pub mod Takes
pub mod Old
