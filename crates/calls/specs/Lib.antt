pub mod Record
pub mod Kind
pub mod Reader
