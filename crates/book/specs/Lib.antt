pub mod Formed
pub mod Book
pub mod Add
pub mod Inner
pub mod Books
