-- What Books.antt goes by and does not list itself: the library's symbols, the generated types and their cases.
pub use Rattle.std.specs.Prelude.{ℕ, ◌+◌, ◌≤◌, ◌<◌, List, [], ◌++◌, ◌⊎◌, ◌≡◌, length, drop, Some, Err, Ok}
pub use Rattle.parts.specs.declared.Refusal.{Refusal}
pub use Rattle.book.specs.declared.Book.TheVariants.{Line, Factory}
pub use Rattle.parts.specs.declared.Refusal.TheVariants.{Guard, Buffer, NotThere, Present}
