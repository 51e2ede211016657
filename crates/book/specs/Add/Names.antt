-- What Add.antt goes by and does not list itself: the library's symbols, the generated types and their cases.
pub use Rattle.std.specs.Prelude.{ℕ, ◌+◌, ◌/◌, ◌%◌, List, [], ◌∷◌, ◌++◌, ltb, length, take, drop, Result, Ok, Err}
pub use Rattle.parts.specs.declared.Refusal.{Refusal}
pub use Rattle.parts.specs.declared.Refusal.TheVariants.{NotThere, Present, Buffer}
pub use Rattle.parts.specs.Told.{Told}
