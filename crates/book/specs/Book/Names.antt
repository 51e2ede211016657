-- What Book.antt goes by and does not list itself: the library's symbols, the generated types and their cases.
pub use Rattle.std.specs.Prelude.{ℕ, zero, suc, ◌+◌, ◌-◌, Bool, true, false, List, [], ◌∷◌, eqb, ltb, length, get_or, take, drop, Option, Some, None, Result, Ok, Err}
pub use Rattle.parts.specs.declared.Refusal.{Refusal}
pub use Rattle.parts.specs.declared.Refusal.TheVariants.{Malformed, NotThere}
pub use Rattle.parts.specs.Told.{Told}
pub use Rattle.book.specs.declared.Book.{Book}
pub use Rattle.book.specs.declared.Book.TheVariants.{Line, Factory}
pub use Rattle.book.specs.declared.Found.{Found}
pub use Rattle.book.specs.declared.NotFound.{NotFound}
pub use Rattle.book.specs.declared.Place.{Place}
