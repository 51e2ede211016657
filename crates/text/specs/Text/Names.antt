-- What Text.antt goes by and does not list itself: the library's symbols and the generated types.
pub use Rattle.std.specs.Prelude.{ℕ, zero, suc, ◌+◌, ◌*◌, ◌/◌, ◌%◌, ◌≤◌, ◌≡◌, List, [], ◌∷◌, ◌++◌, eqb, ltb, length, None, Option, Some}
pub use Rattle.parts.specs.declared.Refusal.{Refusal}
pub use Rattle.parts.specs.Told.{Told}
