-- What Setup.antt goes by and does not list itself: the library's symbols, the generated types and their cases.
pub use Rattle.std.specs.Prelude.{ℕ, ◌+◌, ◌*◌, ◌≤◌, ◌≡◌, Bool, List, [], ◌∷◌, ◌++◌, leb, ltb, length, get_or, take, drop, Ok}
pub use Rattle.parts.specs.declared.Refusal.TheVariants.{Length, Kind, Range}
pub use Rattle.parts.specs.Told.{Told}
