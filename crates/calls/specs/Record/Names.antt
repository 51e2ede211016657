-- What Record.antt goes by and does not list itself: the library's symbols, the generated types and their cases.
pub use Rattle.std.specs.Prelude.{ℕ, ◌+◌, ◌-◌, ◌/◌, min, Bool, true, false, List, [], ◌∷◌, eqb, ltb, length, get_or, take, drop, Err, Ok, Result}
pub use Rattle.parts.specs.declared.Refusal.TheVariants.{Length, Kind, Buffer, CallRecord}
pub use Rattle.parts.specs.Told.{Told}
pub use Rattle.parts.specs.declared.Refusal.{Refusal}
