-- What Records.antt goes by and does not list itself: the library's symbols, the generated types and their cases.
pub use Rattle.std.specs.Prelude.{ℕ, ◌≤◌, ◌≡◌, true, List, [], ◌∷◌, ◌++◌, length, drop, Err, Ok, Result}
pub use Rattle.engine.specs.declared.Engine.{Engine}
pub use Rattle.parts.specs.declared.Refusal.{Refusal}
