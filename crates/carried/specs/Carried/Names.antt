-- What Carried.antt goes by and does not list itself: the library's symbols, the generated types and their cases.
pub use Rattle.std.specs.Prelude.{ℕ, ◌≤◌, ◌<◌, ◌≡◌, List, [], ◌∷◌, length, Err, Ok, Result}
pub use Rattle.engine.specs.declared.Engine.{Engine}
pub use Rattle.parts.specs.declared.Refusal.{Refusal}
pub use Rattle.engine.specs.declared.Answered.{Answered}
pub use Rattle.engine.specs.Calls.{answered}
