-- What Recorded.antt goes by and does not list itself: the library's symbols, the generated types and their cases.
pub use Rattle.std.specs.Prelude.{ℕ, ◌≤◌, ◌<◌, ◌≡◌, Bool, true, false, List, [], ◌∷◌, ◌++◌, length, take, drop, Err, Ok, Result}
pub use Rattle.parts.specs.declared.Refusal.{Refusal}
pub use Rattle.engine.specs.declared.Engine.{Engine}
pub use Rattle.files.specs.declared.make.Line.{Line}
pub use Rattle.files.specs.declared.make.Line.TheVariants.{Number}
