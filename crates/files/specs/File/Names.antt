-- What File.antt goes by and does not list itself: the library's symbols, the generated types and their cases.
pub use Rattle.std.specs.Prelude.{ℕ, zero, suc, ◌+◌, ◌-◌, ◌*◌, Bool, List, [], ◌∷◌, ◌++◌, ltb, length, take, drop, Err, Ok, Result}
pub use Rattle.parts.specs.declared.Refusal.{Refusal}
pub use Rattle.parts.specs.declared.Refusal.TheVariants.{Length}
pub use Rattle.parts.specs.Told.{Told}
pub use Rattle.engine.specs.declared.Engine.{Engine}
pub use Rattle.files.specs.declared.make.Line.{Line}
pub use Rattle.files.specs.declared.make.Line.TheVariants.{Number, Answer}
pub use Rattle.engine.specs.declared.Answered.{Answered}
