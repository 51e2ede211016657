-- What Table.antt goes by and does not list itself: the library's symbols, the generated types and their cases.
pub use Rattle.std.specs.Prelude.{ℕ, ◌+◌, ◌*◌, ◌-◌, ◌≡◌, List, [], ◌∷◌, ◌++◌, replicate, drop, Err, None, Ok, Option, Result, Some}
pub use Rattle.parts.specs.declared.Refusal.TheVariants.{WorkerUnderWay, WorkerIdle, Kind}
pub use Rattle.engine.specs.declared.Engine.{Engine}
pub use Rattle.engine.specs.declared.Answered.{Answered}
pub use Rattle.parts.specs.declared.LockWord.{LockWord}
pub use Rattle.parts.specs.declared.Refusal.{Refusal}
pub use Rattle.parts.specs.declared.Word.{Word}
pub use Rattle.engine.specs.Calls.{answered}
