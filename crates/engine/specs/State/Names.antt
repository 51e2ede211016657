-- What State.antt goes by and does not list itself: the library's symbols, the generated types and their cases.
pub use Rattle.std.specs.Prelude.{ℕ, ◌+◌, ◌*◌, ◌%◌, Bool, false, List, get_or, set, take, drop, replicate}
pub use Rattle.parts.specs.declared.Instr.{Instr}
pub use Rattle.parts.specs.declared.LockWord.{LockWord}
pub use Rattle.parts.specs.declared.Word.{Word}
pub use Rattle.steps.specs.declared.Worker.{Worker}
pub use Rattle.engine.specs.declared.Engine.{Engine}
pub use Rattle.engine.specs.declared.Sheet.{Sheet}
