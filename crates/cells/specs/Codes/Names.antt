-- What Codes.antt goes by and does not list itself: the library's symbols, the generated types and their cases.
pub use Rattle.std.specs.Prelude.{ℕ, ◌+◌, ◌-◌, ◌*◌, ◌/◌, ◌%◌, ◌<◌, Bool, List, [], ◌∷◌, eqb, get_or, None, Option, Some}
pub use Rattle.parts.specs.declared.Answer.TheVariants.{RanYes, RanNo, NotTaken, Worn}
pub use Rattle.parts.specs.declared.Answer.{Answer}
pub use Rattle.parts.specs.declared.Entry.{Entry}
pub use Rattle.parts.specs.declared.Instr.{Instr}
pub use Rattle.parts.specs.declared.LockWord.{LockWord}
pub use Rattle.parts.specs.declared.Reading.{Reading}
pub use Rattle.parts.specs.declared.Registers.{Registers}
pub use Rattle.parts.specs.declared.Word.{Word}
pub use Rattle.steps.specs.declared.Point.TheVariants.{Look, Grab, LookAgain, ReadMark}
pub use Rattle.steps.specs.declared.Point.{Point}
pub use Rattle.steps.specs.declared.Run.{Run}
pub use Rattle.steps.specs.declared.Stage.TheVariants.{Read, Commit, Swap, Mark, Release}
pub use Rattle.steps.specs.declared.Stage.{Stage}
pub use Rattle.steps.specs.declared.State.TheVariants.{Idle, UnderWay, Finished}
pub use Rattle.steps.specs.declared.State.{State}
pub use Rattle.steps.specs.declared.Worker.{Worker}
pub use Rattle.engine.specs.declared.Sheet.{Sheet}
