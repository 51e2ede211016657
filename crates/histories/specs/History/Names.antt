-- What History.antt goes by and does not list itself: the library's symbols, the generated types and their cases, definitions of parts.
pub use Rattle.std.specs.Prelude.{ℕ, suc, ◌+◌, ◌/◌, ◌%◌, ◌^◌, ◌≤◌, ◌<◌, ◌≡◌, ◌≢◌, Bool, true, false, List, [], ◌∷◌, ◌++◌, eqb, get_or, length, Err, None, Ok, Result, Some}
pub use Rattle.parts.specs.Instr.{asks_of, word_of}
pub use Rattle.parts.specs.Numbers.{workers, most_locks, most_words, sheets, instructions, last_turn, try_steps, help_steps}
pub use Rattle.parts.specs.Parts.{instr0, lock0, next32, register_of}
pub use Rattle.parts.specs.Pick.{pick, ◌or◌, on_option}
pub use Rattle.parts.specs.Told.{on_told}
pub use Rattle.parts.specs.declared.Answer.{Answer}
pub use Rattle.parts.specs.declared.Answer.TheVariants.{RanYes, RanNo, NotTaken, Worn}
pub use Rattle.parts.specs.declared.Asks.TheVariants.{Go, Touch}
pub use Rattle.parts.specs.declared.Instr.{Instr}
pub use Rattle.parts.specs.declared.LockWord.{LockWord}
pub use Rattle.parts.specs.declared.Registers.{Registers}
pub use Rattle.steps.specs.declared.Point.{Point}
pub use Rattle.steps.specs.declared.Point.TheVariants.{Look, Grab, LookAgain, ReadMark}
pub use Rattle.steps.specs.declared.Run.{Run}
pub use Rattle.steps.specs.declared.State.TheVariants.{Idle, UnderWay, Finished}
pub use Rattle.engine.specs.declared.Engine.{Engine}
pub use Rattle.engine.specs.declared.Outcome.{Outcome}
pub use Rattle.engine.specs.declared.Answered.{Answered}
pub use Rattle.parts.specs.declared.Refusal.{Refusal}
pub use Rattle.engine.specs.Calls.{answered}
