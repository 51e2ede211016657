-- What Orders.antt goes by and does not list itself: the library's symbols, the generated types and their cases, definitions of parts.
pub use Rattle.std.specs.Prelude.{ℕ, ◌+◌, ◌*◌, ◌<◌, ◌≡◌, Bool, true, false, List, [], ◌∷◌, ◌++◌, ◌↔◌, eqb, leb, ltb, length, Err, Ok, Result}
pub use Rattle.parts.specs.Numbers.{workers, most_locks, most_words, sheets, last_turn}
pub use Rattle.parts.specs.Parts.{worn_of}
pub use Rattle.parts.specs.Pick.{◌or◌, ◌isnt◌, on_option}
pub use Rattle.parts.specs.Told.{refuse_if, refusal_number, refusal_place, FirstAt}
pub use Rattle.parts.specs.declared.Answer.{Answer}
pub use Rattle.parts.specs.declared.Instr.{Instr}
pub use Rattle.parts.specs.declared.LockWord.{LockWord}
pub use Rattle.parts.specs.declared.Refusal.{Refusal}
pub use Rattle.parts.specs.declared.Refusal.TheVariants.{NoWorker, NoLock, WorkerUnderWay, NotCollected, Length, Kind, Instruction, Guard, LastTurn, WorkerIdle, Range, Buffer, SheetFree, Held, NoWord}
pub use Rattle.parts.specs.Told.{Told}
pub use Rattle.steps.specs.declared.Point.{Point}
pub use Rattle.steps.specs.declared.State.{State}
pub use Rattle.steps.specs.declared.State.TheVariants.{UnderWay, Finished}
pub use Rattle.engine.specs.declared.Engine.{Engine}
pub use Rattle.engine.specs.declared.Outcome.{Outcome}
pub use Rattle.engine.specs.declared.Answered.{Answered}
pub use Rattle.alone.specs.declared.Ran.{Ran}
pub use Rattle.parts.specs.declared.Word.{Word}
pub use Rattle.engine.specs.Calls.{answered}
pub use Rattle.plain.specs.Plain.{ran}
