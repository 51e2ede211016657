-- What Calls.antt goes by and does not list itself: the library's symbols, the generated types and their cases, definitions of parts.
pub use Rattle.std.specs.Prelude.{ℕ, ◌+◌, ◌*◌, ◌<◌, ◌≡◌, Bool, true, false, List, [], ◌∷◌, map, eqb, leb, ltb, length, set, take, replicate, Err, Ok, Result}
pub use Rattle.parts.specs.Lay.{lay}
pub use Rattle.parts.specs.Numbers.{workers, most_locks, most_words, sheets, instructions}
pub use Rattle.parts.specs.Parts.{word0, lock0, instr0, entry0, worn_of}
pub use Rattle.parts.specs.Pick.{pick, ◌or◌}
pub use Rattle.parts.specs.Told.{on_told, refuse_if, first_of}
pub use Rattle.parts.specs.declared.Answer.{Answer}
pub use Rattle.parts.specs.declared.Answer.TheVariants.{NotTaken}
pub use Rattle.parts.specs.declared.LockWord.{LockWord}
pub use Rattle.parts.specs.declared.Refusal.TheVariants.{NoWorker, NoLock, LastTurn, Range, Buffer, SheetFree, NoWord}
pub use Rattle.parts.specs.Told.{Told}
pub use Rattle.steps.specs.declared.Worker.{Worker}
pub use Rattle.engine.specs.declared.Engine.{Engine}
pub use Rattle.engine.specs.declared.Outcome.{Outcome}
pub use Rattle.engine.specs.declared.Answered.{Answered}
pub use Rattle.parts.specs.declared.Refusal.{Refusal}
pub use Rattle.parts.specs.declared.Word.{Word}
