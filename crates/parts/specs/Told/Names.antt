-- What Told.antt goes by and does not list itself: the library's symbols, the generated types and their cases.
pub use Rattle.std.specs.Prelude.{ℕ, ◌<◌, ◌≡◌, Bool, List, [], ◌∷◌, length, get_or, Err, Ok, Result}
pub use Rattle.parts.specs.declared.Answer.{Answer}
pub use Rattle.parts.specs.declared.Answer.TheVariants.{RanYes, RanNo, NotTaken, Worn}
pub use Rattle.parts.specs.declared.Refusal.{Refusal}
pub use Rattle.parts.specs.declared.Refusal.TheVariants.{NoWorker, NoLock, WorkerUnderWay, NotCollected, Length, Kind, Instruction, Guard, LastTurn, WorkerIdle, Range, Buffer, SheetFree, Held, NoWord, CallRecord, Malformed, NotThere, Present}
