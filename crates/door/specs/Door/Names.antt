-- What Door.antt goes by and does not list itself: the library's symbols, the generated types and their cases.
pub use Rattle.std.specs.Prelude.{ℕ, ◌%◌, ◌^◌, List, ltb, length, Result, Ok, Err}
pub use Rattle.parts.specs.declared.Answer.TheVariants.{RanYes, RanNo}
pub use Rattle.parts.specs.declared.LockWord.{LockWord}
pub use Rattle.parts.specs.declared.Refusal.{Refusal}
pub use Rattle.parts.specs.Told.{Told}
pub use Rattle.door.specs.declared.BookFound.{BookFound}
pub use Rattle.door.specs.declared.Collected.{Collected}
pub use Rattle.door.specs.declared.LockRead.{LockRead}
pub use Rattle.door.specs.declared.Plain.{Plain}
pub use Rattle.door.specs.declared.Reply.{Reply}
pub use Rattle.door.specs.declared.WordRead.{WordRead}
pub use Rattle.door.specs.declared.Wrote.{Wrote}
pub use Rattle.engine.specs.declared.Answered.{Answered}
pub use Rattle.alone.specs.declared.Ran.{Ran}
pub use Rattle.parts.specs.declared.Word.{Word}
