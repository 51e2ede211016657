-- What Calls.antt goes by and does not list itself: the library's symbols, the generated types and their cases.
pub use Rattle.std.specs.Prelude.{ℕ, List, length}
pub use Rattle.door.specs.declared.BookFound.{BookFound}
pub use Rattle.door.specs.declared.Collected.{Collected}
pub use Rattle.door.specs.declared.LockRead.{LockRead}
pub use Rattle.door.specs.declared.Plain.{Plain}
pub use Rattle.door.specs.declared.Reply.{Reply}
pub use Rattle.door.specs.declared.WordRead.{WordRead}
pub use Rattle.door.specs.declared.Wrote.{Wrote}
