-- What Points.antt goes by and does not list itself: the library's symbols, the generated types and their cases, definitions of parts.
pub use Rattle.std.specs.Prelude.{ℕ, ◌+◌, ◌*◌, ◌%◌, Bool, true, false, List, eqb, Some}
pub use Rattle.parts.specs.Instr.{over_of}
pub use Rattle.parts.specs.Numbers.{sheets, last_turn}
pub use Rattle.parts.specs.Parts.{next32, reading_of, register_of, holds_of, swap_of, grab_of, release_of}
pub use Rattle.parts.specs.Pick.{pick, on_option}
pub use Rattle.parts.specs.Told.{on_told}
pub use Rattle.parts.specs.declared.Answer.TheVariants.{NotTaken, Worn}
pub use Rattle.parts.specs.declared.Entry.{Entry}
pub use Rattle.parts.specs.declared.Instr.{Instr}
pub use Rattle.parts.specs.declared.LockWord.{LockWord}
pub use Rattle.parts.specs.declared.Reading.{Reading}
