-- What Parts.antt goes by and does not list itself: the library's symbols, the generated types and their cases.
pub use Rattle.std.specs.Prelude.{ℕ, ◌+◌, ◌%◌, ◌^◌, Bool, true, false, eqb, None, Some}
pub use Rattle.parts.specs.declared.Entry.{Entry}
pub use Rattle.parts.specs.declared.Instr.{Instr}
pub use Rattle.parts.specs.declared.LockWord.{LockWord}
pub use Rattle.parts.specs.declared.Reading.{Reading}
pub use Rattle.parts.specs.declared.Registers.{Registers}
pub use Rattle.parts.specs.declared.Word.{Word}
