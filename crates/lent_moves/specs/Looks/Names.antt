-- What Looks.antt goes by and does not list itself: the library's symbols, the generated types and their cases, definitions of parts.
pub use Rattle.std.specs.Prelude.{ℕ, ◌+◌, ◌-◌, ◌%◌, ◌^◌, Bool, List, get_or}
pub use Rattle.parts.specs.Instr.{word_of}
pub use Rattle.parts.specs.Numbers.{most_locks, most_words, sheets}
pub use Rattle.parts.specs.Parts.{instr0, entry0, register_of}
pub use Rattle.parts.specs.declared.Answer.{Answer}
pub use Rattle.parts.specs.declared.Entry.{Entry}
pub use Rattle.parts.specs.declared.Instr.{Instr}
pub use Rattle.parts.specs.declared.LockWord.{LockWord}
pub use Rattle.parts.specs.declared.Registers.{Registers}
pub use Rattle.parts.specs.declared.Word.{Word}
pub use Rattle.engine.specs.declared.Sheet.{Sheet}
