-- Half of what park writes: a contract of the code between the two cites it.
use Rattle.std.specs.Prelude.{ℕ, List, ◌++◌}
use Rattle.arrays.specs.Fresh.{guards_of, values_of, turns_of}
use Rattle.parts.specs.declared.LockWord.{LockWord}
use Rattle.parts.specs.declared.Word.{Word}
use Rattle.records.specs.Bytes.{u32s_bytes}

-- "W guard bytes .., W values of 4 bytes, L starting turns of 4 bytes": a setup record from byte 6 on
abbrev pub fields_of : List Word → List LockWord → List ℕ
fields_of words locks = guards_of words ++ u32s_bytes (values_of words) ++ u32s_bytes (turns_of locks)
