-- What Calls.antt goes by and does not list itself: the library's symbols, the generated types and their cases, definitions of arrays, parts.
pub use Rattle.std.specs.Prelude.{ℕ, false, List, map, length, replicate}
pub use Rattle.arrays.specs.Fresh.{words_from, free_at}
pub use Rattle.parts.specs.Numbers.{instructions}
pub use Rattle.parts.specs.Parts.{instr0, entry0}
pub use Rattle.parts.specs.Told.{on_told}
pub use Rattle.engine.specs.declared.Engine.{Engine}
pub use Rattle.engine.specs.declared.Sheet.{Sheet}
