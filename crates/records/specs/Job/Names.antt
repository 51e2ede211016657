-- What Job.antt goes by and does not list itself: the library's symbols, the generated types and their cases.
pub use Rattle.std.specs.Prelude.{ℕ, ◌+◌, ◌-◌, ◌*◌, ◌/◌, ◌%◌, Bool, true, false, List, [], ◌∷◌, ◌++◌, eqb, leb, ltb, length, get_or, drop, Ok}
pub use Rattle.parts.specs.declared.Instr.{Instr}
pub use Rattle.parts.specs.declared.Refusal.TheVariants.{Length, Kind, Instruction, Guard}
pub use Rattle.parts.specs.Told.{Told}
