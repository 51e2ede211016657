-- What Instr.antt goes by and does not list itself: the library's symbols, the generated types and their cases.
pub use Rattle.std.specs.Prelude.{ℕ, ◌+◌, ◌-◌, ◌*◌, ◌%◌, ◌^◌, Bool, false, eqb}
pub use Rattle.parts.specs.declared.Asks.{Asks}
pub use Rattle.parts.specs.declared.Asks.TheVariants.{Halt, Go, Touch}
pub use Rattle.parts.specs.declared.Follows.{Follows}
pub use Rattle.parts.specs.declared.Follows.TheVariants.{Done, Swap}
pub use Rattle.parts.specs.declared.Instr.{Instr}
pub use Rattle.parts.specs.declared.Registers.{Registers}
