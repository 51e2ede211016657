-- What is left to write is laid over what the numbers say now.
use Rattle.std.proofs.Common.{◌≡◌, ◌+◌, ◌-◌, length, replicate}
use Rattle.parts.specs.Numbers.{instructions}
use Rattle.parts.specs.Parts.{instr0}
use Rattle.cells.specs.Layout.{instr_part}
use Rattle.lent_in.specs.Laid.{lay_program}
use Rattle.lent_in.proofs.Loops.{Left}
use Rattle.lent_in.proofs.laid.no_program.Given as goal

abbrev pub invariant-loop-j : goal.invariant-loop-j
invariant-loop-j l = record {
  kept : length l.s ≡ length l.fn.s;
  left : Left instr_part lay_program l.fn.s l.fn.base (replicate instructions instr0) l.s (l.fn.base + l.j) (replicate (instructions - l.j) instr0);
}
