-- What is left to write is laid over what the numbers say now.
use Rattle.std.proofs.Common.{◌≡◌, ◌+◌, ◌*◌, length, drop}
use Rattle.records.specs.Job.{instrs_of}
use Rattle.cells.specs.Layout.{instr_part}
use Rattle.lent_in.specs.Laid.{lay_program}
use Rattle.lent_in.proofs.Loops.{Left}
use Rattle.lent_in.proofs.laid.program.Given as goal

abbrev pub invariant-loop-j : goal.invariant-loop-j
invariant-loop-j l = record {
  kept : length l.s ≡ length l.fn.s;
  left : Left instr_part lay_program l.fn.s l.fn.base (instrs_of l.fn.code) l.s (l.fn.base + l.j) (instrs_of (drop (4 * l.j) l.fn.code));
}
