-- What is left to write is laid over what the numbers say now.
use Rattle.std.proofs.Common.{◌≡◌, ◌+◌, ◌-◌, length, replicate}
use Rattle.parts.specs.Numbers.{instructions}
use Rattle.parts.specs.Parts.{entry0}
use Rattle.cells.specs.Layout.{entry_part}
use Rattle.lent_in.specs.Laid.{lay_log}
use Rattle.lent_in.proofs.Loops.{Left}
use Rattle.lent_in.proofs.laid.no_log.Given as goal

abbrev pub invariant-loop-j : goal.invariant-loop-j
invariant-loop-j l = record {
  kept : length l.s ≡ length l.fn.s;
  left : Left entry_part lay_log l.fn.s l.fn.base (replicate instructions entry0) l.s (l.fn.base + l.j) (replicate (instructions - l.j) entry0);
}
