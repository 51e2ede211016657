-- What is left to write, written from here on, gives the same numbers.
use Rattle.std.proofs.Common.{◌≡◌, ◌+◌, length, drop}
use Rattle.parts.specs.Lay.{lay}
use Rattle.cells.proofs.codes.write.Given as goal

abbrev pub invariant-loop-j : goal.invariant-loop-j
invariant-loop-j l = record {
  kept : length l.s ≡ length l.fn.s;
  left : lay l.fn.at l.n l.fn.s ≡ lay (l.fn.at + l.j) (drop l.j l.n) l.s;
}
