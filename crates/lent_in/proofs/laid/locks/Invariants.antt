-- What is left to write is laid over what the numbers say now.
use Rattle.std.proofs.Common.{◌≡◌, ◌*◌, length, map, drop}
use Rattle.arrays.specs.Fresh.{free_at}
use Rattle.records.specs.Bytes.{u32s_of}
use Rattle.cells.specs.Layout.{lock_part}
use Rattle.lent_in.specs.Laid.{lay_locks}
use Rattle.lent_in.proofs.Loops.{Left}
use Rattle.lent_in.proofs.laid.locks.Given as goal

abbrev pub invariant-loop-j : goal.invariant-loop-j
invariant-loop-j l = record {
  kept : length l.s ≡ length l.fn.s;
  left : Left lock_part lay_locks l.fn.s 0 (map free_at (u32s_of l.fn.turns)) l.s l.j (map free_at (u32s_of (drop (4 * l.j) l.fn.turns)));
}
