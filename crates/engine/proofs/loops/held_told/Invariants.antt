-- What is told of the locks is told of those from j on.
use Rattle.std.proofs.Common.{◌≡◌, ◌≤◌, length, take, drop}
use Rattle.arrays.specs.Held.{held_told}
use Rattle.engine.proofs.loops.held_told.Given as goal

abbrev pub invariant-loop-j : goal.invariant-loop-j
invariant-loop-j g l = record {
  fits : l.fn.n ≤ length (g.S.Reads.says l.fn.s).lock;
  left : held_told (take l.fn.n (g.S.Reads.says l.fn.s).lock) 0 ≡ held_told (drop l.j (take l.fn.n (g.S.Reads.says l.fn.s).lock)) l.j;
}
