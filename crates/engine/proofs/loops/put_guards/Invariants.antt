-- What is left to write, written from here on, gives the same buffer.
use Rattle.std.proofs.Common.{◌≡◌, ◌≤◌, ◌+◌, length, take, drop}
use Rattle.parts.specs.Lay.{lay}
use Rattle.arrays.specs.Fresh.{guards_of}
use Rattle.engine.proofs.loops.put_guards.Given as goal

abbrev pub invariant-loop-j : goal.invariant-loop-j
invariant-loop-j g l = record {
  fits : l.fn.n ≤ length (g.S.Reads.says l.fn.s).word;
  kept : length l.buf ≡ length l.fn.buf;
  left : lay l.fn.at (guards_of (take l.fn.n (g.S.Reads.says l.fn.s).word)) l.fn.buf ≡ lay (l.fn.at + l.j) (guards_of (drop l.j (take l.fn.n (g.S.Reads.says l.fn.s).word))) l.buf;
}
