-- What is left to write, written from here on, gives the same buffer.
use Rattle.std.proofs.Common.{◌≡◌, ◌≤◌, ◌+◌, ◌*◌, length, take, drop}
use Rattle.parts.specs.Lay.{lay}
use Rattle.records.specs.Job.{code_bytes}
use Rattle.engine.proofs.loops.put_code.Given as goal

abbrev pub invariant-loop-j : goal.invariant-loop-j
invariant-loop-j g l = record {
  fits : l.fn.base + l.fn.n ≤ length (g.S.Reads.says l.fn.s).program;
  kept : length l.buf ≡ length l.fn.buf;
  left : lay l.fn.at (code_bytes (take l.fn.n (drop l.fn.base (g.S.Reads.says l.fn.s).program))) l.fn.buf ≡ lay (l.fn.at + 4 * l.j) (code_bytes (drop l.j (take l.fn.n (drop l.fn.base (g.S.Reads.says l.fn.s).program)))) l.buf;
}
