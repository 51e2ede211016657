-- What is left to write, written from here on, gives the same bytes.
use Rattle.std.proofs.Common.{◌≡◌, ◌+◌, length, drop}
use Rattle.parts.specs.Lay.{lay}
use Rattle.records.proofs.put_bytes.Given as goal

abbrev pub invariant-loop-j : goal.invariant-loop-j
invariant-loop-j l = record {
  kept : length l.buf ≡ length l.fn.buf;
  left : lay l.fn.at l.bytes l.fn.buf ≡ lay (l.fn.at + l.j) (drop l.j l.bytes) l.buf;
}
