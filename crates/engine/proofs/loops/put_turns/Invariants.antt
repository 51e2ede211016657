-- What is left to write, written from here on, gives the same buffer.
use Rattle.std.proofs.Common.{◌≡◌, ◌≤◌, ◌+◌, ◌*◌, length, take, drop}
use Rattle.parts.specs.Lay.{lay}
use Rattle.records.specs.Bytes.{u32s_bytes}
use Rattle.arrays.specs.Fresh.{turns_of}
use Rattle.engine.proofs.loops.put_turns.Given as goal

abbrev pub invariant-loop-j : goal.invariant-loop-j
invariant-loop-j g l = record {
  fits : l.fn.n ≤ length (g.S.Reads.says l.fn.s).lock;
  kept : length l.buf ≡ length l.fn.buf;
  left : lay l.fn.at (u32s_bytes (turns_of (take l.fn.n (g.S.Reads.says l.fn.s).lock))) l.fn.buf ≡ lay (l.fn.at + 4 * l.j) (u32s_bytes (turns_of (drop l.j (take l.fn.n (g.S.Reads.says l.fn.s).lock)))) l.buf;
}
