-- What is left to put from here are the bytes that are left.
use Rattle.std.proofs.Common.{◌≡◌, ◌+◌, length, drop}
use Rattle.parts.specs.Lay.{lay}
use Rattle.text.proofs.put_text.Given as goal

abbrev pub invariant-loop-b : goal.invariant-loop-b
invariant-loop-b l =
    record {
      size : length l.buf ≡ length l.fn.buf;
      place : l.next ≡ l.fn.at + l.b-index;
      left : lay l.fn.at l.text l.fn.buf ≡ lay l.next (drop l.b-index l.text) l.buf;
    }
