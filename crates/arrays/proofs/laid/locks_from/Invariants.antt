-- Of the rest, the locks are yet to be laid, from the place reached on.
use Rattle.std.proofs.Common.{◌≡◌, ◌+◌, ◌*◌, length, map}
use Rattle.std.specs.Iterator.Adapters.{enumerate_source, enumerate_count}
use Rattle.std.specs.Slice.Iter.{chunks_exact_rest, chunks_exact_size}
use Rattle.parts.specs.Lay.{lay}
use Rattle.records.specs.Bytes.{u32s_of}
use Rattle.arrays.specs.Fresh.{free_at}
use Rattle.arrays.proofs.laid.locks_from.Given as goal

abbrev pub invariant-loop-j : goal.invariant-loop-j
invariant-loop-j l =
    let fours = enumerate_source l.j-iterator in
    let j = enumerate_count l.j-iterator in
    let rest = chunks_exact_rest fours in
    record {
      size : chunks_exact_size fours ≡ 4;
      left : length rest + 4 * j ≡ length l.turns;
      laid : lay 0 (map free_at (u32s_of l.turns)) l.initial.out ≡ lay j (map free_at (u32s_of rest)) l.out;
    }
