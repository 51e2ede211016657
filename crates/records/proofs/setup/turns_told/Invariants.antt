-- What is told of all turns is what is told of the rest from the place reached.
use Rattle.std.proofs.Common.{◌≡◌, ◌+◌, ◌*◌}
use Rattle.std.specs.Iterator.Adapters.{enumerate_source, enumerate_count}
use Rattle.std.specs.Slice.Iter.{chunks_exact_rest, chunks_exact_size}
use Rattle.records.specs.Bytes.{u32s_of}
use Rattle.records.specs.Setup.{turns_told}
use Rattle.records.proofs.setup.turns_told.Given as goal

abbrev pub invariant-loop-j : goal.invariant-loop-j
invariant-loop-j l =
    let fours = enumerate_source l.j-iterator in
    let j = enumerate_count l.j-iterator in
    let rest = chunks_exact_rest fours in
    record {
      size : chunks_exact_size fours ≡ 4;
      told : turns_told (u32s_of l.turns) l.from ≡ turns_told (u32s_of rest) (l.from + 4 * j);
    }
