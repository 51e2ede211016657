-- Of the rest, the instructions are yet to be laid, from the place reached on.
use Rattle.std.proofs.Common.{◌≡◌, ◌+◌, ◌*◌, length}
use Rattle.std.specs.Iterator.Adapters.{enumerate_source, enumerate_count}
use Rattle.std.specs.Slice.Iter.{chunks_exact_rest, chunks_exact_size}
use Rattle.parts.specs.Lay.{lay}
use Rattle.records.specs.Job.{instrs_of}
use Rattle.arrays.proofs.laid.program_laid.Given as goal

abbrev pub invariant-loop-j : goal.invariant-loop-j
invariant-loop-j l =
    let fours = enumerate_source l.j-iterator in
    let j = enumerate_count l.j-iterator in
    let rest = chunks_exact_rest fours in
    record {
      size : chunks_exact_size fours ≡ 4;
      left : length rest + 4 * j ≡ length l.code;
      laid : lay l.base (instrs_of l.code) l.fn.program ≡ lay (l.base + j) (instrs_of rest) l.program;
    }
