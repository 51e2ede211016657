-- What is told of the rest from the place reached is what is told of the whole code.
use Rattle.std.proofs.Common.{◌≡◌, ◌+◌, ◌*◌, length}
use Rattle.std.specs.Iterator.Adapters.{enumerate_source, enumerate_count}
use Rattle.std.specs.Slice.Iter.{chunks_exact_rest, chunks_exact_size}
use Rattle.parts.specs.Told.{Told}
use Rattle.records.specs.Inner.{Lowest}
use Rattle.records.specs.Job.{instrs_of}
use Rattle.records.proofs.job.lowest.Given as goal

abbrev pub invariant-loop-place : goal.invariant-loop-place
invariant-loop-place g l =
    let fours = enumerate_source l.place-iterator in
    let place = enumerate_count l.place-iterator in
    let rest = chunks_exact_rest fours in
    record {
      size : chunks_exact_size fours ≡ 4;
      left : length rest + 4 * place ≡ length l.code;
      lowest : (t : Told) → Lowest (goal.F-post g l.told) (instrs_of rest) place t →
          Lowest (goal.F-post g l.told) (instrs_of l.code) 0 t;
    }
