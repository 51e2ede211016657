-- The words from the j-th on are yet to be laid.
use Rattle.std.proofs.Common.{◌≡◌, ◌*◌, drop}
use Rattle.parts.specs.Lay.{lay}
use Rattle.records.specs.Bytes.{u32s_of}
use Rattle.arrays.specs.Fresh.{words_from}
use Rattle.arrays.proofs.laid.words_from.Given as goal

abbrev pub invariant-loop-j : goal.invariant-loop-j
invariant-loop-j l =
    lay 0 (words_from l.guards (u32s_of l.values)) l.initial.out ≡
    lay l.j (words_from (drop l.j l.guards) (u32s_of (drop (4 * l.j) l.values))) l.out
