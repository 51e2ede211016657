-- What is left to write is laid over what the numbers say now.
use Rattle.std.proofs.Common.{◌≡◌, ◌*◌, length, drop}
use Rattle.arrays.specs.Fresh.{words_from}
use Rattle.records.specs.Bytes.{u32s_of}
use Rattle.cells.specs.Layout.{word_part}
use Rattle.lent_in.specs.Laid.{lay_words}
use Rattle.lent_in.proofs.Loops.{Left}
use Rattle.lent_in.proofs.laid.words.Given as goal

abbrev pub invariant-loop-j : goal.invariant-loop-j
invariant-loop-j l = record {
  kept : length l.s ≡ length l.fn.s;
  left : Left word_part lay_words l.fn.s 0 (words_from l.fn.guards (u32s_of l.fn.values)) l.s l.j (words_from (drop l.j l.fn.guards) (u32s_of (drop (4 * l.j) l.fn.values)));
}
