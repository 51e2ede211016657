-- A turn writes the first of those that are left.
use Rattle.std.proofs.Common.{refl, ◌∙◌, arith, rules}
use Rattle.arrays.proofs.Laws.{words_next, words_none}
use Rattle.lent_in.proofs.Loops.{lays_words, laid_turn, laid_end}
use Rattle.lent_in.proofs.laid.words.Goals as goal

pub loop-j-init : goal.loop-j-init
loop-j-init c = record { kept = refl; left = (refl, refl) }

pub loop-j-preserved : goal.loop-j-preserved
loop-j-preserved c = record {
  kept = c.put.auto.s ∙ c.loop-j.invariant.kept;
  left = laid_turn lays_words _ _ _ _ _ _ _ _ _ _ c.loop-j.invariant.left c.put.ensures (words_next c.args.guards.now c.args.values.now _ c.loop-j.j c.u32_at.ensures (omega arith) (search rules)) refl;
}

pub returns : goal.returns
returns c = laid_end lays_words _ _ _ _ _ _ c.loop-j.invariant.left (words_none _ _ _ c.loop-j-test.false)
