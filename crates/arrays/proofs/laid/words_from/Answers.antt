use Rattle.arrays.proofs.Laws.{words_turn, words_end}
use Rattle.arrays.proofs.laid.words_from.Goals as goal

pub loop-j-preserved : goal.loop-j-preserved
loop-j-preserved c = words_turn _ _ _ _ _ _ c.loop-j.invariant c.u32_at.ensures c.loop-j-test.true c.requires.1

pub returns : goal.returns
returns c = words_end _ _ _ _ _ c.loop-j.invariant c.loop-j-test.false
