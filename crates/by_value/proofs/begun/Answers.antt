use Rattle.by_value.proofs.Laws.{begun_turn, begun_end}
use Rattle.by_value.proofs.begun.Goals as goal

pub loop-w-preserved : goal.loop-w-preserved
loop-w-preserved c = begun_turn _ _ _ _ _ _ c.loop-w.invariant c.loop-w-test.true c.begin-told.ensures.after

pub returns : goal.returns
returns c = begun_end _ _ _ _ _ c.loop-w.invariant c.loop-w-test.false
