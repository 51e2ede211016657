use Rattle.by_value.proofs.Laws.{accepted_turn, accepted_end}
use Rattle.by_value.proofs.accepted.Goals as goal

pub loop-w-preserved : goal.loop-w-preserved
loop-w-preserved c = accepted_turn _ _ _ _ _ _ _ _ _ c.loop-w.invariant c.loop-w-test.true c.from.ensures c.step.ensures.after c.step.ensures.value c.counted-n.ensures

pub returns : goal.returns
returns c = accepted_end _ _ _ _ _ c.loop-w.invariant c.loop-w-test.false
