-- One step is refused, is accepted, or all were.
use Rattle.session.proofs.Replies.{stop_value, stop_after, steps_turn, end_value, end_after, steps-start}
use Rattle.session.proofs.obey.on_step.Goals as goal

pub loop-done-init : goal.loop-done-init
loop-done-init c = steps-start c.args.engine.now c.args.w c.args.n

pub loop-done-preserved : goal.loop-done-preserved
loop-done-preserved c = search steps_turn

pub returns-in-Err-clause-value : goal.returns-in-Err-clause-value
returns-in-Err-clause-value c = search stop_value

pub returns-in-Err-clause-after : goal.returns-in-Err-clause-after
returns-in-Err-clause-after c = search stop_after

pub returns-clause-value : goal.returns-clause-value
returns-clause-value c = search end_value

pub returns-clause-after : goal.returns-clause-after
returns-clause-after c = search end_after
