-- What is told of the steps so far and of those that are left is told of all.
use Rattle.std.proofs.Common.{◌≡◌, ◌-◌}
use Rattle.session.specs.Reply.{steps_from}
use Rattle.session.proofs.obey.on_step.Given as goal

abbrev pub invariant-loop-done : goal.invariant-loop-done
invariant-loop-done l = steps_from l.n l.initial.engine l.w 0 ≡ steps_from (l.n - l.done) l.engine l.w l.done
