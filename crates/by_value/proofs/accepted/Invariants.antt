-- The whole order comes to what is left of it from the state reached, with the accepted steps so far.
use Rattle.std.proofs.Common.{◌≡◌, drop}
use Rattle.by_value.specs.Timed.{accepted_from}
use Rattle.by_value.proofs.accepted.Given as goal

abbrev pub invariant-loop-w : goal.invariant-loop-w
invariant-loop-w l = accepted_from l.initial.engine l.order 0 ≡ accepted_from l.engine (drop l.w-index l.order) l.n
