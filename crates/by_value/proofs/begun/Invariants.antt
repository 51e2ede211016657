-- All the begins give what those that are left give from the state reached.
use Rattle.std.proofs.Common.{◌≡◌, ◌-◌}
use Rattle.by_value.specs.Timed.{begun_from}
use Rattle.by_value.proofs.begun.Given as goal

abbrev pub invariant-loop-w : goal.invariant-loop-w
invariant-loop-w l = begun_from l.workers l.initial.engine l.job 0 ≡ begun_from (l.workers - l.w) l.engine l.job l.w
