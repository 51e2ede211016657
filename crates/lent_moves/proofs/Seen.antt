-- What a step looks at, by what the callees read.
use Rattle.std.proofs.Common.{◌≡◌, ℕ, ◌%◌, ◌<◌, List, sym, ap, ◌∙◌}
use Rattle.parts.specs.Numbers.{workers, most_locks}
use Rattle.steps.specs.declared.Worker.{Worker}
use Rattle.cells.specs.Codes.{byte_of, at_lock, at_own}
use Rattle.cells.specs.Layout.{number_at}
use Rattle.cells.proofs.Row.{worker_is}
use Rattle.lent_moves.specs.Looks.{own_now, lock_place}

pub own_is : (s : List ℕ) (w x r : ℕ) → w < workers → x ≡ number_at s w at_own → r ≡ byte_of x → r ≡ own_now s w
unfolding number_at
own_is s w x r b e f = f ∙ ap byte_of e ∙ ap (λ (y : Worker). y.own) (sym (worker_is s w b))

pub lock_is : (s : List ℕ) (w x r : ℕ) → w < workers → x ≡ number_at s w at_lock → r ≡ byte_of x → r % most_locks ≡ lock_place s w
unfolding number_at
lock_is s w x r b e f = ap (λ (n : ℕ). n % most_locks) (f ∙ ap byte_of e ∙ ap (λ (y : Worker). y.lock) (sym (worker_is s w b)))
