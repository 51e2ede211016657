-- Ten times a number that is too large is too large with its digit too.
use Rattle.std.proofs.Common.{◌∙◌}
use Rattle.script.proofs.Laws.{digit_large}
use Rattle.script.proofs.with_digit.Goals as goal

pub returns-in_err-checked_mul : goal.returns-in_err-checked_mul
returns-in_err-checked_mul c =
    c.from_residual-in_err-checked_mul.ensures ∙
    digit_large c.checked_mul.result c.in_ok-digit.digit c.from.result c.args.b c.args.n c.in_ok-digit.ensures.value
    c.from.ensures c.checked_mul.ensures c.in_err-checked_mul.was
