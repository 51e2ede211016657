-- The place that `position` finds is the first one.
use Rattle.std.proofs.Common.{◌≡◌, ◌∙◌, sym, rules, tests}
use Rattle.std.proofs.lemmas.Iterator.{IsFirst-from_position, YieldsList-from_slice}
use Rattle.script.proofs.Laws.{first_found}
use Rattle.script.proofs.first_at.Goals as goal

pub returns-clause-value : goal.returns-clause-value
returns-clause-value c =
    let e =
    first_found c.args.x c.args.s.now c.position.result
    (IsFirst-from_position _ _ _ (λ b. b ≡ c.args.x) (λ b. b ≡ c.args.x → ⊥) c.position.ensures.ran (YieldsList-from_slice c.args.s.now cc)
    (λ x q k. search (rules, tests)) (λ x q k. search (rules, tests))) in
    c.unwrap_or.ensures ∙ sym e
