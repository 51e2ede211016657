use Rattle.std.proofs.Common.{length, length-append, ap, ◌∙◌, arith, refl}
use Rattle.std.proofs.lemmas.Grind.{common_steps}
use Rattle.records.proofs.Laws.{lowest_turn, lowest_end}
use Rattle.records.proofs.job.lowest.Goals as goal

pub loop-place-preserved : goal.loop-place-preserved
loop-place-preserved g c =
    let s = c.in-Some.ensures.steps in
    let i = c.loop-place.invariant in
    let w = c.in_ok-told.was in
    record {
      size = s.0.0 ∙ i.size;
      left = omega (arith, simp length-append at (ap length s.0.1.0));
      lowest = λ t h. i.lowest t (lowest_turn _ t _ _ _ _ _ _ _ _ _ _ s.0.1.0 (s.0.1.1 ∙ i.size) i.left (omega (arith, s.1)) (omega (arith, s.1)) s.2 c.first_instr.ensures c.told.ensures (λ z. h) (λ r e. grind (arith, common_steps, w, e)));
    }

pub returns-in_err-told : goal.returns-in_err-told
returns-in_err-told g c =
    let s = c.in-Some.ensures.steps in
    let i = c.loop-place.invariant in
    let w = c.in_err-told.was in
    i.lowest _ (lowest_turn _ _ _ _ _ _ _ _ _ _ _ _ s.0.1.0 (s.0.1.1 ∙ i.size) i.left (omega (arith, s.1)) (omega (arith, s.1)) s.2 c.first_instr.ensures c.told.ensures (λ e. absurd (grind (arith, common_steps, w, e))) (λ r e. grind (arith, common_steps, w, e)))

pub returns : goal.returns
returns g c = let i = c.loop-place.invariant in i.lowest _ (lowest_end _ _ _ _ (omega (arith, c.in-None.ensures.steps.0.1.0)) refl)
