-- Request 03 of every history.
use Rattle.std.specs.Prelude.{Ok}
use Prim.Native.Nat.{ℕ}
use mathlib.Core.Bool.{Bool, true, false}
use mathlib.Core.Logic.{◌↔◌}
use mathlib.Core.Path.{◌≡◌, refl, sym, ◌∙◌, subst}
use native.Mathlib.Omega.{arith}
use Rattle.parts.specs.Parts.{worn_of}
use Rattle.parts.specs.declared.Answer.{Answer}
use Rattle.parts.specs.declared.Answer.TheVariants.{RanYes, RanNo, NotTaken, Worn}
use Rattle.steps.specs.declared.State.{State}
use Rattle.steps.specs.declared.State.TheVariants.{Finished}
use Rattle.engine.specs.Calls.{collect_of}
use Rattle.engine.specs.State.{lock_at}
use Rattle.past.specs.Past.{Past}
use Rattle.histories.specs.History.{follow, sofar}
use Rattle.histories.specs.Worn.{Wears}
use Rattle.histories.proofs.Demand.Demand.{tells, demand_3}
use Rattle.histories.proofs.Simulation.Standing.{standing_past}
use Rattle.histories.proofs.Worn.Looked.{Looked, tried_past}
use Rattle.histories.proofs.Worn.Stays.{worn_follow, no_begin}
use Rattle.engine.specs.Calls.{answered}

not_both : false ≡ true → ⊥
not_both h = let z : ◌≡◌ {A = ℕ} 0 1 = cc in omega arith

-- of a finished worker
by_answer : (a : Answer) (n : ℕ) (f l : Bool) → Looked (Finished a) n f l → (a ≡ Worn) ↔ (f ≡ true)
by_answer RanYes n f l h = (λ e. let z : ◌≡◌ {A = ℕ} 0 1 = cc in absurd (omega arith), λ k. absurd (not_both (sym h ∙ k)))
by_answer RanNo n f l h = (λ e. let z : ◌≡◌ {A = ℕ} 0 1 = cc in absurd (omega arith), λ k. absurd (not_both (sym h ∙ k)))
by_answer NotTaken n f l h = (λ e. let z : ◌≡◌ {A = ℕ} 0 1 = cc in absurd (omega arith), λ k. absurd (not_both (sym h ∙ k)))
by_answer Worn n f l h = (λ e. h.0, λ k. refl)

looked :
    (p : Past) (w : ℕ) (a : Answer) (n m : ℕ) → (collect_of (sofar p).state w).told ≡ Ok (answered a n m) →
    Looked (Finished a) n (worn_of ((sofar p).found w)) (worn_of (lock_at (sofar p).state ((sofar p).tries w).lock))
looked p w a n m h =
    let x = sofar p in
    let found = worn_of (x.found w) in
    let now = worn_of (lock_at x.state (x.tries w).lock) in
    subst (λ (k : ℕ). Looked (Finished a) k found now) (sym ((demand_3 p).promised.counted w a n m h).0)
    (subst (λ (q : State). Looked q (x.steps w) found now) (tells x.state w a n m h).state (tried_past p w))

pub wears : (p : Past) → Wears (sofar p)
wears p =
    let x = sofar p in
    let s = standing_past p in
    record {
      exactly = λ w a n m h. by_answer a n _ _ (looked p w a n m h);
      once = λ w n m h. (looked p w Worn n m h).1;
      lock = λ w n m h. (looked p w Worn n m h).2;
      stays = λ l z more b. worn_follow _ x more s b l z;
      never = λ l z more b w rec. no_begin (follow x more).state w l rec (worn_follow _ x more s b l z);
    }
