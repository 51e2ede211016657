-- The state that a worker is in, by its tag.
use Rattle.std.specs.Prelude.{Err, Ok}
use Prim.Native.Nat.{ℕ, zero, suc, ◌<◌, ◌≤◌}
use mathlib.Core.Bool.{false}
use mathlib.Core.List.{List}
use mathlib.Core.Path.{◌≡◌, refl, ◌∙◌, sym, ap}
use native.Mathlib.Omega.{arith}
use borrow.Author.Tests.{ne_eqb}
use lib.Dec.{eqb}
use Rattle.parts.specs.Numbers.{workers}
use Rattle.parts.specs.declared.Answer.{Answer}
use Rattle.parts.specs.declared.Refusal.TheVariants.{WorkerUnderWay, NotCollected}
use Rattle.steps.specs.Worker.{on_state, begin_by_state}
use Rattle.steps.specs.declared.State.{State}
use Rattle.steps.specs.declared.State.TheVariants.{Idle, Finished}
use Rattle.steps.specs.declared.Worker.{Worker}
use Rattle.engine.specs.State.{worker_at}
use Rattle.cells.specs.Codes.{state_in, answer_in, at_tag, at_new, idle_tag, release_tag}
use Rattle.cells.specs.Layout.{unpack, row_of, number_at}
use Rattle.cells.proofs.Row.{worker_is}

module _ (s : List ℕ) (w : ℕ) (b : w < workers) where
  state_is : (worker_at (unpack s) w).state ≡ state_in (row_of s w)
  state_is = ap (λ (k : Worker). k.state) (worker_is s w b)

  pub tag_idle : (tag : ℕ) → tag ≡ number_at s w at_tag → tag ≡ idle_tag → (worker_at (unpack s) w).state ≡ Idle
  unfolding state_in number_at
  tag_idle tag e q = state_is ∙ (let z : number_at s w at_tag ≡ idle_tag = sym e ∙ q in simp z)

  -- under way at some point, whichever: what is the same for all of them
  way : {A : Type 0} (a x : A) (g : Answer → A) (n : ℕ) → number_at s w at_tag ≡ n → (n ≡ idle_tag → ⊥) → n ≤ release_tag → on_state (state_in (row_of s w)) a (λ p. x) g ≡ x
  unfolding state_in number_at
  way a x g zero e q h = absurd (q refl)
  way a x g (suc zero) e q h = simp e
  way a x g (suc (suc zero)) e q h = simp e
  way a x g (suc (suc (suc zero))) e q h = simp e
  way a x g (suc (suc (suc (suc zero)))) e q h = simp e
  way a x g (suc (suc (suc (suc (suc zero))))) e q h = simp e
  way a x g (suc (suc (suc (suc (suc (suc zero)))))) e q h = simp e
  way a x g (suc (suc (suc (suc (suc (suc (suc zero))))))) e q h = simp e
  way a x g (suc (suc (suc (suc (suc (suc (suc (suc zero)))))))) e q h = simp e
  way a x g (suc (suc (suc (suc (suc (suc (suc (suc (suc zero))))))))) e q h = simp e
  way a x g (suc (suc (suc (suc (suc (suc (suc (suc (suc (suc n)))))))))) e q h = absurd (omega arith)

  pub tag_way :
      {A : Type 0} (a x : A) (g : Answer → A) (tag : ℕ) → tag ≡ number_at s w at_tag → (tag ≡ idle_tag → ⊥) → tag ≤ release_tag →
      on_state (worker_at (unpack s) w).state a (λ p. x) g ≡ x
  tag_way a x g tag e q h = ap (λ (y : State). on_state y a (λ p. x) g) state_is ∙ way a x g tag (sym e) q h

  pub tag_end : (tag : ℕ) → tag ≡ number_at s w at_tag → release_tag < tag → (worker_at (unpack s) w).state ≡ Finished (answer_in (number_at s w at_new))
  unfolding state_in number_at
  tag_end tag e h =
      state_is ∙
      simp (
        no 0 (λ z. omega (arith, e)),
        no 1 (λ z. omega (arith, e)),
        no 2 (λ z. omega (arith, e)),
        no 3 (λ z. omega (arith, e)),
        no 4 (λ z. omega (arith, e)),
        no 5 (λ z. omega (arith, e)),
        no 6 (λ z. omega (arith, e)),
        no 7 (λ z. omega (arith, e)),
        no 8 (λ z. omega (arith, e)),
        no 9 (λ z. omega (arith, e)),
      )
    where
      no : (k : ℕ) → (number_at s w at_tag ≡ k → ⊥) → eqb (number_at s w at_tag) k ≡ false
      no k h = ne_eqb (number_at s w at_tag) k h

-- may it begin? by its tag
module _ (s : List ℕ) (w : ℕ) (b : w < workers) (tag : ℕ) (e : tag ≡ number_at s w at_tag) where
  pub begin_idle : tag ≡ idle_tag → Ok tt ≡ begin_by_state (worker_at (unpack s) w)
  unfolding begin_by_state
  begin_idle q = simp (tag_idle s w b tag e q)

  pub begin_way : (tag ≡ idle_tag → ⊥) → tag ≤ release_tag → Err WorkerUnderWay ≡ begin_by_state (worker_at (unpack s) w)
  unfolding begin_by_state
  begin_way q h = sym (tag_way s w b _ _ _ tag e q h)

  pub begin_end : release_tag < tag → Err NotCollected ≡ begin_by_state (worker_at (unpack s) w)
  unfolding begin_by_state
  begin_end h = simp (tag_end s w b tag e h)
