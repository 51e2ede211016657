-- The three parts of the call's contract: what it tells, by the tag; the numbers; and the state that they say, which follows of them.
use Rattle.std.specs.Prelude.{Err, Ok}
use Rattle.std.proofs.Common.{◌≡◌, ℕ, zero, suc, ◌<◌, ◌≤◌, List, length, sym, refl, ap, ◌∙◌, arith, le-leb}
use borrow.Author.Tests.{lt-leb}
use Rattle.parts.specs.Numbers.{workers}
use Rattle.parts.specs.declared.Refusal.{Refusal}
use Rattle.parts.specs.declared.Refusal.TheVariants.{NoWorker, WorkerIdle, NotCollected}
use Rattle.parts.specs.Told.{Told}
use Rattle.steps.specs.Worker as worker
use Rattle.engine.specs.Calls.{step_told, step_of}
use Rattle.cells.specs.Codes.{at_tag, idle_tag, release_tag}
use Rattle.cells.specs.Layout.{numbers, unpack, number_at}
use Rattle.cells.proofs.Tags.{tag_idle, tag_way, tag_end}
use Rattle.lent_step.specs.Points.{onward_numbers, step_numbers}
use Rattle.lent_step.proofs.Says.{step_says}

-- a tag that is none of those of a worker idle or under way
pub beyond :
    (n : ℕ) →
    (n ≡ 0 → ⊥) → (n ≡ 1 → ⊥) → (n ≡ 2 → ⊥) → (n ≡ 3 → ⊥) → (n ≡ 4 → ⊥) →
    (n ≡ 5 → ⊥) → (n ≡ 6 → ⊥) → (n ≡ 7 → ⊥) → (n ≡ 8 → ⊥) → (n ≡ 9 → ⊥) →
    release_tag < n
beyond zero a₀ a₁ a₂ a₃ a₄ a₅ a₆ a₇ a₈ a₉ = absurd (a₀ refl)
beyond (suc zero) a₀ a₁ a₂ a₃ a₄ a₅ a₆ a₇ a₈ a₉ = absurd (a₁ refl)
beyond (suc (suc zero)) a₀ a₁ a₂ a₃ a₄ a₅ a₆ a₇ a₈ a₉ = absurd (a₂ refl)
beyond (suc (suc (suc zero))) a₀ a₁ a₂ a₃ a₄ a₅ a₆ a₇ a₈ a₉ = absurd (a₃ refl)
beyond (suc (suc (suc (suc zero)))) a₀ a₁ a₂ a₃ a₄ a₅ a₆ a₇ a₈ a₉ = absurd (a₄ refl)
beyond (suc (suc (suc (suc (suc zero))))) a₀ a₁ a₂ a₃ a₄ a₅ a₆ a₇ a₈ a₉ = absurd (a₅ refl)
beyond (suc (suc (suc (suc (suc (suc zero)))))) a₀ a₁ a₂ a₃ a₄ a₅ a₆ a₇ a₈ a₉ = absurd (a₆ refl)
beyond (suc (suc (suc (suc (suc (suc (suc zero))))))) a₀ a₁ a₂ a₃ a₄ a₅ a₆ a₇ a₈ a₉ = absurd (a₇ refl)
beyond (suc (suc (suc (suc (suc (suc (suc (suc zero)))))))) a₀ a₁ a₂ a₃ a₄ a₅ a₆ a₇ a₈ a₉ = absurd (a₈ refl)
beyond (suc (suc (suc (suc (suc (suc (suc (suc (suc zero))))))))) a₀ a₁ a₂ a₃ a₄ a₅ a₆ a₇ a₈ a₉ = absurd (a₉ refl)
beyond (suc (suc (suc (suc (suc (suc (suc (suc (suc (suc n)))))))))) a₀ a₁ a₂ a₃ a₄ a₅ a₆ a₇ a₈ a₉ = omega arith

-- what the contract says of the numbers s, left as t, where r was told
abbrev pub Steps : List ℕ → List ℕ → ℕ → Told → Type 0
Steps s t w r = (r ≡ (step_of (unpack s) w).told) × ((t ≡ step_numbers s w) × (unpack t ≡ (step_of (unpack s) w).engine))

module _ (s : List ℕ) (w : ℕ) (h : numbers ≤ length s) where
  stepped : (t : List ℕ) (r : Told) → r ≡ (step_of (unpack s) w).told → t ≡ step_numbers s w → Steps s t w r
  stepped t r e n = (e, (n, ap unpack n ∙ (step_says s w h).0))

  step_refused : (r : Refusal) → step_told (unpack s) w ≡ Err r → Steps s s w (Err r)
  unfolding step_of step_numbers
  step_refused r e = stepped s _ (simp e) (simp e)

  pub step_nobody : workers ≤ w → Steps s s w (Err NoWorker)
  step_nobody b = step_refused NoWorker (simp (le-leb workers w b))

  pub step_idle : (tag : ℕ) → w < workers → tag ≡ number_at s w at_tag → tag ≡ idle_tag → Steps s s w (Err WorkerIdle)
  unfolding worker.step_by_state
  step_idle tag b e q = step_refused WorkerIdle (simp (lt-leb workers w b, tag_idle s w b tag e q))

  pub step_end : (tag : ℕ) → w < workers → tag ≡ number_at s w at_tag → release_tag < tag → Steps s s w (Err NotCollected)
  unfolding worker.step_by_state
  step_end tag b e q = step_refused NotCollected (simp (lt-leb workers w b, tag_end s w b tag e q))

  -- at the tag k of a worker under way
  pub step_at_lem :
      (k : ℕ) (t : List ℕ) (r : Told) (tag : ℕ) →
      w < workers → tag ≡ number_at s w at_tag → tag ≡ k → (k ≡ idle_tag → ⊥) → k ≤ release_tag →
      (r ≡ Ok tt) × (t ≡ onward_numbers s w k) → Steps s t w r
  unfolding step_of step_numbers worker.step_by_state
  step_at_lem k t r tag b e q n u c =
      let y : k ≡ number_at s w at_tag = sym q ∙ e in
      let a : step_told (unpack s) w ≡ Ok tt = simp (lt-leb workers w b) (tag_way s w b _ _ _ k y n u) in
      stepped t r (c.0 ∙ simp a) (simp a (c.1 ∙ ap (λ (m : ℕ). onward_numbers s w m) y))
