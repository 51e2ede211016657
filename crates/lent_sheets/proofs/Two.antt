-- What a worker's numbers mark, by its tag, is what the worker marks that they say.
use Prim.Native.Nat.{ℕ, zero, suc, ◌<◌, ◌≤◌}
use mathlib.Core.List.{List}
use mathlib.Core.Path.{◌≡◌, refl, ◌∙◌, sym, ap}
use native.Mathlib.Omega.{arith}
use Rattle.parts.specs.Numbers.{workers}
use Rattle.sheets.specs.Marks.{sheet_marks, holder_marks, worker_marks}
use Rattle.steps.specs.Places.{helped_of}
use Rattle.steps.specs.Worker.{on_state}
use Rattle.engine.specs.State.{worker_at}
use Rattle.cells.specs.Codes.{state_in, byte_of, at_tag, at_own, idle_tag, release_tag}
use Rattle.cells.specs.Layout.{unpack, row_of, number_at}
use Rattle.cells.proofs.Row.{worker_is}
use Rattle.cells.proofs.Tags.{tag_idle, tag_end}
use Rattle.lent_sheets.specs.Two.{helped_in, two_marks}

module _ (s : List ℕ) (w : ℕ) (b : w < workers) (marks tag : ℕ) (e : tag ≡ number_at s w at_tag) where
  pub idle_marks : tag ≡ idle_tag → marks ≡ worker_marks marks (worker_at (unpack s) w)
  unfolding worker_marks
  idle_marks q = simp (tag_idle s w b tag e q)

  pub end_marks : release_tag < tag → marks ≡ worker_marks marks (worker_at (unpack s) w)
  unfolding worker_marks
  end_marks q = simp (tag_end s w b tag e q)

  -- under way at some point: the own sheet, and the one that is helped there
  way :
      (m n : ℕ) → number_at s w at_tag ≡ n → (n ≡ idle_tag → ⊥) → n ≤ release_tag →
      holder_marks m (helped_in n (number_at s w 4)) ≡ on_state (state_in (row_of s w)) marks (λ p. holder_marks m (helped_of p)) (λ x. marks)
  unfolding state_in number_at helped_in helped_of
  way m zero z q h = absurd (q refl)
  way m (suc zero) z q h = simp z
  way m (suc (suc zero)) z q h = simp z
  way m (suc (suc (suc zero))) z q h = simp z
  way m (suc (suc (suc (suc zero)))) z q h = simp z
  way m (suc (suc (suc (suc (suc zero))))) z q h = simp z
  way m (suc (suc (suc (suc (suc (suc zero)))))) z q h = simp z
  way m (suc (suc (suc (suc (suc (suc (suc zero))))))) z q h = simp z
  way m (suc (suc (suc (suc (suc (suc (suc (suc zero)))))))) z q h = simp z
  way m (suc (suc (suc (suc (suc (suc (suc (suc (suc zero))))))))) z q h = simp z
  way m (suc (suc (suc (suc (suc (suc (suc (suc (suc (suc n)))))))))) z q h = absurd (omega arith)

  pub way_marks :
      (r : ℕ) → (tag ≡ idle_tag → ⊥) → tag ≤ release_tag → r ≡ two_marks marks s w tag → r ≡ worker_marks marks (worker_at (unpack s) w)
  unfolding worker_marks two_marks number_at
  way_marks r q h y =
      y ∙ way (sheet_marks marks (byte_of (number_at s w at_own))) tag (sym e) q h ∙ sym (ap (worker_marks marks) (worker_is s w b))
