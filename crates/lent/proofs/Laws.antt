-- The three parts of a call's contract: what it tells, by the tag; the numbers; and the state that they say, which follows of them.
use Rattle.std.specs.Prelude.{Err, Ok, Result}
use Prim.Native.Nat.{ℕ, ◌<◌, ◌≤◌}
use mathlib.Core.Bool.{Bool, true, false}
use mathlib.Core.List.{List}
use mathlib.Core.Path.{◌≡◌, refl, ◌∙◌, ap}
use borrow.Author.Tests.{le-leb, lt-leb, leb-true, leb-false}
use lib.Dec.{leb}
use lib.ListN.{length}
use Rattle.parts.specs.Numbers.{workers}
use Rattle.parts.specs.declared.Refusal.{Refusal}
use Rattle.parts.specs.declared.Refusal.TheVariants.{NoWorker, WorkerIdle, WorkerUnderWay}
use Rattle.parts.specs.Told.{Told}
use Rattle.steps.specs.Worker as worker
use Rattle.steps.specs.Worker.{on_state}
use Rattle.steps.specs.declared.Worker.{Worker}
use Rattle.engine.specs.Calls.{collect_told, collect_of, drop_told, drop_of}
use Rattle.engine.specs.State.{worker_at}
use Rattle.cells.specs.Codes.{at_tag, idle_tag, release_tag}
use Rattle.cells.specs.Layout.{numbers, unpack, number_at, put_idle}
use Rattle.cells.proofs.Row.{worker_is}
use Rattle.cells.proofs.Tags.{tag_idle, tag_way, tag_end}
use Rattle.lent.specs.Calls.{handed_out, collect_numbers, drop_numbers}
use Rattle.lent.proofs.Says.{collect_says, drop_says}
use Rattle.engine.specs.declared.Answered.{Answered}

-- what a drop's contract says of the numbers s, left as t, where r was told; the same of a collect
abbrev pub Drops : List ℕ → List ℕ → ℕ → Told → Type 0
Drops s t w r = (r ≡ (drop_of (unpack s) w).told) × ((t ≡ drop_numbers s w) × (unpack t ≡ (drop_of (unpack s) w).engine))

abbrev pub Collects : List ℕ → List ℕ → ℕ → Result Answered Refusal → Type 0
Collects s t w r = (r ≡ (collect_of (unpack s) w).told) × ((t ≡ collect_numbers s w) × (unpack t ≡ (collect_of (unpack s) w).engine))

module _ (s : List ℕ) (w : ℕ) (h : numbers ≤ length s) where
  dropped : (t : List ℕ) (r : Told) → r ≡ (drop_of (unpack s) w).told → t ≡ drop_numbers s w → Drops s t w r
  dropped t r e n = (e, (n, ap unpack n ∙ (drop_says s w h).0))

  drop_refused : (r : Refusal) → drop_told (unpack s) w ≡ Err r → Drops s s w (Err r)
  unfolding drop_of drop_numbers
  drop_refused r e = dropped s _ (simp e) (simp e)

  pub drop_nobody : workers ≤ w → Drops s s w (Err NoWorker)
  drop_nobody b = drop_refused NoWorker (simp (le-leb workers w b))

  pub drop_idle : (tag : ℕ) → w < workers → tag ≡ number_at s w at_tag → tag ≡ idle_tag → Drops s s w (Err WorkerIdle)
  unfolding worker.drop_by_state
  drop_idle tag b e q = drop_refused WorkerIdle (simp (lt-leb workers w b, tag_idle s w b tag e q))

  pub drop_done :
      (t : List ℕ) (tag : ℕ) → w < workers → tag ≡ number_at s w at_tag → (tag ≡ idle_tag → ⊥) → t ≡ put_idle s w → Drops s t w (Ok tt)
  unfolding drop_of drop_numbers worker.drop_by_state
  drop_done t tag b e q n =
      let a : drop_told (unpack s) w ≡ Ok tt = simp (lt-leb workers w b) (busy (leb tag release_tag) refl) in
      dropped t _ (simp a) (simp a n)
    where
      busy : (x : Bool) → leb tag release_tag ≡ x → on_state {A = Told} (worker_at (unpack s) w).state (Err WorkerIdle) (λ p. Ok tt) (λ x. Ok tt) ≡ Ok tt
      busy true z = tag_way s w b _ _ _ tag e q (leb-true tag release_tag z)
      busy false z = simp (tag_end s w b tag e (leb-false tag release_tag z))

  collected : (t : List ℕ) (r : Result Answered Refusal) → r ≡ (collect_of (unpack s) w).told → t ≡ collect_numbers s w → Collects s t w r
  collected t r e n = (e, (n, ap unpack n ∙ (collect_says s w h).0))

  collect_refused : (r : Refusal) → collect_told (unpack s) w ≡ Err r → Collects s s w (Err r)
  unfolding collect_of collect_numbers
  collect_refused r e = collected s _ (simp e) (simp e)

  pub collect_nobody : workers ≤ w → Collects s s w (Err NoWorker)
  collect_nobody b = collect_refused NoWorker (simp (le-leb workers w b))

  pub collect_idle :
      (tag : ℕ) → w < workers → tag ≡ number_at s w at_tag → tag ≡ idle_tag → Collects s s w (Err WorkerIdle)
  unfolding worker.collect_by_state
  collect_idle tag b e q = collect_refused WorkerIdle (simp (lt-leb workers w b, tag_idle s w b tag e q))

  pub collect_way :
      (tag : ℕ) → w < workers → tag ≡ number_at s w at_tag → (tag ≡ idle_tag → ⊥) → tag ≤ release_tag →
      Collects s s w (Err WorkerUnderWay)
  unfolding worker.collect_by_state
  collect_way tag b e q u = collect_refused WorkerUnderWay (simp (lt-leb workers w b) (tag_way s w b _ _ _ tag e q u))

  pub collect_done :
      (t : List ℕ) (r : Result Answered Refusal) (tag : ℕ) →
      w < workers → tag ≡ number_at s w at_tag → release_tag < tag → r ≡ handed_out s w → t ≡ put_idle s w → Collects s t w r
  unfolding collect_of collect_numbers worker.collect_by_state number_at handed_out
  collect_done t r tag b e u y m =
      let q = tag_end s w b tag e u in
      let z = ap (λ (k : Worker). k.steps) (worker_is s w b) in
      let n = ap (λ (k : Worker). k.filled) (worker_is s w b) in
      collected t r (y ∙ simp (lt-leb workers w b, q, z, n)) (simp (lt-leb workers w b, q) m)
