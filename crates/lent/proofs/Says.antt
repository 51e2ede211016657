-- The numbers that collect and drop leave say the state of the call by value: by the definitions alone, of any numbers that are enough
-- for a state.
use Prim.Native.Nat.{ℕ, ◌<◌, ◌≤◌}
use mathlib.Core.Bool.{Bool, true, false}
use mathlib.Core.List.{List}
use mathlib.Core.Path.{◌≡◌, refl}
use borrow.Author.Tests.{leb-false, lt-leb}
use lib.Dec.{leb}
use lib.ListN.{length}
use Rattle.parts.specs.Numbers.{workers}
use Rattle.steps.specs.Worker as worker
use Rattle.steps.specs.Worker.{collected_of, dropped_of}
use Rattle.steps.specs.declared.State.{State}
use Rattle.steps.specs.declared.State.TheVariants.{Idle, UnderWay, Finished}
use Rattle.engine.specs.Calls.{collect_of, drop_of}
use Rattle.engine.specs.State.{worker_at}
use Rattle.cells.specs.Layout.{numbers, unpack}
use Rattle.cells.proofs.Row.{unpack_idle}
use Rattle.cells.proofs.Unpack.{Says}
use Rattle.lent.specs.Calls.{collect_numbers, drop_numbers}

module _ (s : List ℕ) (w : ℕ) (h : numbers ≤ length s) where
  pub collect_says : Says s (collect_numbers s w) (collect_of (unpack s) w).engine
  unfolding collect_numbers collect_of worker.collect_by_state collected_of
  collect_says = go (leb workers w) refl
    where
      by : w < workers → (q : State) → (worker_at (unpack s) w).state ≡ q → Says s (collect_numbers s w) (collect_of (unpack s) w).engine
      by b Idle e = simp (lt-leb workers w b, e) (refl, refl)
      by b (UnderWay p) e = simp (lt-leb workers w b, e) (refl, refl)
      by b (Finished x) e = simp (lt-leb workers w b, e) (unpack_idle s w h b)

      go : (t : Bool) → leb workers w ≡ t → Says s (collect_numbers s w) (collect_of (unpack s) w).engine
      go true e = simp e (refl, refl)
      go false e = by (leb-false workers w e) (worker_at (unpack s) w).state refl

  pub drop_says : Says s (drop_numbers s w) (drop_of (unpack s) w).engine
  unfolding drop_numbers drop_of worker.drop_by_state dropped_of
  drop_says = go (leb workers w) refl
    where
      by : w < workers → (q : State) → (worker_at (unpack s) w).state ≡ q → Says s (drop_numbers s w) (drop_of (unpack s) w).engine
      by b Idle e = simp (lt-leb workers w b, e) (refl, refl)
      by b (UnderWay p) e = simp (lt-leb workers w b, e) (unpack_idle s w h b)
      by b (Finished x) e = simp (lt-leb workers w b, e) (unpack_idle s w h b)

      go : (t : Bool) → leb workers w ≡ t → Says s (drop_numbers s w) (drop_of (unpack s) w).engine
      go true e = simp e (refl, refl)
      go false e = by (leb-false workers w e) (worker_at (unpack s) w).state refl
