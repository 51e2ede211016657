-- What a call comes to, by what it told: a begin, a step or a worker made idle that was accepted, or nothing new.
use Rattle.std.specs.Prelude.{Err, Ok}
use Prim.Native.Nat.{ℕ, ◌<◌}
use mathlib.Core.Path.{◌≡◌, refl, ap, ◌∙◌}
use mathlib.Core.List.{List}
use Rattle.parts.specs.Numbers.{workers}
use Rattle.parts.specs.Told.{Told}
use Rattle.steps.specs.Worker as steps
use Rattle.steps.specs.Worker.{worker0, collected_of, dropped_of}
use Rattle.steps.specs.declared.Point.{Point}
use Rattle.steps.specs.declared.State.{State}
use Rattle.steps.specs.declared.State.TheVariants.{UnderWay}
use Rattle.steps.specs.declared.Worker.{Worker}
use Rattle.engine.specs.State.{worker_at, with_worker}
use Rattle.engine.specs.Step.{stepped_of}
use Rattle.engine.specs.Calls.{taken_of, begin_told, begin_of, step_told, step_of, collect_told, collect_of, drop_told, drop_of}
use Rattle.engine.specs.Inner.{Begins}
use Rattle.engine.specs.Calls.{Collected}
use Rattle.engine.specs.declared.Engine.{Engine}
use Rattle.engine.specs.declared.Outcome.{Outcome}
use Rattle.engine.proofs.Begins.{begins}
use Rattle.past.specs.Past.{Call, Begin, Step, Collect, Drop, ReadWord, ReadLock, Show, Park}
use Rattle.past.proofs.Accepted.{one_of, point_of_lem, collected_is, dropped_is, begin_told_lem, step_told_lem, drop_told_lem, collect_told_lem}
use Rattle.histories.specs.History.{Sofar, began, stepped, and_now, if_accepted, then_of}

pub data Comes (x y : Sofar) : Type 0 where
  same : y ≡ x → Comes x y
  begun :
      (w l : ℕ) (rec : List ℕ) → Begins x.state w l rec → y ≡ began x w l rec (taken_of x.state w l rec) → Comes x y
  moved :
      (w : ℕ) (p : Point) → w < workers → (worker_at x.state w).state ≡ UnderWay p →
      y ≡ stepped x w (stepped_of x.state w p) → Comes x y
  idled : (w : ℕ) → w < workers → y ≡ and_now x (with_worker x.state w worker0) → Comes x y

module _ (x : Sofar) where
  begin_comes : (w l : ℕ) (rec : List ℕ) → Comes x (then_of x (Begin w l rec))
  unfolding then_of
  begin_comes w l rec = go (begin_told x.state w l rec) refl
    where
      go : (t : Told) → begin_told x.state w l rec ≡ t → Comes x (if_accepted x (begin_of x.state w l rec) (began x w l rec))
      go (Ok _) e =
          begun w l rec (begins x.state w l rec e)
          (ap (λ (o : Outcome). if_accepted x o (began x w l rec)) (begin_told_lem x.state w l rec (Ok tt) e))
      go (Err q) e =
          same (ap (λ (o : Outcome). if_accepted x o (began x w l rec)) (begin_told_lem x.state w l rec (Err q) e))

  step_comes : (w : ℕ) → Comes x (then_of x (Step w))
  unfolding then_of
  step_comes w = go (step_told x.state w) refl
    where
      go : (t : Told) → step_told x.state w ≡ t → Comes x (if_accepted x (step_of x.state w) (stepped x w))
      go (Ok _) e =
          let seat = one_of w (steps.step_by_state (worker_at x.state w)) e in
          let at = point_of_lem (worker_at x.state w) seat.1 in
          moved w at.0 seat.0 at.1
          (ap (λ (o : Outcome). if_accepted x o (stepped x w)) (step_told_lem x.state w (Ok tt) e) ∙
          ap (λ (s : State). stepped x w (steps.on_state s x.state (λ p. stepped_of x.state w p) (λ y. x.state))) at.1)
      go (Err q) e = same (ap (λ (o : Outcome). if_accepted x o (stepped x w)) (step_told_lem x.state w (Err q) e))

  -- collect and drop
  idle_comes : (w : ℕ) (k : Worker) (e : Engine) → w < workers → k ≡ worker0 → e ≡ with_worker x.state w k → Comes x (and_now x e)
  idle_comes w k e h z q = idled w h (ap (and_now x) (q ∙ ap (λ (k : Worker). with_worker x.state w k) z))

  collect_comes : (w : ℕ) → Comes x (then_of x (Collect w))
  unfolding then_of
  collect_comes w = go (collect_told x.state w) refl
    where
      go : (t : Told) → collect_told x.state w ≡ t → Comes x (and_now x (collect_of x.state w).engine)
      go (Ok _) e =
          let seat = one_of w (steps.collect_by_state (worker_at x.state w)) e in
          idle_comes w (collected_of (worker_at x.state w)) (collect_of x.state w).engine seat.0
          (collected_is (worker_at x.state w) seat.1)
          (ap (λ (o : Collected). o.engine) (collect_told_lem x.state w (Ok tt) e))
      go (Err q) e = same (ap (λ (o : Collected). and_now x o.engine) (collect_told_lem x.state w (Err q) e))

  drop_comes : (w : ℕ) → Comes x (then_of x (Drop w))
  unfolding then_of
  drop_comes w = go (drop_told x.state w) refl
    where
      go : (t : Told) → drop_told x.state w ≡ t → Comes x (and_now x (drop_of x.state w).engine)
      go (Ok _) e =
          let seat = one_of w (steps.drop_by_state (worker_at x.state w)) e in
          idle_comes w (dropped_of (worker_at x.state w)) (drop_of x.state w).engine seat.0
          (dropped_is (worker_at x.state w) seat.1)
          (ap (λ (o : Outcome). o.engine) (drop_told_lem x.state w (Ok tt) e))
      go (Err q) e = same (ap (λ (o : Outcome). and_now x o.engine) (drop_told_lem x.state w (Err q) e))

  pub comes : (c : Call) → Comes x (then_of x c)
  unfolding then_of
  comes (Begin w l rec) = begin_comes w l rec
  comes (Step w) = step_comes w
  comes (Collect w) = collect_comes w
  comes (Drop w) = drop_comes w
  comes (ReadWord i) = same refl
  comes (ReadLock l) = same refl
  comes (Show s room) = same refl
  comes (Park room) = same refl
