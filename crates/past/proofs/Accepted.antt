-- What a call finds that is accepted, and what it gives, by what is told of it.
use Rattle.std.specs.Prelude.{Err, Ok}
use Prim.Native.Nat.{ℕ, ◌<◌}
use native.Mathlib.Omega.{arith}
use mathlib.Core.Path.{◌≡◌, refl, ap}
use mathlib.Core.List.{List}
use lib.Dec.{leb}
use borrow.Author.Tests.{leb-false}
use Rattle.parts.specs.Numbers.{workers}
use Rattle.parts.specs.Told.{on_told, refuse_if, ◌then◌}
use Rattle.parts.specs.declared.Answer.{Answer}
use Rattle.parts.specs.declared.Refusal.TheVariants.{NoWorker, WorkerUnderWay, NotCollected, WorkerIdle}
use Rattle.parts.specs.Told.{Told}
use Rattle.parts.proofs.Order.{both_pass, row_passes}
use Rattle.steps.specs.Worker as steps
use Rattle.steps.specs.Worker.{worker0, collected_of, dropped_of}
use Rattle.steps.specs.declared.Point.{Point}
use Rattle.steps.specs.declared.State.{State}
use Rattle.steps.specs.declared.State.TheVariants.{Idle, UnderWay, Finished}
use Rattle.steps.specs.declared.Worker.{Worker}
use Rattle.engine.specs.State.{worker_at, with_worker}
use Rattle.engine.specs.Calls.{outcome_of, taken_of, begin_told, begin_of, step_told, onward_of, step_of, collect_told, last_answer, collect_of, drop_told, drop_of}
use Rattle.engine.specs.Calls.{Collected}
use Rattle.engine.specs.declared.Engine.{Engine}
use Rattle.engine.specs.Calls.{answered}

-- a worker whose call passed its first row is one of the workers
pub one_of : (w : ℕ) (rest : Told) → (refuse_if (leb workers w) NoWorker then rest) ≡ Ok tt → (w < workers) × (rest ≡ Ok tt)
one_of w rest a =
    let both = both_pass (refuse_if (leb workers w) NoWorker) rest a in
    (leb-false workers w (row_passes (leb workers w) NoWorker both.0), both.1)

-- the state of a worker that may begin, step, collect
pub idle_of : (k : Worker) → steps.begin_by_state k ≡ Ok tt → k.state ≡ Idle
unfolding steps.begin_by_state
idle_of k a = go k.state a
  where
    go : (s : State) → steps.on_state {A = Told} s (Ok tt) (λ p. Err WorkerUnderWay) (λ x. Err NotCollected) ≡ Ok tt → s ≡ Idle
    go Idle e = refl
    go (UnderWay p) e = let z : ◌≡◌ {A = ℕ} 0 1 = cc in absurd (omega arith)
    go (Finished x) e = let z : ◌≡◌ {A = ℕ} 0 1 = cc in absurd (omega arith)

pub point_of_lem : (k : Worker) → steps.step_by_state k ≡ Ok tt → (p : Point) × (k.state ≡ UnderWay p)
unfolding steps.step_by_state
point_of_lem k a = go k.state a
  where
    go : (s : State) → steps.on_state {A = Told} s (Err WorkerIdle) (λ p. Ok tt) (λ x. Err NotCollected) ≡ Ok tt →
        (p : Point) × (s ≡ UnderWay p)
    go Idle e = let z : ◌≡◌ {A = ℕ} 0 1 = cc in absurd (omega arith)
    go (UnderWay p) e = (p, refl)
    go (Finished x) e = let z : ◌≡◌ {A = ℕ} 0 1 = cc in absurd (omega arith)

pub finished_of : (k : Worker) → steps.collect_by_state k ≡ Ok tt → (a : Answer) × (k.state ≡ Finished a)
unfolding steps.collect_by_state
finished_of k a = go k.state a
  where
    go : (s : State) → steps.on_state {A = Told} s (Err WorkerIdle) (λ p. Err WorkerUnderWay) (λ x. Ok tt) ≡ Ok tt →
        (a : Answer) × (s ≡ Finished a)
    go Idle e = let z : ◌≡◌ {A = ℕ} 0 1 = cc in absurd (omega arith)
    go (UnderWay p) e = let z : ◌≡◌ {A = ℕ} 0 1 = cc in absurd (omega arith)
    go (Finished x) e = (x, refl)

pub collected_is : (k : Worker) → steps.collect_by_state k ≡ Ok tt → collected_of k ≡ worker0
unfolding collected_of
collected_is k a = ap (λ (s : State). steps.on_state s k (λ p. k) (λ x. worker0)) (finished_of k a).1

pub dropped_is : (k : Worker) → steps.drop_by_state k ≡ Ok tt → dropped_of k ≡ worker0
unfolding steps.drop_by_state dropped_of
dropped_is k a = go k.state a
  where
    go : (s : State) → steps.on_state {A = Told} s (Err WorkerIdle) (λ p. Ok tt) (λ x. Ok tt) ≡ Ok tt →
        steps.on_state s k (λ p. worker0) (λ x. worker0) ≡ worker0
    go Idle e = let z : ◌≡◌ {A = ℕ} 0 1 = cc in absurd (omega arith)
    go (UnderWay p) e = refl
    go (Finished x) e = refl

-- what a call gives, by what is told of it
pub begin_told_lem :
    (e : Engine) (w l : ℕ) (rec : List ℕ) (t : Told) → begin_told e w l rec ≡ t →
    begin_of e w l rec ≡ outcome_of e t (taken_of e w l rec)
unfolding begin_of
begin_told_lem e w l rec t q = ap (λ (t : Told). outcome_of e t (taken_of e w l rec)) q

pub step_told_lem : (e : Engine) (w : ℕ) (t : Told) → step_told e w ≡ t → step_of e w ≡ outcome_of e t (onward_of e w)
unfolding step_of
step_told_lem e w t q = ap (λ (t : Told). outcome_of e t (onward_of e w)) q

pub drop_told_lem :
    (e : Engine) (w : ℕ) (t : Told) → drop_told e w ≡ t → drop_of e w ≡ outcome_of e t (with_worker e w (dropped_of (worker_at e w)))
unfolding drop_of
drop_told_lem e w t q = ap (λ (t : Told). outcome_of e t (with_worker e w (dropped_of (worker_at e w)))) q

-- a collect whose order tells t
abbrev pub collected_to : Engine → ℕ → Told → Collected
collected_to e w t =
    on_told t
    (record {
      engine = with_worker e w (collected_of (worker_at e w));
      told = Ok (answered (last_answer (worker_at e w)) (worker_at e w).steps (worker_at e w).filled);
    })
    (λ r. record { engine = e; told = Err r })

pub collect_told_lem : (e : Engine) (w : ℕ) (t : Told) → collect_told e w ≡ t → collect_of e w ≡ collected_to e w t
unfolding collect_of
collect_told_lem e w t q = ap (collected_to e w) q
