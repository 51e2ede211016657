-- A begin and the steps of one worker leave every other worker as it was.
use Rattle.std.specs.Prelude.{Err, Ok}
use Prim.Native.Nat.{ℕ, zero, suc, ◌<◌}
use mathlib.Core.List.{List, ◌∷◌}
use mathlib.Core.Logic.{◌≢◌}
use mathlib.Core.Path.{◌≡◌, refl, ap, ◌∙◌}
use Rattle.parts.specs.Numbers.{workers}
use Rattle.parts.specs.declared.Refusal.TheVariants.{NotCollected, WorkerIdle}
use Rattle.records.specs.Bytes.{AllBytes}
use Rattle.steps.specs.Worker as steps
use Rattle.steps.specs.declared.State.{State}
use Rattle.steps.specs.declared.State.TheVariants.{Idle, UnderWay, Finished}
use Rattle.engine.specs.Calls.{step_of}
use Rattle.engine.specs.Inner.{Begins}
use Rattle.engine.specs.State.{worker_at}
use Rattle.engine.specs.Step.{stepped_of}
use Rattle.engine.specs.declared.Engine.{Engine}
use Rattle.engine.specs.declared.Outcome.{Outcome}
use Rattle.past.specs.Past as past
use Rattle.past.specs.Past.{Begin, Step, AllRecords, after}
use Rattle.past.proofs.Accepted.{begin_told_lem, step_told_lem}
use Rattle.helping.specs.Machine.{Rules}
use Rattle.helping.proofs.Put.{put_other}
use Rattle.ranges.specs.Good.{Good}
use Rattle.histories.specs.History.{Sofar, then_of, follow}
use Rattle.histories.proofs.Demand.Helped.{told_in, told_accepted}
use Rattle.histories.proofs.Simulation.Pieces.{worker_begun, worker_there}
use Rattle.histories.proofs.Simulation.Standing.{Standing, state_then, standing_then}

stepped_there : (e : Engine) → Good e → (w : ℕ) → w < workers → (v : ℕ) → v ≢ w → worker_at (after e (Step w)) v ≡ worker_at e v
unfolding after
stepped_there e g w h v d = go (worker_at e w).state refl
  where
    go : (t : State) → (worker_at e w).state ≡ t → worker_at (step_of e w).engine v ≡ worker_at e v
    go Idle q = ap (λ (o : Outcome). worker_at o.engine v) (step_told_lem e w (Err WorkerIdle) (told_in e w h Idle q))
    go (UnderWay p) q =
        ap (λ (o : Outcome). worker_at o.engine v) (step_told_lem e w (Ok tt) (told_in e w h (UnderWay p) q)) ∙
        ap (λ (t : State). worker_at (steps.on_state t e (λ p. stepped_of e w p) (λ y. e)) v) q ∙ worker_there e g w h p v d
    go (Finished a) q = ap (λ (o : Outcome). worker_at o.engine v) (step_told_lem e w (Err NotCollected) (told_in e w h (Finished a) q))

steps_there :
    (K : Rules) (x : Sofar) → Standing K x → (w : ℕ) → w < workers → (v : ℕ) → v ≢ w → (n : ℕ) →
    worker_at (follow x (past.steps n w)).state v ≡ worker_at x.state v
unfolding follow AllRecords
steps_there K x s w h v d zero = refl
steps_there K x s w h v d (suc n) =
    steps_there K (then_of x (Step w)) (standing_then K x (Step w) s tt) w h v d n ∙
    ap (λ (e : Engine). worker_at e v) (state_then x (Step w)) ∙ stepped_there x.state s.good w h v d

pub others_there :
    (K : Rules) (x : Sofar) → Standing K x → (w l : ℕ) (rec : List ℕ) → AllBytes rec → Begins x.state w l rec → (v : ℕ) → v ≢ w →
    (n : ℕ) → worker_at (follow x (Begin w l rec ∷ past.steps n w)).state v ≡ worker_at x.state v
unfolding follow after AllRecords
others_there K x s w l rec bytes b v d n =
    steps_there K (then_of x (Begin w l rec)) (standing_then K x (Begin w l rec) s (bytes, tt)) w b.worker v d n ∙
    ap (λ (e : Engine). worker_at e v) (state_then x (Begin w l rec)) ∙
    ap (λ (o : Outcome). worker_at o.engine v) (begin_told_lem x.state w l rec (Ok tt) (told_accepted x.state w l rec b)) ∙
    worker_begun x.state s.good w l rec b v ∙ put_other (worker_at x.state) w _ v d
