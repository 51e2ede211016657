-- What every accepted call keeps of what a history comes to, every history keeps.
use Prim.Native.Nat.{ℕ, ◌<◌}
use mathlib.Core.List.{List, [], ◌∷◌}
use mathlib.Core.Path.{◌≡◌, sym, subst}
use Rattle.parts.specs.Numbers.{workers}
use Rattle.steps.specs.Worker.{worker0}
use Rattle.steps.specs.declared.Point.{Point}
use Rattle.steps.specs.declared.State.TheVariants.{UnderWay}
use Rattle.engine.specs.Calls.{setup_of, taken_of}
use Rattle.engine.specs.Inner.{Begins}
use Rattle.engine.specs.State.{worker_at, with_worker}
use Rattle.engine.specs.Step.{stepped_of}
use Rattle.helping.specs.Machine.{Rules}
use Rattle.past.specs.Past.{Call, AllRecords, Past}
use Rattle.histories.specs.History.{Sofar, start, began, stepped, and_now, then_of, follow, sofar}
use Rattle.histories.proofs.Map.Map.{rules_of}
use Rattle.histories.proofs.Simulation.Comes as comes
use Rattle.histories.proofs.Simulation.Comes.{Comes}
use Rattle.histories.proofs.Simulation.Standing.{Standing, standing_then, standing_start, cut_records}

-- by the cases of `Comes`, but for the call that changes nothing
pub record KeptBy (K : Rules) (P : Sofar → Type 0) : Type 0 where
  pub begun :
      (x : Sofar) → Standing K x → P x → (w l : ℕ) (rec : List ℕ) → Begins x.state w l rec →
      P (began x w l rec (taken_of x.state w l rec))
  pub moved :
      (x : Sofar) → Standing K x → P x → (w : ℕ) (p : Point) → w < workers → (worker_at x.state w).state ≡ UnderWay p →
      P (stepped x w (stepped_of x.state w p))
  pub idled : (x : Sofar) → Standing K x → P x → (w : ℕ) → w < workers → P (and_now x (with_worker x.state w worker0))

module _ (K : Rules) (P : Sofar → Type 0) (k : KeptBy K P) where
  pub then_keeps : (x : Sofar) (c : Call) → Standing K x → P x → P (then_of x c)
  then_keeps x c s o = go (then_of x c) (comes.comes x c)
    where
      go : (y : Sofar) → Comes x y → P y
      go y (comes.same q) = subst P (sym q) o
      go y (comes.begun w l rec b q) = subst P (sym q) (k.begun x s o w l rec b)
      go y (comes.moved w p h e q) = subst P (sym q) (k.moved x s o w p h e)
      go y (comes.idled w h q) = subst P (sym q) (k.idled x s o w h)

  pub follow-keeps : (x : Sofar) (h : List Call) → Standing K x → AllRecords h → P x → P (follow x h)
  unfolding follow
  follow-keeps x [] s b o = o
  follow-keeps x (c ∷ cs) s b o =
      let cut = cut_records c cs b in
      follow-keeps (then_of x c) cs (standing_then K x c s cut.0) cut.1 (then_keeps x c s o)

-- from a setup on
pub past_keeps :
    (P : Sofar → Type 0) (p : Past) → KeptBy (rules_of (setup_of p.setup).engine) P → P (start (setup_of p.setup).engine) →
    P (sofar p)
past_keeps P p k = follow-keeps _ P k _ p.calls (standing_start p.setup p.setup_bytes) p.calls_bytes
