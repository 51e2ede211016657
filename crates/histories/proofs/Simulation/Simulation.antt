-- The simulation: each call is a step of the theory's machine, with its tale, or changes nothing of either.
use Prim.Native.Nat.{ℕ, suc, ◌<◌}
use mathlib.Core.Path.{◌≡◌, refl, sym, ap, ◌∙◌, subst}
use mathlib.Core.List.{List, ◌∷◌}
use Rattle.parts.specs.Numbers.{workers}
use Rattle.parts.specs.Pick.{pick}
use Rattle.parts.specs.declared.Instr.{Instr}
use Rattle.records.specs.Job.{job_of}
use Rattle.steps.specs.declared.Point.{Point}
use Rattle.steps.specs.declared.State.TheVariants.{Idle, UnderWay}
use Rattle.engine.specs.State.{free_sheet, worker_at}
use Rattle.engine.specs.Step.{stepped_of}
use Rattle.engine.specs.Calls.{taken_of}
use Rattle.engine.specs.Inner.{Begins}
use Rattle.helping.specs.Machine.{Rules, Scene, Tale, put, step_at, with_won, step_tale, Unused, machine_begun, begin_tale, idled_of}
use Rattle.helping.specs.Ideal.{Fine}
use Rattle.helping.specs.Ok.{Ranged}
use Rattle.ranges.specs.Good.{Good}
use Rattle.past.specs.Past.{Call}
use Rattle.histories.specs.History.{Sofar, began, won_by, stepped, then_of}
use Rattle.histories.proofs.Map.Map.{scene_of, tale_of, Under}
use Rattle.histories.proofs.Map.Steps.{step_is, begin_is, idle_is}
use Rattle.histories.proofs.Rules.Rules.{job_fine, free_unused}
use Rattle.past.proofs.Accepted.{idle_of}
use Rattle.histories.proofs.Simulation.Comes as comes
use Rattle.histories.proofs.Simulation.Comes.{Comes}
use Rattle.histories.proofs.Simulation.Won.{won_is, only_won}

-- a scene, its tale and the steps of each worker, before and after a call
pub data Simulated (K : Rules) (E : Scene) (T : Tale) (S : ℕ → ℕ) (E' : Scene) (T' : Tale) (S' : ℕ → ℕ) : Type 0 where
  unchanged : E' ≡ E → T' ≡ T → S' ≡ S → Simulated K E T S E' T' S'
  begun :
      (i l s : ℕ) (code : List Instr) → (E.worker i).state ≡ Idle → Unused E s → Fine K l code →
      E' ≡ machine_begun E i l code s → T' ≡ begin_tale T i l code → S' ≡ put S i 0 → Simulated K E T S E' T' S'
  moved :
      (i : ℕ) (p : Point) → (E.worker i).state ≡ UnderWay p → E' ≡ step_at K E i (E.worker i) p →
      T' ≡ step_tale T E i (E.worker i) p → S' ≡ put S i (suc (S i)) → Simulated K E T S E' T' S'
  idled : (i : ℕ) → E' ≡ idled_of E i → T' ≡ T → S' ≡ S → Simulated K E T S E' T' S'

abbrev pub Sim : Rules → Sofar → Sofar → Type 0
Sim K x y = Simulated K (scene_of x.state) (tale_of x) x.steps (scene_of y.state) (tale_of y) y.steps

-- a call on the state of x, by what it came to
module _ (K : Rules) (x : Sofar) (g : Good x.state) (u : Under K x.state) (r : Ranged K (scene_of x.state)) where
  begun_sim :
      (w l : ℕ) (rec : List ℕ) → Begins x.state w l rec → Sim K x (began x w l rec (taken_of x.state w l rec))
  begun_sim w l rec b =
      begun w l (free_sheet x.state) (job_of rec) (idle_of (worker_at x.state w) b.idle)
      (free_unused x.state g w l rec b) (job_fine K x.state g u rec l b.job)
      (begin_is x.state g w l rec b) refl refl

  moved_sim :
      (w : ℕ) (p : Point) → w < workers → (worker_at x.state w).state ≡ UnderWay p →
      Sim K x (stepped x w (stepped_of x.state w p))
  moved_sim w p h e =
      let E = scene_of x.state in
      let to = step_is K x.state g u r w p h e in
      let won = won_is K (tale_of x) E w (E.worker w) p in
      moved w p e to
      (ap
      (λ (E' : Scene).
      with_won (tale_of x) (λ l. pick (won_by (E.lock l) (E'.lock l)) (x.tries w ∷ x.won l) (x.won l))) to ∙
      ap (with_won (tale_of x)) won ∙
      only_won (tale_of x) E w (E.worker w) p)
      refl

  by_comes : (y : Sofar) → Comes x y → Sim K x y
  by_comes y (comes.same q) = subst (Sim K x) (sym q) (unchanged refl refl refl)
  by_comes y (comes.begun w l rec b q) = subst (Sim K x) (sym q) (begun_sim w l rec b)
  by_comes y (comes.moved w p h e q) = subst (Sim K x) (sym q) (moved_sim w p h e)
  by_comes y (comes.idled w h q) = subst (Sim K x) (sym q) (idled w (idle_is x.state g w h) refl refl)

  pub simulates : (c : Call) → Sim K x (then_of x c)
  simulates c = by_comes (then_of x c) (comes.comes x c)
