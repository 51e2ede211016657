-- "one that helps from step 1 at most 97", 193 since request 04: what every call keeps of a try whose Look found its lock held.
use Rattle.std.specs.Prelude.{None, Option, Some}
use Prim.Native.Nat.{ℕ, suc, ◌+◌, ◌≤◌, ◌<◌}
use mathlib.Core.Bool.{Bool, true, false}
use mathlib.Core.List.{List}
use mathlib.Core.Path.{◌≡◌, refl, sym, ap, ◌∙◌, subst}
use native.Mathlib.Omega.{arith}
use lib.Dec.{eqb}
use Rattle.parts.specs.Numbers.{workers, instructions, help_steps}
use Rattle.parts.specs.Parts.{lock0}
use Rattle.parts.specs.Pick.{pick, on_option}
use Rattle.parts.specs.declared.Answer.TheVariants.{Worn}
use Rattle.parts.specs.declared.LockWord.{LockWord}
use Rattle.steps.specs.Try.{start_of, answer_of, effect_of}
use Rattle.steps.specs.Worker.{worker0, looking_of}
use Rattle.steps.specs.declared.Point.{Point}
use Rattle.steps.specs.declared.Point.TheVariants.{Look, Grab, LookAgain, ReadMark}
use Rattle.steps.specs.declared.Run.{Run}
use Rattle.steps.specs.declared.Stage.{Stage}
use Rattle.steps.specs.declared.Stage.TheVariants.{Read, Commit, Swap, Mark, Release}
use Rattle.steps.specs.declared.State.{State}
use Rattle.steps.specs.declared.State.TheVariants.{Idle, UnderWay, Finished}
use Rattle.steps.specs.declared.Worker.{Worker}
use Rattle.engine.specs.Calls.{setup_of, taken_of}
use Rattle.engine.specs.Inner.{Begins}
use Rattle.engine.specs.State.{free_sheet, worker_at, lock_at, with_worker}
use Rattle.engine.specs.Step.{places_of, view_at, stepped_of}
use Rattle.engine.specs.declared.Engine.{Engine}
use Rattle.past.specs.Past.{Past}
use Rattle.helping.specs.Machine.{Rules, Scene, put, shared_of, point_of, pace_of, machine_moved, look_to, mark_to, step_at}
use Rattle.helping.specs.Ideal.{left_at}
use Rattle.helping.specs.Ok.{Named, view_of}
use Rattle.helping.proofs.Help.{run_falls, to_do}
use Rattle.helping.proofs.Put.{put_same}
use Rattle.helping.proofs.Ranges.{ranged}
use Rattle.helping.proofs.Touch.{Going}
use Rattle.ranges.proofs.Frame.{pick_all}
use Rattle.histories.specs.History.{Sofar, began, found_by, stepped, and_now, sofar}
use Rattle.histories.proofs.Map.Map.{rules_of, scene_of, tale_of}
use Rattle.histories.proofs.Map.Steps.{step_is}
use Rattle.histories.proofs.Rules.Guards.{holder_each}
use Rattle.histories.proofs.Rules.Rules.{fresh_is}
use Rattle.histories.proofs.Simulation.Follows.{KeptBy, past_keeps}
use Rattle.histories.proofs.Simulation.Pieces.{found_first, found_later, worker_put, worker_begun, worker_stepped, worker_here}
use Rattle.histories.proofs.Simulation.Standing.{Standing}

-- where the Look found a holder
abbrev IfHeld : Option ℕ → Type 0 → Type 0
IfHeld None P = Unit {0}
IfHeld (Some s) P = P

-- of a worker in this state, after so many steps of its try, whose Look found this holder: a try that found one is in a run from its first
-- step on, and has at most so many steps left
abbrev pub Soon : ℕ → State → ℕ → Option ℕ → Type 0
Soon most Idle n found = Unit {0}
Soon most (UnderWay Look) n found = n ≡ 0
Soon most (UnderWay (Grab seen)) n found = (1 ≤ n) × (found ≡ None)
Soon most (UnderWay (LookAgain won)) n found = (1 ≤ n) × (found ≡ None)
Soon most (UnderWay (ReadMark seen won)) n found = (1 ≤ n) × (found ≡ None)
Soon most (UnderWay (Point.Run r at)) n found = (1 ≤ n) × IfHeld found (n + left_at most r at ≤ help_steps most)
Soon most (Finished a) n found = IfHeld found (n ≤ help_steps most)

abbrev pub AllSoon : Rules → Sofar → Type 0
AllSoon K x = (w : ℕ) → Soon K.most (worker_at x.state w).state (x.steps w) (x.found w).holder

idled_soon :
    (K : Rules) (x : Sofar) → Standing K x → AllSoon K x → (w : ℕ) → w < workers → AllSoon K (and_now x (with_worker x.state w worker0))
idled_soon K x s t w h v =
    subst (λ (k : Worker). Soon K.most k.state (x.steps v) (x.found v).holder)
    (sym (worker_put x.state s.good w worker0 h v)) (go (eqb v w))
  where
    go : (b : Bool) → Soon K.most (pick b worker0 (worker_at x.state v)).state (x.steps v) (x.found v).holder
    go true = tt
    go false = t v

begun_soon :
    (K : Rules) (x : Sofar) → Standing K x → AllSoon K x → (w l : ℕ) (rec : List ℕ) → Begins x.state w l rec →
    AllSoon K (began x w l rec (taken_of x.state w l rec))
begun_soon K x s t w l rec b v =
    subst
    (λ (k : Worker). Soon K.most k.state (pick (eqb v w) 0 (x.steps v)) (pick (eqb v w) lock0 (x.found v)).holder)
    (sym (worker_begun x.state s.good w l rec b v)) (go (eqb v w))
  where
    go :
        (b : Bool) →
        Soon K.most (pick b (looking_of l (free_sheet x.state)) (worker_at x.state v)).state (pick b 0 (x.steps v))
        (pick b lock0 (x.found v)).holder
    go true = refl
    go false = t v

module _ (K : Rules) (x : Sofar) (s : Standing K x) (t : AllSoon K x) (w : ℕ) (p : Point) (h : w < workers)
    (q : (worker_at x.state w).state ≡ UnderWay p) where
  abbrev e : Engine
  e = x.state

  abbrev E : Scene
  E = scene_of e

  abbrev k : Worker
  k = E.worker w

  abbrev n : ℕ
  n = x.steps w

  -- what the Look finds is the lock that the worker tries
  found_now : n ≡ 0 → found_by x w ≡ lock_at e k.lock
  found_now z =
      let named = subst (Named K (tale_of x) (view_of E s.next.st) (x.tries w) k) q (s.next.ok.named w) in
      found_first x w z ∙ ap (λ (l : ℕ). lock_at e l) named.lock

  -- the state that the step leads to, by the point
  abbrev Now : State → Type 0
  Now y = Soon K.most y (suc n) (found_by x w).holder

  look_soon : n ≡ 0 → Now (look_to K.last (lock_at e k.lock))
  unfolding look_to
  look_soon z =
      subst (λ (f : LockWord). Soon K.most (look_to K.last (lock_at e k.lock)) (suc n) f.holder) (sym (found_now z))
      (go (lock_at e k.lock).holder)
    where
      l : LockWord
      l = lock_at e k.lock

      go :
          (f : Option ℕ) →
          Soon K.most
          (on_option f (pick (eqb l.turn K.last) (Finished Worn) (UnderWay (Grab l.turn)))
          (λ s. UnderWay (Point.Run (start_of s l.turn) Read)))
          (suc n) f
      go None =
          pick_all (λ (y : State). Soon K.most y (suc n) None) (eqb l.turn K.last) _ _ tt (omega arith, refl)
      go (Some s) = (omega arith, omega arith)

  abbrev Here : Point → Type 0
  Here r = Soon K.most (UnderWay r) n (x.found w).holder → Now ((step_at K E w k r).worker w).state

  -- past Look the found lock stays
  later : (y : State) → 1 ≤ n → Soon K.most y (suc n) (x.found w).holder → Now y
  later y z g = subst (λ (f : LockWord). Soon K.most y (suc n) f.holder) (sym (found_later x w z)) g

  if_less : (f : Option ℕ) (a b : ℕ) → a < b → IfHeld f (n + b ≤ help_steps K.most) → IfHeld f (suc n + a ≤ help_steps K.most)
  if_less None a b c g = tt
  if_less (Some s) a b c g = omega arith

  if_last : (f : Option ℕ) → IfHeld f (n + 1 ≤ help_steps K.most) → IfHeld f (suc n ≤ help_steps K.most)
  if_last None g = tt
  if_last (Some s) g = omega arith

  -- the worker after the step is at the point that the machine leads to
  at : (y : State) → (put E.worker w (machine_moved k y) w).state ≡ y
  at y = ap (λ (k : Worker). k.state) (put_same E.worker w (machine_moved k y))

  -- a step of a run before its halt
  abbrev on : Run → Stage → State
  on r a = UnderWay (point_of (pace_of (E.program r.sheet) (shared_of E r.sheet) r a))

  paced_soon :
      (r : Run) (a : Stage) → Going a → (worker_at e w).state ≡ UnderWay (Point.Run r a) →
      Soon K.most (UnderWay (Point.Run r a)) n (x.found w).holder → Now (put E.worker w (machine_moved k (on r a)) w).state
  paced_soon r a g z y =
      subst Now (sym (at (on r a)))
      (later (on r a) y.0
      (omega arith, if_less (x.found w).holder _ _ (run_falls K E (tale_of x) s.next.st s.next.ok w r a z g) y.1))

  mark_soon : (seen : LockWord) (won : ℕ) → (x.found w).holder ≡ None → Soon K.most (mark_to (E.done k.own) seen won k.own) (suc n) (x.found w).holder
  unfolding mark_to
  mark_soon seen won z =
      subst (Soon K.most (mark_to (E.done k.own) seen won k.own) (suc n)) (sym z)
      (pick_all P (E.done k.own) _ _ (omega arith, tt)
      (holder_each P seen.holder _ _ tt (λ s. pick_all P (eqb s k.own) _ _ (omega arith, tt) (omega arith, tt))))
    where
      P : State → Type 0
      P y = Soon K.most y (suc n) None

  here : (r : Point) → (worker_at e w).state ≡ UnderWay r → Here r
  unfolding step_at mark_to
  here Look z y = subst Now (sym (at (look_to K.last (lock_at e k.lock)))) (look_soon y)
  here (Grab seen) z y =
      let to = UnderWay (LookAgain (suc seen)) in subst Now (sym (at to)) (later to y.0 (omega arith, y.1))
  here (LookAgain won) z y =
      let to = UnderWay (ReadMark (E.lock k.lock) won) in subst Now (sym (at to)) (later to y.0 (omega arith, y.1))
  here (ReadMark seen won) z y =
      let to = mark_to (E.done k.own) seen won k.own in subst Now (sym (at to)) (later to y.0 (mark_soon seen won y.1))
  here (Point.Run r Read) z y = paced_soon r Read tt z y
  here (Point.Run r (Commit u)) z y = paced_soon r (Commit u) tt z y
  here (Point.Run r (Swap f new)) z y = paced_soon r (Swap f new) tt z y
  here (Point.Run r (Mark said)) z y =
      let to = UnderWay (Point.Run r (Release said)) in
      subst Now (sym (at to)) (later to y.0 (omega arith, if_less (x.found w).holder 1 2 (omega arith) y.1))
  here (Point.Run r (Release said)) z y =
      let to = Finished (answer_of r k.own said) in subst Now (sym (at to)) (later to y.0 (if_last (x.found w).holder y.1))

  -- what it is now, and the others
  moved_soon : AllSoon K (stepped x w (stepped_of e w p))
  moved_soon v =
      subst
      (λ (j : Worker). Soon K.most j.state (pick (eqb v w) (suc n) (x.steps v)) (pick (eqb v w) (found_by x w) (x.found v)).holder)
      (sym (worker_stepped e s.good w h p v)) (go (eqb v w))
    where
      now : State
      now = (effect_of p (view_at e (places_of e w p))).worker.state

      led : ((step_at K E w k p).worker w).state ≡ now
      led =
          sym (ap (λ (D : Scene). (D.worker w).state) (step_is K e s.good s.under (ranged K _ _ s.next.st s.next.ok) w p h q)) ∙
          ap (λ (j : Worker). j.state) (worker_here e s.good w h p)

      go :
          (b : Bool) →
          Soon K.most (pick b (effect_of p (view_at e (places_of e w p))).worker (worker_at e v)).state (pick b (suc n) (x.steps v))
          (pick b (found_by x w) (x.found v)).holder
      go true = subst Now led (here p q (subst (λ (y : State). Soon K.most y n (x.found w).holder) q (t w)))
      go false = t v

-- so it is under way for fewer steps
pub soon_under : (most n s : ℕ) (p : Point) → Soon most (UnderWay p) n (Some s) → n < help_steps most
soon_under most n s Look y = omega arith
soon_under most n s (Grab seen) y = let z : ◌≡◌ {A = ℕ} 0 1 = (let f = y.1 in cc) in absurd (omega arith)
soon_under most n s (LookAgain won) y = let z : ◌≡◌ {A = ℕ} 0 1 = (let f = y.1 in cc) in absurd (omega arith)
soon_under most n s (ReadMark seen won) y = let z : ◌≡◌ {A = ℕ} 0 1 = (let f = y.1 in cc) in absurd (omega arith)
soon_under most n s (Point.Run r at) y = omega (arith, y.1, to_do most (Point.Run r at))

soons : (K : Rules) → KeptBy K (AllSoon K)
soons K = record { begun = begun_soon K; moved = moved_soon K; idled = idled_soon K }

pub soon_past : (p : Past) → AllSoon (rules_of (setup_of p.setup).engine) (sofar p)
soon_past p =
    past_keeps (AllSoon (rules_of (setup_of p.setup).engine)) p (soons (rules_of (setup_of p.setup).engine))
    (λ w.
    subst (λ (y : State). Soon instructions y 0 None) (sym (ap (λ (k : Worker). k.state) ((fresh_is p.setup p.setup_bytes).idle w))) tt)
