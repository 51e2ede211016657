-- What every call keeps of each worker's steps and of what its Look found: worn is told after one step, of a lock that was worn and is.
use Prim.Native.Nat.{ℕ, suc, ◌%◌, ◌<◌, ◌≤◌}
use mathlib.Core.Bool.{Bool, true, false}
use mathlib.Core.List.{List}
use mathlib.Core.Path.{◌≡◌, refl, sym, ap, ◌∙◌, subst}
use native.Mathlib.Omega.{arith}
use borrow.Author.Tests.{eqb-true}
use lib.Dec.{eqb}
use Rattle.parts.specs.Numbers.{workers, most_locks}
use Rattle.parts.specs.Parts.{lock0, worn_of}
use Rattle.parts.specs.Pick.{pick}
use Rattle.parts.specs.declared.Answer.TheVariants.{RanYes, RanNo, NotTaken, Worn}
use Rattle.records.specs.Bytes.{AllBytes}
use Rattle.steps.specs.Try.{effect_of}
use Rattle.steps.specs.Worker.{worker0, looking_of}
use Rattle.steps.specs.declared.Point.{Point}
use Rattle.steps.specs.declared.Point.TheVariants.{Look, Grab, LookAgain, ReadMark}
use Rattle.steps.specs.declared.State.{State}
use Rattle.steps.specs.declared.State.TheVariants.{Idle, UnderWay, Finished}
use Rattle.steps.specs.declared.View.{View}
use Rattle.steps.specs.declared.Worker.{Worker}
use Rattle.engine.specs.Calls.{setup_of, begun_of, taken_of}
use Rattle.engine.specs.Inner.{Begins}
use Rattle.engine.specs.State.{free_sheet, worker_at, lock_at, with_worker}
use Rattle.engine.specs.Step.{places_of, view_at, stepped_of}
use Rattle.engine.specs.declared.Engine.{Engine}
use Rattle.past.specs.Past.{Past}
use Rattle.helping.specs.Machine.{Rules}
use Rattle.helping.specs.Ok.{Named, view_of}
use Rattle.histories.specs.History.{Sofar, start, new_try, began, found_by, stepped, and_now, sofar}
use Rattle.histories.proofs.Map.Map.{scene_of, tale_of}
use Rattle.histories.proofs.Rules.Rules.{fresh_is}
use Rattle.histories.proofs.Simulation.Follows.{KeptBy, past_keeps}
use Rattle.histories.proofs.Simulation.Pieces.{found_first, found_later, worker_put, worker_begun, worker_stepped}
use Rattle.histories.proofs.Simulation.Standing.{Standing}
use Rattle.histories.proofs.Worn.Looks as looks
use Rattle.histories.proofs.Worn.Looks.{PastLook, OnWay, Later, LooksTo, look_to_lem, later, worn_is, worn0_worn}
use Rattle.histories.proofs.Worn.Stays.{step_stays}

-- of a worker in this state, with so many steps: whether the lock that its Look found is worn, and whether its lock is
abbrev pub Looked : State → ℕ → Bool → Bool → Type 0
Looked Idle n found now = Unit {0}
Looked (UnderWay Look) n found now = n ≡ 0
Looked (UnderWay (Grab seen)) n found now = (1 ≤ n) × (found ≡ false)
Looked (UnderWay (LookAgain won)) n found now = (1 ≤ n) × (found ≡ false)
Looked (UnderWay (ReadMark seen won)) n found now = (1 ≤ n) × (found ≡ false)
Looked (UnderWay (Point.Run r at)) n found now = (1 ≤ n) × (found ≡ false)
Looked (Finished RanYes) n found now = found ≡ false
Looked (Finished RanNo) n found now = found ≡ false
Looked (Finished NotTaken) n found now = found ≡ false
Looked (Finished Worn) n found now = (found ≡ true) × (n ≡ 1) × (now ≡ true)

abbrev pub Tried : Sofar → Type 0
Tried x =
    (w : ℕ) →
    Looked (worker_at x.state w).state (x.steps w) (worn_of (x.found w)) (worn_of (lock_at x.state (x.tries w).lock))

on_looked : (q : State) (n : ℕ) (f l : Bool) → f ≡ false → OnWay q → Looked q (suc n) f l
on_looked Idle n f l e h = absurd h
on_looked (UnderWay Look) n f l e h = absurd h
on_looked (UnderWay (Grab seen)) n f l e h = (omega arith, e)
on_looked (UnderWay (LookAgain won)) n f l e h = (omega arith, e)
on_looked (UnderWay (ReadMark seen won)) n f l e h = (omega arith, e)
on_looked (UnderWay (Point.Run r at)) n f l e h = (omega arith, e)
on_looked (Finished a) n f l e h = absurd h

later_looked : (q : State) (n : ℕ) (f l : Bool) → f ≡ false → Later q → Looked q (suc n) f l
later_looked Idle n f l e h = absurd h
later_looked (UnderWay p) n f l e h = on_looked (UnderWay p) n f l e h
later_looked (Finished RanYes) n f l e h = e
later_looked (Finished RanNo) n f l e h = e
later_looked (Finished NotTaken) n f l e h = e
later_looked (Finished Worn) n f l e h = absurd h

stays_looked : (q : State) (n : ℕ) (f l k : Bool) → (l ≡ true → k ≡ true) → Looked q n f l → Looked q n f k
stays_looked Idle n f l k s h = tt
stays_looked (UnderWay Look) n f l k s h = h
stays_looked (UnderWay (Grab seen)) n f l k s h = h
stays_looked (UnderWay (LookAgain won)) n f l k s h = h
stays_looked (UnderWay (ReadMark seen won)) n f l k s h = h
stays_looked (UnderWay (Point.Run r at)) n f l k s h = h
stays_looked (Finished RanYes) n f l k s h = h
stays_looked (Finished RanNo) n f l k s h = h
stays_looked (Finished NotTaken) n f l k s h = h
stays_looked (Finished Worn) n f l k s h = (h.0, h.1, s h.2)

idled_tried : (K : Rules) (x : Sofar) → Standing K x → Tried x → (w : ℕ) → w < workers → Tried (and_now x (with_worker x.state w worker0))
idled_tried K x s t w h v =
    subst
    (λ (k : Worker). Looked k.state (x.steps v) (worn_of (x.found v)) (worn_of (lock_at x.state (x.tries v).lock)))
    (sym (worker_put x.state s.good w worker0 h v)) (go (eqb v w))
  where
    go :
        (b : Bool) →
        Looked (pick b worker0 (worker_at x.state v)).state (x.steps v) (worn_of (x.found v))
        (worn_of (lock_at x.state (x.tries v).lock))
    go true = tt
    go false = t v

begun_tried :
    (K : Rules) (x : Sofar) → Standing K x → Tried x → (w l : ℕ) (rec : List ℕ) → Begins x.state w l rec →
    Tried (began x w l rec (taken_of x.state w l rec))
unfolding begun_of
begun_tried K x s t w l rec b v =
    subst
    (λ (k : Worker).
    Looked k.state (pick (eqb v w) 0 (x.steps v)) (worn_of (pick (eqb v w) lock0 (x.found v)))
    (worn_of (lock_at x.state (pick (eqb v w) (new_try x l rec) (x.tries v)).lock)))
    (sym (worker_begun x.state s.good w l rec b v)) (go (eqb v w))
  where
    go :
        (b : Bool) →
        Looked (pick b (looking_of l (free_sheet x.state)) (worker_at x.state v)).state (pick b 0 (x.steps v))
        (worn_of (pick b lock0 (x.found v)))
        (worn_of (lock_at x.state (pick b (new_try x l rec) (x.tries v)).lock))
    go true = refl
    go false = t v

module _ (K : Rules) (x : Sofar) (s : Standing K x) (t : Tried x) (w : ℕ) (p : Point) (h : w < workers)
    (q : (worker_at x.state w).state ≡ UnderWay p) where
  abbrev e : Engine
  e = x.state

  abbrev now : Engine
  now = stepped_of e w p

  abbrev v : View
  v = view_at e (places_of e w p)

  abbrev l : ℕ
  l = (x.tries w).lock

  still : (k : ℕ) → worn_of (lock_at e k) ≡ true → worn_of (lock_at now k) ≡ true
  still k z = ap worn_of (step_stays e s.good w p q k (worn_is (lock_at e k) z)) ∙ worn0_worn

  -- the lock that the step looks at is that of the try
  lock_is : lock_at e l ≡ v.lock
  unfolding view_at places_of
  lock_is =
      let named = subst (Named K (tale_of x) (view_of (scene_of e) s.next.st) (x.tries w) ((scene_of e).worker w)) q (s.next.ok.named w) in
      let below = (s.good.worker w).lock in
      let most = s.good.numbers.locks in
      let same : l ≡ (worker_at e w).lock = named.lock in
      let n : l ≡ (worker_at e w).lock % most_locks = omega arith in
      ap (λ (k : ℕ). lock_at e k) n

  -- by the point
  abbrev Now : State → Type 0
  Now y = Looked y (suc (x.steps w)) (worn_of (found_by x w)) (worn_of (lock_at now l))

  abbrev Here : Point → Type 0
  Here p =
      Looked (UnderWay p) (x.steps w) (worn_of (x.found w)) (worn_of (lock_at e l)) → Now (effect_of p v).worker.state

  here_look : LooksTo v.lock (effect_of Look v).worker.state → Here Look
  here_look (looks.worn a z) n =
      let worn : worn_of (lock_at e l) ≡ true = ap worn_of lock_is ∙ z in
      subst Now (sym a) (ap worn_of (found_first x w n) ∙ worn, ap suc n, still l worn)
  here_look (looks.onward a z) n =
      on_looked (effect_of Look v).worker.state (x.steps w) (worn_of (found_by x w)) (worn_of (lock_at now l))
      (ap worn_of (found_first x w n ∙ lock_is) ∙ z) a

  here_past : (r : Point) → PastLook r → (1 ≤ x.steps w) × (worn_of (x.found w) ≡ false) → Now (effect_of r v).worker.state
  here_past r h n =
      later_looked (effect_of r v).worker.state (x.steps w) (worn_of (found_by x w)) (worn_of (lock_at now l))
      (ap worn_of (found_later x w n.0) ∙ n.1) (later v r h)

  here : (r : Point) → Here r
  here Look n = here_look (look_to_lem v) n
  here (Grab seen) n = here_past (Grab seen) tt n
  here (LookAgain won) n = here_past (LookAgain won) tt n
  here (ReadMark seen won) n = here_past (ReadMark seen won) tt n
  here (Point.Run r at) n = here_past (Point.Run r at) tt n

  moved_tried : Tried (stepped x w now)
  moved_tried u =
      subst
      (λ (k : Worker).
      Looked k.state (pick (eqb u w) (suc (x.steps w)) (x.steps u)) (worn_of (pick (eqb u w) (found_by x w) (x.found u)))
      (worn_of (lock_at now (x.tries u).lock)))
      (sym (worker_stepped e s.good w h p u)) (go (eqb u w) refl)
    where
      go :
          (b : Bool) → eqb u w ≡ b →
          Looked (pick b (effect_of p v).worker (worker_at e u)).state (pick b (suc (x.steps w)) (x.steps u))
          (worn_of (pick b (found_by x w) (x.found u))) (worn_of (lock_at now (x.tries u).lock))
      go true z =
          subst
          (λ (m : ℕ).
          Looked (effect_of p v).worker.state (suc (x.steps w)) (worn_of (found_by x w)) (worn_of (lock_at now (x.tries m).lock)))
          (sym (eqb-true u w z))
          (here p (subst (λ (y : State). Looked y (x.steps w) (worn_of (x.found w)) (worn_of (lock_at e l))) q (t w)))
      go false z =
          stays_looked (worker_at e u).state (x.steps u) (worn_of (x.found u)) (worn_of (lock_at e (x.tries u).lock))
          (worn_of (lock_at now (x.tries u).lock)) (still (x.tries u).lock) (t u)

tries : (K : Rules) → KeptBy K Tried
tries K = record { begun = begun_tried K; moved = moved_tried K; idled = idled_tried K }

tried_start : (rec : List ℕ) → AllBytes rec → Tried (start (setup_of rec).engine)
tried_start rec b w =
    subst (λ (q : State). Looked q 0 (worn_of lock0) (worn_of (lock_at (setup_of rec).engine 0)))
    (sym (ap (λ (k : Worker). k.state) ((fresh_is rec b).idle w))) tt

pub tried_past : (p : Past) → Tried (sofar p)
tried_past p = past_keeps Tried p (tries _) (tried_start p.setup p.setup_bytes)
