-- A held lock: a first part of its last job; and a helper, stepped alone, completes it.
use Rattle.std.specs.Prelude.{None, Option, Some}
use Prim.Native.Nat.{ℕ, zero, suc, ◌+◌, ◌≤◌, ◌<◌}
use native.Mathlib.Omega.{arith}
use borrow.Author.Tests.{eq-eqb, ne_eqb}
use mathlib.Core.Path.{◌≡◌, refl, sym, ap, ◌∙◌, subst}
use mathlib.Core.Logic.{◌≢◌}
use mathlib.Core.Bool.{Bool}
use mathlib.Core.List.{List, ◌∷◌}
use lib.ListN.{get_or}
use Rattle.parts.specs.Numbers.{longest_run, help_steps}
use Rattle.parts.specs.declared.Answer.{Answer}
use Rattle.parts.specs.declared.Answer.TheVariants.{NotTaken}
use Rattle.parts.specs.declared.Instr.{Instr}
use Rattle.parts.specs.declared.LockWord.{LockWord}
use Rattle.parts.specs.declared.Reading.{Reading}
use Rattle.steps.specs.Try.{start_of, answer_of}
use Rattle.steps.specs.declared.Point.{Point}
use Rattle.steps.specs.declared.Point.TheVariants.{Look, Grab, LookAgain, ReadMark}
use Rattle.steps.specs.declared.Run.{Run}
use Rattle.steps.specs.declared.Stage.{Stage}
use Rattle.steps.specs.declared.Stage.TheVariants.{Read, Commit, Swap, Mark, Release}
use Rattle.steps.specs.declared.State.{State}
use Rattle.steps.specs.declared.State.TheVariants.{UnderWay, Finished}
use Rattle.steps.specs.declared.Worker.{Worker}
use Rattle.alone.specs.Jobs.{Try, gives_of, part_of}
use Rattle.alone.proofs.Jobs.{gives_length}
use Rattle.helping.specs.Machine.{Rules, Scene, Tale, put, shared_of, pace_of, machine_moved, machine_release, look_to, paced_of, step_at, step_tale}
use Rattle.helping.specs.Ideal.{Guarded, left_at}
use Rattle.helping.specs.Ok.{current, Status, todo_at, Ok, Next, onward, alone_steps}
use Rattle.helping.proofs.Put.{put_same}
use Rattle.helping.proofs.Touch.{OnRun, run_on, Going, paced}
use Rattle.helping.proofs.Alone.{part_alone}
use Rattle.helping.proofs.Moves.{step_ok}
use Rattle.helping.proofs.Change.{sheet_at, on_sheet, lock_at_lem, held_word, won_held}
use Rattle.helping.proofs.Looks.{mine}

-- a lock that sheet s holds: its words are what all but the last job give, then a first part of the last, which is the program on s
pub record Part (K : Rules) (E : Scene) (T : Tale) (l s : ℕ) : Type 0 where
  pub last : Try
  pub earlier : List Try
  pub list : T.won l ≡ last ∷ earlier
  pub program : E.program s ≡ last.program
  pub k : ℕ
  pub words :
      (q : ℕ) → Guarded K l q →
      (E.word q).value ≡ get_or (part_of k last.program (gives_of earlier K.values)) q 0

pub held_part :
    (K : Rules) (E : Scene) (T : Tale) (st : ℕ → Status) → Ok K E T st → (l s : ℕ) → (E.lock l).holder ≡ Some s →
    Part K E T l s
held_part K E T st o l s e =
    let h = lock_at_lem K E T st o l (Some s) e in
    let on = (sheet_at K E T st o s current h.kind).0 in
    let vs = gives_of h.earlier K.values in
    let part = part_alone K (st s).job on.fine vs (gives_length h.earlier K.values) h.from (st s).front in
    record {
      last = h.last;
      earlier = h.earlier;
      list = h.list;
      program = sym on.code ∙ sym h.code;
      k = part.0;
      words =
          λ q g.
          ap (λ (u : Reading). u.value) (held_word K E T st o l s e q g) ∙ sym (part.1 q)
          ∙ ap (λ (c : List Instr). get_or (part_of part.0 c vs) q 0) (sym h.code);
    }

-- a worker that is to look at a held lock, stepped alone: it ends, not taken; the lock is free at the same turn; its words are
-- what all of its jobs give
pub record Completed (K : Rules) (E : Scene) (T : Tale) (i l turn : ℕ) : Type 0 where
  pub answer : (E.worker i).state ≡ Finished NotTaken
  pub lock : E.lock l ≡ record { turn = turn; holder = None }
  pub words : (q : ℕ) → Guarded K l q → (E.word q).value ≡ get_or (gives_of (T.won l) K.values) q 0

-- a worker that has finished stays
pub finished_stays :
    (K : Rules) (i n : ℕ) (E : Scene) (x : Answer) → (E.worker i).state ≡ Finished x → alone_steps K i n E ≡ E
unfolding alone_steps
finished_stays K i zero E x e = refl
finished_stays K i (suc n) E x e =
    subst (λ (z : State). alone_steps K i n (onward K i E z) ≡ E) (sym e) (finished_stays K i n E x e)

-- a worker under way has a step to make
pub to_do : (most : ℕ) (p : Point) → 1 ≤ todo_at most p
to_do most Look = omega arith
to_do most (Grab seen) = omega arith
to_do most (LookAgain won) = omega arith
to_do most (ReadMark seen won) = omega arith
to_do most (Point.Run r Read) = omega arith
to_do most (Point.Run r (Commit u)) = omega arith
to_do most (Point.Run r (Swap e new)) = omega arith
to_do most (Point.Run r (Mark said)) = omega arith
to_do most (Point.Run r (Release said)) = omega arith

-- a step of a run before its halt leaves fewer to do
pub run_falls :
    (K : Rules) (E : Scene) (T : Tale) (st : ℕ → Status) → Ok K E T st → (i : ℕ) (r : Run) (at : Stage) →
    (E.worker i).state ≡ UnderWay (Point.Run r at) → Going at →
    left_at K.most (pace_of (E.program r.sheet) (shared_of E r.sheet) r at).run
    (pace_of (E.program r.sheet) (shared_of E r.sheet) r at).stage < left_at K.most r at
run_falls K E T st o i r at e g =
    let x = shared_of E r.sheet in
    let q = (mine K E T st o i (Point.Run r at) e).1.0 in
    let page = on_sheet K E T st o r.sheet q.0.won.is in
    subst (λ (c : List Instr). left_at K.most (pace_of c x r at).run (pace_of c x r at).stage < left_at K.most r at)
    page.code (paced K (st r.sheet).job page.fine (st r.sheet).front x r at q.1 g)

-- worker i is at a point of its try on lock l, which another sheet, s, has held since turn t
module _ (K : Rules) (T : Tale) (i l s t : ℕ) where
  record Helps (E : Scene) (p : Point) : Type 0 where
    state : (E.worker i).state ≡ UnderWay p
    lock : (E.worker i).lock ≡ l
    own : s ≢ (E.worker i).own
    held : E.lock l ≡ record { turn = t; holder = Some s }

  -- once it went on, and the lock words stayed
  moved :
      (E D : Scene) (p q : Point) → D.worker ≡ put E.worker i (machine_moved (E.worker i) (UnderWay q)) →
      D.lock ≡ E.lock → Helps E p → Helps D q
  moved E D p q e f h =
      let same : D.worker i ≡ machine_moved (E.worker i) (UnderWay q) =
      ap (λ (g : ℕ → Worker). g i) e ∙ put_same E.worker i (machine_moved (E.worker i) (UnderWay q)) in
      record {
        state = ap (λ (k : Worker). k.state) same;
        lock = ap (λ (k : Worker). k.lock) same ∙ h.lock;
        own = λ z. h.own (z ∙ ap (λ (k : Worker). k.own) same);
        held = ap (λ (g : ℕ → LockWord). g l) f ∙ h.held;
      }

  -- its first step, then the others
  step_first :
      (n : ℕ) (E : Scene) (p : Point) → (E.worker i).state ≡ UnderWay p →
      Completed K (alone_steps K i n (step_at K E i (E.worker i) p)) T i l t →
      Completed K (alone_steps K i (suc n) E) T i l t
  unfolding alone_steps
  step_first n E p e c = subst (λ (z : State). Completed K (alone_steps K i n (onward K i E z)) T i l t) (sym e) c

  -- the last step: release
  released : machine_release (record { turn = t; holder = Some s }) t s ≡ record { turn = t; holder = None }
  unfolding machine_release
  released = rw (eq-eqb s s refl, eq-eqb t t refl)

  let_go :
      (n : ℕ) (E : Scene) (st : ℕ → Status) → Ok K E T st → (r : Run) (said : Bool) → Helps E (Point.Run r (Release said)) →
      r.sheet ≡ s → r.won ≡ t → Completed K (alone_steps K i (suc n) E) T i l t
  unfolding step_at step_tale answer_of
  let_go n E st o r said h sheet won =
      let D = step_at K E i (E.worker i) (Point.Run r (Release said)) in
      let next = step_ok K E T st o i (Point.Run r (Release said)) h.state in
      let ends : (D.worker i).state ≡ Finished NotTaken =
      ap (λ (k : Worker). k.state) (put_same E.worker i _) ∙ told in
      let free : D.lock l ≡ record { turn = t; holder = None } =
      subst
      (λ (m : ℕ). put E.lock m (machine_release (E.lock m) r.won r.sheet) l ≡ record { turn = t; holder = None })
      (sym h.lock)
      (put_same E.lock l _ ∙ (λ j. machine_release (h.held j) (won j) (sheet j)) ∙ released) in
      let ok = lock_at_lem K D T next.st next.ok l None (ap (λ (x : LockWord). x.holder) free) in
      step_first n E (Point.Run r (Release said)) h.state
      (subst (λ (F : Scene). Completed K F T i l t) (sym (finished_stays K i n D NotTaken ends))
      (record { answer = ends; lock = free; words = ok.values }))
    where
      told : Finished (answer_of r (E.worker i).own said) ≡ Finished NotTaken
      told = rw (sheet, ne_eqb s (E.worker i).own h.own)

  -- what is left to do is done in n steps
  abbrev Helper : ℕ → Type 0
  Helper n =
      (E : Scene) (st : ℕ → Status) → Ok K E T st → (r : Run) (at : Stage) → Helps E (Point.Run r at) → OnRun s t r at →
      left_at K.most r at ≤ n → Completed K (alone_steps K i n E) T i l t

  -- a step of its run
  run_step :
      (n : ℕ) → Helper n → (E : Scene) (st : ℕ → Status) → Ok K E T st → (r : Run) (at : Stage) → Helps E (Point.Run r at) →
      OnRun s t r at → left_at K.most r at ≤ suc n → Going at → Next K (paced_of E i (E.worker i) r at) T →
      Completed K (alone_steps K i n (paced_of E i (E.worker i) r at)) T i l t
  run_step n ih E st o r at h on b g next =
      let to = run_on (E.program r.sheet) (shared_of E r.sheet) r at g in
      ih _ next.st next.ok _ _ (moved E _ (Point.Run r at) _ refl refl h) (to.0 ∙ on.0, to.1 ∙ on.1, to.2)
      (omega (arith, run_falls K E T st o i r at h.state g))

  step_on : (n : ℕ) → Helper n → Helper (suc n)
  unfolding step_at step_tale
  step_on n ih E st o r Read h on b =
      step_first n E _ h.state (run_step n ih E st o r Read h on b tt (step_ok K E T st o i _ h.state))
  step_on n ih E st o r (Commit u) h on b =
      step_first n E _ h.state (run_step n ih E st o r (Commit u) h on b tt (step_ok K E T st o i _ h.state))
  step_on n ih E st o r (Swap e new) h on b =
      step_first n E _ h.state (run_step n ih E st o r (Swap e new) h on b tt (step_ok K E T st o i _ h.state))
  step_on zero ih E st o r (Mark said) h on b = absurd (omega arith)
  step_on (suc n) ih E st o r (Mark said) h on b =
      let next = step_ok K E T st o i (Point.Run r (Mark said)) h.state in
      let D = step_at K E i (E.worker i) (Point.Run r (Mark said)) in
      step_first (suc n) E (Point.Run r (Mark said)) h.state
      (let_go n D next.st next.ok r said (moved E D (Point.Run r (Mark said)) (Point.Run r (Release said)) refl refl h) on.0 on.1)
  step_on n ih E st o r (Release said) h on b = absurd (on.2 tt)

  helps_on : (n : ℕ) → Helper n
  helps_on zero = λ E st o r at h on b. absurd (omega (arith, to_do K.most (Point.Run r at)))
  helps_on (suc n) = step_on n (helps_on n)

pub completes :
    (K : Rules) (E : Scene) (T : Tale) (st : ℕ → Status) → Ok K E T st → (i s : ℕ) →
    (E.worker i).state ≡ UnderWay Look → (E.lock (E.worker i).lock).holder ≡ Some s →
    Completed K (alone_steps K i (help_steps K.most) E) T i (E.worker i).lock (E.lock (E.worker i).lock).turn
unfolding step_at step_tale look_to
completes K E T st o i s e h =
    subst (λ (n : ℕ). Completed K (alone_steps K i n E) T i l t) count
    (step_first K T i l s t (longest_run K.most + 2) E Look e looked)
  where
    l : ℕ
    l = (E.worker i).lock

    t : ℕ
    t = (E.lock (E.worker i).lock).turn

    count : suc (longest_run K.most + 2) ≡ help_steps K.most
    count = omega arith

    held : E.lock l ≡ record { turn = t; holder = Some s }
    held = λ j. record { turn = t; holder = h j }

    other : s ≢ (E.worker i).own
    other z = (won_held K E T st o l s h).is (ap (λ s. (st s).kind) z ∙ (mine K E T st o i Look e).1.0)

    worker :
        (step_at K E i (E.worker i) Look).worker ≡
        put E.worker i (machine_moved (E.worker i) (UnderWay (Point.Run (start_of s t) Read)))
    worker =
        ap
        (λ (x : Option ℕ).
        put E.worker i (machine_moved (E.worker i) (look_to K.last (record { turn = t; holder = x }))))
        h

    looked : Completed K (alone_steps K i (longest_run K.most + 2) (step_at K E i (E.worker i) Look)) T i l t
    looked =
        let next = step_ok K E T st o i Look e in
        let D = step_at K E i (E.worker i) Look in
        helps_on K T i l s t (longest_run K.most + 2) D next.st next.ok (start_of s t) Read
        (moved K T i l s t E D Look (Point.Run (start_of s t) Read) worker refl
        (record { state = e; lock = refl; own = other; held = held }))
        (refl, refl, λ z. z) (omega arith)
