-- A worker stepped alone on a free lock below its last turn: it wins, runs its own job to its end and lets go. Nothing changes but itself,
-- its sheet, the lock, and the words that the lock guards.
use Rattle.std.specs.Prelude.{None, Option, Some}
use Prim.Native.Nat.{ℕ, zero, suc, ◌+◌, ◌≤◌}
use native.Mathlib.Omega.{arith}
use borrow.Author.Tests.{eq-eqb, ne_eqb}
use mathlib.Core.Bool.{Bool, false}
use mathlib.Core.List.{List}
use mathlib.Core.Logic.{◌≢◌, inl}
use mathlib.Core.Path.{◌≡◌, refl, sym, ap, ◌∙◌, subst}
use Rattle.parts.specs.Numbers.{longest_run, try_steps}
use Rattle.parts.specs.Pick.{pick}
use Rattle.parts.specs.declared.Answer.TheVariants.{RanYes, RanNo}
use Rattle.parts.specs.declared.Instr.{Instr}
use Rattle.parts.specs.declared.LockWord.{LockWord}
use Rattle.parts.specs.declared.Reading.{Reading}
use Rattle.alone.proofs.Bounds.{follows_all}
use Rattle.steps.specs.Try.{start_of, answer_of}
use Rattle.steps.specs.Worker.{looking_of}
use Rattle.steps.specs.declared.Point.{Point}
use Rattle.steps.specs.declared.Point.TheVariants.{Look, Grab, LookAgain, ReadMark}
use Rattle.steps.specs.declared.Run.{Run}
use Rattle.steps.specs.declared.Stage.{Stage}
use Rattle.steps.specs.declared.Stage.TheVariants.{Read, Commit, Swap, Mark, Release}
use Rattle.steps.specs.declared.State.{State}
use Rattle.steps.specs.declared.State.TheVariants.{UnderWay, Finished}
use Rattle.steps.specs.declared.Worker.{Worker}
use Rattle.helping.specs.Machine.{Rules, Scene, Shared, Pace, Act, fin, go, touch, target, put, set_shared, shared_of, point_of, pace_of, machine_moved, machine_grab, machine_release, look_to, mark_to, on_to, step_at, machine_begun}
use Rattle.helping.specs.Ideal.{Job, Ideal, next_of, ideal_of, act_in, Touches, Guarded, Fine, FineJob, Inv, RunStands, StepKeeps, left_at}
use Rattle.helping.specs.Ok.{Releasing, onward, alone_steps}
use Rattle.helping.proofs.Put.{put_same, put_other}
use Rattle.helping.proofs.Run.{stays}
use Rattle.helping.proofs.Inside.{names_in}
use Rattle.helping.proofs.Core.{step_kept}
use Rattle.helping.proofs.Touch.{Going, OnRun, run_on, paced, touched}
use Rattle.helping.proofs.Help.{finished_stays, to_do}

-- what worker i, alone on lock l, leaves as it was
pub record Beside (K : Rules) (E D : Scene) (i l : ℕ) : Type 0 where
  pub workers : (j : ℕ) → j ≢ i → D.worker j ≡ E.worker j
  pub locks : (m : ℕ) → m ≢ l → D.lock m ≡ E.lock m
  pub words : (q : ℕ) → (Guarded K l q → ⊥) → D.word q ≡ E.word q

-- it has run job J to its halt
pub record Ran (K : Rules) (J : Job) (E D : Scene) (i turn : ℕ) : Type 0 where
  pub n : ℕ
  pub said : Bool
  pub halts : act_in J n ≡ fin said
  pub answer : (D.worker i).state ≡ Finished (pick said RanYes RanNo)
  pub lock : D.lock J.lock ≡ record { turn = turn; holder = None }
  pub words : (q : ℕ) → Guarded K J.lock q → D.word q ≡ (ideal_of J n).words q
  pub beside : Beside K E D i J.lock

-- worker i has own sheet s; it wins lock l at turn t
module _ (K : Rules) (J : Job) (f : FineJob K J) (E₀ : Scene) (i s t : ℕ) where
  abbrev l : ℕ
  l = J.lock

  abbrev Done : Scene → Type 0
  Done D = Ran K J E₀ D i t

  -- its next step, then the others
  step_first :
      (n : ℕ) (E : Scene) (p : Point) → (E.worker i).state ≡ UnderWay p → Done (alone_steps K i n (step_at K E i (E.worker i) p)) →
      Done (alone_steps K i (suc n) E)
  unfolding alone_steps
  step_first n E p e c = subst (λ (z : State). Done (alone_steps K i n (onward K i E z))) (sym e) c

  -- it goes on in state z: the other workers stay
  others : (E D : Scene) (z : State) → D.worker ≡ put E.worker i (machine_moved (E.worker i) z) → D.lock ≡ E.lock →
      ((q : ℕ) → (Guarded K l q → ⊥) → D.word q ≡ E.word q) → Beside K E₀ E i l → Beside K E₀ D i l
  others E D z e h w b =
      record {
        workers =
            λ j d. ap (λ (g : ℕ → Worker). g j) e ∙ put_other E.worker i (machine_moved (E.worker i) z) j d ∙ b.workers j d;
        locks = λ m d. ap (λ (g : ℕ → LockWord). g m) h ∙ b.locks m d;
        words = λ q n. w q n ∙ b.words q n;
      }

  -- In its own run, which holds the lock.
  record Lone (E : Scene) (r : Run) (at : Stage) : Type 0 where
    state : (E.worker i).state ≡ UnderWay (Point.Run r at)
    lock : (E.worker i).lock ≡ l
    own : (E.worker i).own ≡ s
    held : E.lock l ≡ record { turn = t; holder = Some s }
    code : E.program s ≡ J.code
    sheet : r.sheet ≡ s
    won : r.won ≡ t
    front : ℕ
    inv : Inv K J front (shared_of E s)
    stands : RunStands J front (shared_of E s) r at
    beside : Beside K E₀ E i l

  -- the last step: release
  released : machine_release (record { turn = t; holder = Some s }) t s ≡ record { turn = t; holder = None }
  unfolding machine_release
  released = rw (eq-eqb s s refl, eq-eqb t t refl)

  told : (r : Run) (own : ℕ) (said : Bool) → r.sheet ≡ s → own ≡ s → answer_of r own said ≡ pick said RanYes RanNo
  unfolding answer_of
  told r own said e h = rw (e, h, eq-eqb s s refl)

  let_go : (n : ℕ) (E : Scene) (r : Run) (said : Bool) → Lone E r (Release said) → Done (alone_steps K i (suc n) E)
  unfolding step_at
  let_go n E r said o =
      let D = step_at K E i (E.worker i) (Point.Run r (Release said)) in
      let ends : (D.worker i).state ≡ Finished (pick said RanYes RanNo) =
      ap (λ (k : Worker). k.state) (put_same E.worker i _) ∙ ap Finished (told r (E.worker i).own said o.sheet o.own) in
      let free : D.lock l ≡ record { turn = t; holder = None } =
      subst (λ (m : ℕ). put E.lock m (machine_release (E.lock m) r.won r.sheet) l ≡ record { turn = t; holder = None })
      (sym o.lock) (put_same E.lock l _ ∙ (λ j. machine_release (o.held j) (o.won j) (o.sheet j)) ∙ released) in
      let halted = o.stands.inn.2 in
      step_first n E (Point.Run r (Release said)) o.state
      (subst Done (sym (finished_stays K i n D (pick said RanYes RanNo) ends))
      (record {
        n = o.stands.j;
        said = said;
        halts = halted;
        answer = ends;
        lock = free;
        words =
            λ q g.
            o.inv.words q g ∙ ap (λ (x : _). x.words q) (stays J o.stands.j said halted o.front o.stands.behind);
        beside =
            record {
              workers = λ j d. put_other E.worker i _ j d ∙ o.beside.workers j d;
              locks = λ m d. put_other E.lock (E.worker i).lock _ m (λ z. d (z ∙ o.lock)) ∙ o.beside.locks m d;
              words = o.beside.words;
            };
      }))

  -- what is left to do is done in n steps
  abbrev Runner : ℕ → Type 0
  Runner n =
      (E : Scene) (r : Run) (at : Stage) → Lone E r at → (Releasing at → ⊥) → left_at K.most r at ≤ n → Done (alone_steps K i n E)

  -- a step before its halt, of the sheet's number m and program c
  abbrev paced_at : Scene → Run → Stage → ℕ → List Instr → Scene
  paced_at E r at m c =
      let after = pace_of c (shared_of E m) r at in
      on_to (set_shared E m after.shared) i (E.worker i) (UnderWay (point_of after))

  run_step :
      (n : ℕ) → Runner n → (E : Scene) (r : Run) (at : Stage) → Lone E r at → Going at → left_at K.most r at ≤ suc n →
      Done (alone_steps K i n (paced_at E r at r.sheet (E.program r.sheet)))
  run_step n ih E r at o g b =
      subst (λ (m : ℕ). Done (alone_steps K i n (paced_at E r at m (E.program m)))) (sym o.sheet)
      (subst (λ (c : List Instr). Done (alone_steps K i n (paced_at E r at s c))) (sym o.code) here)
    where
      x : Shared
      x = shared_of E s

      after : Pace
      after = pace_of J.code x r at

      D : Scene
      D = paced_at E r at s J.code

      kept : StepKeeps K J o.front x after
      kept = step_kept K J f o.front x r at o.inv o.stands

      shared : shared_of D s ≡ after.shared
      shared = λ j. record { word = after.shared.word; log = put_same E.log s after.shared.log j }

      to : OnRun r.sheet r.won after.run after.stage
      to = run_on J.code x r at g

      here : Done (alone_steps K i n D)
      here =
          ih D after.run after.stage
          (record {
            state = ap (λ (k : Worker). k.state) (put_same E.worker i _);
            lock = ap (λ (k : Worker). k.lock) (put_same E.worker i _) ∙ o.lock;
            own = ap (λ (k : Worker). k.own) (put_same E.worker i _) ∙ o.own;
            held = o.held;
            code = o.code;
            sheet = to.0 ∙ o.sheet;
            won = to.1 ∙ o.won;
            front = kept.to;
            inv = subst (Inv K J kept.to) (sym shared) kept.inv;
            stands = subst (λ (y : Shared). RunStands J kept.to y after.run after.stage) (sym shared) kept.stands;
            beside = others E D _ refl refl (λ q z. (touched K J f o.front x r at o.stands).words q z) o.beside;
          })
          to.2 (omega (arith, paced K J f o.front x r at o.stands g))

  step_on : (n : ℕ) → Runner n → Runner (suc n)
  unfolding step_at
  step_on n ih E r Read o on b = step_first n E _ o.state (run_step n ih E r Read o tt b)
  step_on n ih E r (Commit u) o on b = step_first n E _ o.state (run_step n ih E r (Commit u) o tt b)
  step_on n ih E r (Swap e new) o on b = step_first n E _ o.state (run_step n ih E r (Swap e new) o tt b)
  step_on zero ih E r (Mark said) o on b = absurd (omega arith)
  step_on (suc n) ih E r (Mark said) o on b =
      let D = step_at K E i (E.worker i) (Point.Run r (Mark said)) in
      step_first (suc n) E (Point.Run r (Mark said)) o.state
      (let_go n D r said
      (record {
        state = ap (λ (k : Worker). k.state) (put_same E.worker i _);
        lock = ap (λ (k : Worker). k.lock) (put_same E.worker i _) ∙ o.lock;
        own = ap (λ (k : Worker). k.own) (put_same E.worker i _) ∙ o.own;
        held = o.held;
        code = o.code;
        sheet = o.sheet;
        won = o.won;
        front = o.front;
        inv = o.inv;
        stands = record { j = o.stands.j; behind = o.stands.behind; inn = o.stands.inn };
        beside = others E D _ refl refl (λ q z. refl) o.beside;
      }))
  step_on n ih E r (Release said) o on b = absurd (on tt)

  runs_on : (n : ℕ) → Runner n
  runs_on zero = λ E r at o on b. absurd (omega (arith, to_do K.most (Point.Run r at)))
  runs_on (suc n) = step_on n (runs_on n)

  -- Before it: the sheet is fresh, the lock word is x.
  record Before (E : Scene) (p : Point) (x : LockWord) : Type 0 where
    state : (E.worker i).state ≡ UnderWay p
    lock : (E.worker i).lock ≡ l
    own : (E.worker i).own ≡ s
    word : E.lock l ≡ x
    code : E.program s ≡ J.code
    done : E.done s ≡ false
    log : (p : ℕ) → E.log s p ≡ None
    words : (q : ℕ) → Guarded K l q → E.word q ≡ J.words q
    beside : Beside K E₀ E i l

  -- it goes on to q; of the rest only the lock word may change
  abbrev with_locks : Scene → (ℕ → LockWord) → Scene
  with_locks E L =
      record { word = E.word; lock = L; program = E.program; done = E.done; log = E.log; worker = E.worker }

  on_to_lem :
      (E : Scene) (L : ℕ → LockWord) (p q : Point) (x y : LockWord) (z : State) → Before E p x → z ≡ UnderWay q → L l ≡ y →
      ((m : ℕ) → m ≢ l → L m ≡ E.lock m) → Before (on_to (with_locks E L) i (E.worker i) z) q y
  on_to_lem E L p q x y z o e h d =
      record {
        state = ap (λ (k : Worker). k.state) (put_same E.worker i _) ∙ e;
        lock = ap (λ (k : Worker). k.lock) (put_same E.worker i _) ∙ o.lock;
        own = ap (λ (k : Worker). k.own) (put_same E.worker i _) ∙ o.own;
        word = h;
        code = o.code;
        done = o.done;
        log = o.log;
        words = o.words;
        beside =
            record {
              workers = λ j n. put_other E.worker i _ j n ∙ o.beside.workers j n;
              locks = λ m n. d m n ∙ o.beside.locks m n;
              words = o.beside.words;
            };
      }

  -- the four steps up to its run, from a free lock word
  module _ (seen : ℕ) (below : seen ≢ K.last) (turned : suc seen ≡ t) where
    abbrev free : LockWord
    free = record { turn = seen; holder = None }

    abbrev taken : LockWord
    taken = record { turn = t; holder = Some s }

    look_on : look_to K.last free ≡ UnderWay (Grab seen)
    unfolding look_to
    look_on = rw (ne_eqb seen K.last below)

    grab_on : machine_grab free seen s ≡ taken
    unfolding machine_grab
    grab_on = rw (eq-eqb seen seen refl, turned)

    mark_on : mark_to false taken t s ≡ UnderWay (Point.Run (start_of s t) Read)
    unfolding mark_to
    mark_on = rw (eq-eqb s s refl)

    from_run : (E : Scene) → Before E (Point.Run (start_of s t) Read) taken → Done (alone_steps K i (longest_run K.most + 2) E)
    unfolding ideal_of
    from_run E o =
        runs_on (longest_run K.most + 2) E (start_of s t) Read
        (record {
          state = o.state;
          lock = o.lock;
          own = o.own;
          held = o.word;
          code = o.code;
          sheet = refl;
          won = refl;
          front = 0;
          inv =
              record {
                words = o.words;
                past = λ j h z. absurd (omega arith);
                here = λ z. inl (o.log 0);
                later = λ p h. o.log p;
              };
          stands = record { j = 0; behind = omega arith; inn = (record { next = refl; registers = refl }, refl) };
          beside = o.beside;
        })
        (λ z. z) (omega arith)

    from_mark : (E : Scene) → Before E (ReadMark taken t) taken → Done (alone_steps K i (suc (longest_run K.most + 2)) E)
    unfolding step_at
    from_mark E o =
        step_first (longest_run K.most + 2) E (ReadMark taken t) o.state
        (from_run _
        (on_to_lem E E.lock (ReadMark taken t) _ taken taken (mark_to (E.done (E.worker i).own) taken t (E.worker i).own) o
        ((λ j. mark_to (E.done (o.own j)) taken t (o.own j)) ∙ ap (λ (b : Bool). mark_to b taken t s) o.done ∙ mark_on)
        o.word (λ m n. refl)))

    from_again : (E : Scene) → Before E (LookAgain t) taken → Done (alone_steps K i (suc (suc (longest_run K.most + 2))) E)
    unfolding step_at
    from_again E o =
        step_first (suc (longest_run K.most + 2)) E (LookAgain t) o.state
        (from_mark _
        (on_to_lem E E.lock (LookAgain t) (ReadMark taken t) taken taken (UnderWay (ReadMark (E.lock (E.worker i).lock) t)) o
        (ap (λ (x : LockWord). UnderWay (ReadMark x t)) (ap E.lock o.lock ∙ o.word)) o.word (λ m n. refl)))

    from_grab : (E : Scene) → Before E (Grab seen) free → Done (alone_steps K i (suc (suc (suc (longest_run K.most + 2)))) E)
    unfolding step_at
    from_grab E o =
        let k = E.worker i in
        let L = put E.lock k.lock (machine_grab (E.lock k.lock) seen k.own) in
        let won : L l ≡ taken =
        subst (λ (m : ℕ). put E.lock m (machine_grab (E.lock m) seen k.own) l ≡ taken) (sym o.lock)
        (put_same E.lock l _ ∙ (λ j. machine_grab (o.word j) seen (o.own j)) ∙ grab_on) in
        step_first (suc (suc (longest_run K.most + 2))) E (Grab seen) o.state
        (from_again _
        (on_to_lem E L (Grab seen) (LookAgain t) free taken (UnderWay (LookAgain (suc seen))) o
        (ap (λ (n : ℕ). UnderWay (LookAgain n)) turned) won
        (λ m n. put_other E.lock k.lock _ m (λ z. n (z ∙ o.lock)))))

    from_look : (E : Scene) → Before E Look free → Done (alone_steps K i (suc (suc (suc (suc (longest_run K.most + 2))))) E)
    unfolding step_at
    from_look E o =
        step_first (suc (suc (suc (longest_run K.most + 2)))) E Look o.state
        (from_grab _
        (on_to_lem E E.lock Look (Grab seen) free free (look_to K.last (E.lock (E.worker i).lock)) o
        (ap (look_to K.last) (ap E.lock o.lock ∙ o.word) ∙ look_on) o.word (λ m n. refl)))

-- a begin on a free lock, and then the worker alone: it runs its job on the words as they were
pub runs_alone :
    (K : Rules) (E : Scene) (i l s seen : ℕ) (code : List Instr) (words : ℕ → Reading) → Fine K l code → seen ≢ K.last →
    E.lock l ≡ record { turn = seen; holder = None } → ((q : ℕ) → Guarded K l q → E.word q ≡ words q) →
    Ran K (record { code = code; lock = l; words = words }) E (alone_steps K i (try_steps K.most) (machine_begun E i l code s)) i
    (suc seen)
runs_alone K E i l s seen code words f below lock same =
    subst (λ (n : ℕ). Ran K J E (alone_steps K i n D) i (suc seen)) count
    (from_look K J f E i s (suc seen) seen below refl D
    (record {
      state = ap (λ (k : Worker). k.state) looks;
      lock = ap (λ (k : Worker). k.lock) looks;
      own = ap (λ (k : Worker). k.own) looks;
      word = lock;
      code = put_same E.program s code;
      done = put_same E.done s false;
      log = λ p. ap (λ (g : ℕ → Option Reading). g p) (put_same E.log s (λ p. None));
      words = same;
      beside = record { workers = λ j n. put_other E.worker i _ j n; locks = λ m n. refl; words = λ q n. refl };
    }))
  where
    J : Job
    J = record { code = code; lock = l; words = words }

    D : Scene
    D = machine_begun E i l code s

    looks : D.worker i ≡ looking_of l s
    looks = put_same E.worker i (looking_of l s)

    count : suc (suc (suc (suc (longest_run K.most + 2)))) ≡ try_steps K.most
    count = omega arith

-- the ideal run leaves the words of other locks
pub spares :
    (K : Rules) (J : Job) → FineJob K J → (n q : ℕ) → (Guarded K J.lock q → ⊥) → (ideal_of J n).words q ≡ J.words q
unfolding ideal_of next_of
spares K J f zero q d = refl
spares K J f (suc n) q d = by (act_in J n) (names_in K J f n) ∙ spares K J f n q d
  where
    by : (a : Act) → (Touches a → Guarded K J.lock (target a)) → (next_of a (ideal_of J n)).words q ≡ (ideal_of J n).words q
    by (fin said) g = refl
    by (go rs k) g = refl
    by (touch w h) g =
        follows_all (λ (y : Ideal). y.words q ≡ (ideal_of J n).words q) (h ((ideal_of J n).words w).value) (λ rs. refl)
        (λ new. put_other (ideal_of J n).words w _ q (λ z. d (subst (Guarded K J.lock) (sym z) (g tt))))
