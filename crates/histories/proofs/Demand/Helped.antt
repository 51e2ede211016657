-- "any worker that then begins a valid job there and is stepped alone completes the last one within 97 steps": a begin on a held lock is
-- accepted of every idle worker with every valid job, and the steps after it are those of the theory's lone helper.
use Rattle.parts.specs.Told.{Told}
use Rattle.std.specs.Prelude.{Err, Ok, Some}
use Prim.Native.Nat.{ℕ, zero, suc, ◌<◌}
use mathlib.Core.Path.{◌≡◌, refl, sym, ap, ◌∙◌, subst}
use mathlib.Core.Bool.{false}
use mathlib.Core.List.{List, ◌∷◌}
use borrow.Author.Tests.{lt-leb, eq-eqb}
use Rattle.parts.specs.Numbers.{workers, instructions, help_steps}
use Rattle.parts.specs.Parts.{worn_of}
use Rattle.parts.specs.declared.Instr.{Instr}
use Rattle.parts.specs.declared.LockWord.{LockWord}
use Rattle.parts.specs.declared.Refusal.TheVariants.{NotCollected, WorkerIdle}
use Rattle.arrays.specs.Fresh.{guards_of}
use Rattle.records.specs.Bytes.{AllBytes}
use Rattle.records.specs.Job.{job_of, job_told}
use Rattle.steps.specs.Worker as steps
use Rattle.steps.specs.declared.Point.{Point}
use Rattle.steps.specs.declared.State.{State}
use Rattle.steps.specs.declared.State.TheVariants.{Idle, UnderWay, Finished}
use Rattle.steps.specs.declared.Worker.{Worker}
use Rattle.engine.specs.State.{worker_at, lock_at, lock_count, words_of, free_sheet}
use Rattle.engine.specs.Step.{stepped_of}
use Rattle.engine.specs.Calls.{begin_told, step_told, step_of}
use Rattle.engine.specs.Inner.{Begins}
use Rattle.engine.specs.declared.Engine.{Engine}
use Rattle.engine.specs.declared.Outcome.{Outcome}
use Rattle.helping.specs.Machine.{Rules, Scene, machine_begun, begin_tale, step_at}
use Rattle.helping.specs.Ok.{onward, alone_steps}
use Rattle.past.specs.Past as past
use Rattle.histories.specs.History as history
use Rattle.past.specs.Past.{Begin, Step, AllRecords, after}
use Rattle.histories.specs.History.{Sofar, then_of, follow}
use Rattle.helping.proofs.Ranges.{ranged}
use Rattle.helping.proofs.Begin.{begin_ok}
use Rattle.helping.proofs.Help.{Completed, completes}
use Rattle.histories.proofs.Map.Map.{rules_of, scene_of, tale_of, Under}
use Rattle.histories.proofs.Rules.Rules.{job_fine, free_unused}
use Rattle.past.proofs.Accepted.{begin_told_lem, step_told_lem}
use Rattle.histories.proofs.Simulation.Standing.{Standing, state_then, standing_then, guarded}
use Rattle.histories.proofs.Map.Steps.{step_is, begin_is}

-- a worker that there is: its step is told by its state
told_by_lem : (e : Engine) (w : ℕ) → w < workers → step_told e w ≡ steps.step_by_state (worker_at e w)
told_by_lem e w h = rw (lt-leb workers w h)

pub told_in :
    (e : Engine) (w : ℕ) → w < workers → (t : State) → (worker_at e w).state ≡ t →
    step_told e w ≡ steps.on_state {A = Told} t (Err WorkerIdle) (λ p. Ok tt) (λ y. Err NotCollected)
unfolding steps.step_by_state
told_in e w h t q =
    told_by_lem e w h ∙ ap (λ (t : State). steps.on_state {A = Told} t (Err WorkerIdle) (λ p. Ok tt) (λ y. Err NotCollected)) q

-- one that is under way may step, and its step is the machine's
pub step_accepted :
    (e : Engine) (w : ℕ) (p : Point) → w < workers → (worker_at e w).state ≡ UnderWay p → (step_of e w).told ≡ Ok tt
step_accepted e w p h q = ap (λ (o : Outcome). o.told) (step_told_lem e w (Ok tt) (told_in e w h (UnderWay p) q))

pub step_scene :
    (K : Rules) (x : Sofar) → Standing K x → (w : ℕ) (p : Point) → w < workers → (worker_at x.state w).state ≡ UnderWay p →
    scene_of (step_of x.state w).engine ≡ step_at K (scene_of x.state) w ((scene_of x.state).worker w) p
step_scene K x s w p h q =
    ap (λ (o : Outcome). scene_of o.engine) (step_told_lem x.state w (Ok tt) (told_in x.state w h (UnderWay p) q)) ∙
    ap (λ (t : State). scene_of (steps.on_state t x.state (λ p. stepped_of x.state w p) (λ y. x.state))) q ∙
    step_is K x.state s.good s.under (ranged K _ _ s.next.st s.next.ok) w p h q

-- where it is not, nothing changes
onward_is :
    (K : Rules) (x : Sofar) → Standing K x → (w : ℕ) → w < workers →
    scene_of (after x.state (Step w)) ≡ onward K w (scene_of x.state) (worker_at x.state w).state
unfolding after
onward_is K x s w h = go (worker_at x.state w).state refl
  where
    go :
        (t : State) → (worker_at x.state w).state ≡ t →
        scene_of (step_of x.state w).engine ≡ onward K w (scene_of x.state) t
    go Idle q =
        ap (λ (o : Outcome). scene_of o.engine) (step_told_lem x.state w (Err WorkerIdle) (told_in x.state w h Idle q))
    go (UnderWay p) q = step_scene K x s w p h q
    go (Finished a) q =
        ap (λ (o : Outcome). scene_of o.engine)
        (step_told_lem x.state w (Err NotCollected) (told_in x.state w h (Finished a) q))

-- n steps of a worker are the machine's n lone steps
alone_is :
    (K : Rules) (x : Sofar) → Standing K x → (w : ℕ) → w < workers → (n : ℕ) →
    scene_of (follow x (past.steps n w)).state ≡ alone_steps K w n (scene_of x.state)
unfolding follow alone_steps AllRecords
alone_is K x s w h zero = refl
alone_is K x s w h (suc n) =
    alone_is K (then_of x (Step w)) (standing_then K x (Step w) s tt) w h n ∙
    ap (alone_steps K w n) (ap scene_of (state_then x (Step w)) ∙ onward_is K x s w h)

-- every idle worker may begin on a lock that isn't worn, with every valid job
pub may_begin :
    (x : Sofar) (w l : ℕ) (rec : List ℕ) → l < lock_count x.state →
    worn_of (lock_at x.state l) ≡ false → w < workers → (worker_at x.state w).state ≡ Idle →
    job_told rec l (guards_of (words_of x.state)) ≡ Ok tt → Begins x.state w l rec
unfolding steps.begin_by_state
may_begin x w l rec b h k i j = record { worker = k; idle = rw i; lock = b; job = j; worn = h }

held_not_worn : (x : LockWord) (s : ℕ) → x.holder ≡ Some s → worn_of x ≡ false
unfolding worn_of
held_not_worn x s h = rw h

pub told_accepted : (e : Engine) (w l : ℕ) (rec : List ℕ) → Begins e w l rec → begin_told e w l rec ≡ Ok tt
unfolding begin_told
told_accepted e w l rec b =
    rw
    (lt-leb workers w b.worker, b.idle, lt-leb (lock_count e) l b.lock, b.job, b.worn)

-- the state after the begin and n steps, in the theory's words
pub helped_is :
    (K : Rules) (x : Sofar) → Standing K x → (w l : ℕ) (rec : List ℕ) → AllBytes rec → Begins x.state w l rec → (n : ℕ) →
    scene_of (follow x (Begin w l rec ∷ past.steps n w)).state ≡
    alone_steps K w n (machine_begun (scene_of x.state) w l (job_of rec) (free_sheet x.state))
unfolding follow after AllRecords
helped_is K x s w l rec b t n =
    let told = begin_told_lem x.state w l rec (Ok tt) (told_accepted x.state w l rec t) in
    alone_is K (then_of x (Begin w l rec)) (standing_then K x (Begin w l rec) s (b, tt)) w t.worker n ∙
    ap (alone_steps K w n)
    (ap scene_of (state_then x (Begin w l rec)) ∙ ap (λ (o : Outcome). scene_of o.engine) told ∙ begin_is x.state s.good w l rec t)

-- a worker that has just begun is to look at its lock
looking : (E : Scene) (w l : ℕ) (code : List Instr) (s : ℕ) → (machine_begun E w l code s).worker w ≡ steps.looking_of l s
looking E w l code s = rw (eq-eqb w w refl)

pub completed :
    (e₀ : Engine) → Under (rules_of e₀) e₀ → (x : Sofar) → Standing (rules_of e₀) x → (w l h : ℕ) (rec : List ℕ) → l < lock_count x.state → (lock_at x.state l).holder ≡ Some h → w < workers →
    (worker_at x.state w).state ≡ Idle → AllBytes rec → job_told rec l (guards_of (words_of x.state)) ≡ Ok tt →
    history.Completed e₀ x w l rec
completed e₀ u₀ x s w l h rec below held seat idle bytes job =
    let K = rules_of e₀ in
    let b = may_begin x w l rec below (held_not_worn (lock_at x.state l) h held) seat idle job in
    let E = scene_of x.state in
    let D = machine_begun E w l (job_of rec) (free_sheet x.state) in
    let T = begin_tale (tale_of x) w l (job_of rec) in
    let next =
    begin_ok K E (tale_of x) s.next.st s.next.ok w l (free_sheet x.state) (job_of rec)
    (free_unused x.state s.good w l rec b) (job_fine K x.state s.good s.under rec l job) in
    let look = looking E w l (job_of rec) (free_sheet x.state) in
    let done =
    completes K D T next.st next.ok w h (ap (λ (k : Worker). k.state) look)
    (ap (λ (k : Worker). (lock_at x.state k.lock).holder) look ∙ held) in
    let ends =
    subst
    (λ (n : ℕ). Completed K (alone_steps K w (help_steps n) D) T w (D.worker w).lock (lock_at x.state (D.worker w).lock).turn)
    s.under.most done in
    let at =
    subst (λ (k : Worker). Completed K (alone_steps K w (help_steps instructions) D) T w k.lock (lock_at x.state k.lock).turn)
    look ends in
    let here = helped_is K x s w l rec bytes b (help_steps instructions) in
    let there = subst (λ (F : Scene). Completed K F T w l (lock_at x.state l).turn) (sym here) at in
    record {
      begun = ap (λ (o : Outcome). o.told) (begin_told_lem x.state w l rec (Ok tt) (told_accepted x.state w l rec b));
      answer = there.answer;
      lock = there.lock;
      words = λ q g. there.words q (guarded K e₀ u₀ l q g);
    }
