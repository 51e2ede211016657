-- A lock's turn is its starting turn and one for each try that won it.
use Rattle.std.specs.Prelude.{None, Option, Some}
use Prim.Native.Nat.{ℕ, suc, ◌+◌}
use native.Mathlib.Omega.{arith}
use mathlib.Core.Path.{◌≡◌, refl, sym, ap, ◌∙◌}
use mathlib.Core.Bool.{Bool, true, false}
use mathlib.Core.List.{List, ◌∷◌}
use lib.Dec.{eqb}
use lib.ListN.{length}
use borrow.Author.Tests.{eqb-true}
use Rattle.parts.specs.Pick.{pick, on_option}
use Rattle.parts.specs.declared.LockWord.{LockWord}
use Rattle.alone.specs.Jobs.{Try}
use Rattle.steps.specs.declared.Point.{Point}
use Rattle.steps.specs.declared.Point.TheVariants.{Look, Grab, LookAgain, ReadMark}
use Rattle.steps.specs.declared.Stage.TheVariants.{Read, Commit, Swap, Mark, Release}
use Rattle.steps.specs.declared.Worker.{Worker}
use Rattle.engine.specs.State.{lock_at}
use Rattle.engine.specs.Calls.{setup_of}
use Rattle.helping.specs.Machine.{Rules, Scene, Tale, put, machine_grab, machine_release, step_at, win_tale, grab_tale, step_tale}
use Rattle.past.specs.Past.{Past}
use Rattle.histories.specs.History.{start, sofar}
use Rattle.helping.proofs.Put.{put_case}
use Rattle.histories.proofs.Map.Map.{rules_of}
use Rattle.histories.proofs.Simulation.Simulation.{Simulated, unchanged, begun, moved, idled}
use Rattle.histories.proofs.Simulation.Standing.{keeps-follow, standing_start}

-- a lock's turn is its starting turn and one for each try of its list
abbrev Turned : (ℕ → ℕ) → Scene → Tale → Type 0
Turned from E T = (l : ℕ) → (E.lock l).turn ≡ from l + length (T.won l)

turned_put :
    (from : ℕ → ℕ) (f : ℕ → LockWord) (won : ℕ → List Try) (k : ℕ) (x : LockWord) (ts : List Try) →
    ((l : ℕ) → (f l).turn ≡ from l + length (won l)) → x.turn ≡ from k + length ts →
    (l : ℕ) → (put f k x l).turn ≡ from l + length (put won k ts l)
turned_put from f won k x ts h q l = go (eqb l k) refl
  where
    go : (b : Bool) → eqb l k ≡ b → (pick b x (f l)).turn ≡ from l + length (pick b ts (won l))
    go true e = q ∙ ap (λ (m : ℕ). from m + length ts) (sym (eqb-true l k e))
    go false e = h l

turned_grab :
    (from : ℕ → ℕ) (E : Scene) (T : Tale) (i k seen own : ℕ) → Turned from E T → (l : ℕ) →
    (put E.lock k (machine_grab (E.lock k) seen own) l).turn ≡ from l + length ((grab_tale T i k (E.lock k) seen).won l)
unfolding machine_grab grab_tale
turned_grab from E T i k seen own h l = go (E.lock k).holder (eqb (E.lock k).turn seen) refl
  where
    x : LockWord
    x = E.lock k

    same : (l : ℕ) → (put E.lock k (E.lock k) l).turn ≡ from l + length (T.won l)
    same l = put_case E.lock k (E.lock k) (λ (y : LockWord). y.turn ≡ from l + length (T.won l)) l (λ e. ap (λ (m : ℕ). (E.lock m).turn) (sym e) ∙ h l) (λ n. h l)

    go :
        (o : Option ℕ) (b : Bool) → eqb (E.lock k).turn seen ≡ b →
        (put E.lock k (on_option o (pick b (record { turn = suc seen; holder = Some own }) (E.lock k)) (λ s. E.lock k)) l).turn ≡
        from l + length ((on_option o (pick b (win_tale T i k) T) (λ s. T)).won l)
    go None true e =
        turned_put from E.lock T.won k (record { turn = suc seen; holder = Some own }) (T.tries i ∷ T.won k) h
        (omega (arith, eqb-true (E.lock k).turn seen e, h k)) l
    go None false e = same l
    go (Some s) b e = same l

release_turn : (l : LockWord) (won s : ℕ) → (machine_release l won s).turn ≡ l.turn
unfolding machine_release
release_turn l won s = go l.holder
  where
    pass : (b c : Bool) → (pick b (pick c (record { turn = l.turn; holder = None }) l) l).turn ≡ l.turn
    pass true true = refl
    pass true false = refl
    pass false c = refl

    go :
        (h : Option ℕ) →
        (on_option h l (λ t. pick (eqb t s) (pick (eqb l.turn won) (record { turn = l.turn; holder = None }) l) l)).turn ≡ l.turn
    go None = refl
    go (Some t) = pass (eqb t s) (eqb l.turn won)

turned_step :
    (K : Rules) (from : ℕ → ℕ) (E : Scene) (T : Tale) (i : ℕ) (k : Worker) (p : Point) → Turned from E T →
    Turned from (step_at K E i k p) (step_tale T E i k p)
unfolding step_at step_tale
turned_step K from E T i k Look h = h
turned_step K from E T i k (Grab seen) h = turned_grab from E T i k.lock seen k.own h
turned_step K from E T i k (LookAgain won) h = h
turned_step K from E T i k (ReadMark seen won) h = h
turned_step K from E T i k (Point.Run r Read) h = h
turned_step K from E T i k (Point.Run r (Commit u)) h = h
turned_step K from E T i k (Point.Run r (Swap e new)) h = h
turned_step K from E T i k (Point.Run r (Mark said)) h = h
turned_step K from E T i k (Point.Run r (Release said)) h =
    λ l.
    put_case E.lock k.lock (machine_release (E.lock k.lock) r.won r.sheet)
    (λ (y : LockWord). y.turn ≡ from l + length (T.won l)) l
    (λ e. release_turn (E.lock k.lock) r.won r.sheet ∙ ap (λ (m : ℕ). (E.lock m).turn) (sym e) ∙ h l) (λ n. h l)

turned_then :
    (K : Rules) (from : ℕ → ℕ) (E E' : Scene) (T T' : Tale) (S S' : ℕ → ℕ) → Turned from E T → Simulated K E T S E' T' S' →
    Turned from E' T'
turned_then K from E E' T T' S S' h (unchanged e t s) = rw (e, t) h
turned_then K from E E' T T' S S' h (begun i l s code idle u f e t c) = rw (e, t) h
turned_then K from E E' T T' S S' h (moved i p q e t c) = rw (e, t) (turned_step K from E T i (E.worker i) p h)
turned_then K from E E' T T' S S' h (idled i e t c) = rw (e, t) h

pub turn_past :
    (p : Past) (l : ℕ) → (lock_at (sofar p).state l).turn ≡ (lock_at (setup_of p.setup).engine l).turn + length ((sofar p).won l)
turn_past p =
    let e = (setup_of p.setup).engine in
    let from : ℕ → ℕ = λ l. (lock_at e l).turn in
    keeps-follow (rules_of e) (λ E T. Turned from E T) (λ E E' T T' S S' n h sim. turned_then (rules_of e) from E E' T T' S S' h sim)
    (start e) p.calls (standing_start p.setup p.setup_bytes) p.calls_bytes (λ l. omega arith)
