-- Each step of a worker under way keeps the invariant.
use Rattle.std.specs.Prelude.{None, Option, Some}
use Prim.Native.Nat.{ℕ, suc}
use native.Mathlib.Omega.{arith}
use mathlib.Core.Path.{◌≡◌, refl, sym, subst}
use mathlib.Core.Logic.{◌⊎◌, inl, inr}
use mathlib.Core.Bool.{Bool, true, false}
use lib.Dec.{eqb}
use borrow.Author.Tests.{eqb-true}
use Rattle.parts.specs.Pick.{pick}
use Rattle.parts.specs.declared.LockWord.{LockWord}
use Rattle.steps.specs.declared.Point.{Point}
use Rattle.steps.specs.declared.Point.TheVariants.{Look, Grab, LookAgain, ReadMark}
use Rattle.steps.specs.declared.Run.{Run}
use Rattle.steps.specs.declared.Stage.{Stage}
use Rattle.steps.specs.declared.Stage.TheVariants.{Read, Commit, Swap, Mark, Release}
use Rattle.steps.specs.declared.State.TheVariants.{UnderWay}
use Rattle.steps.specs.declared.Worker.{Worker}
use Rattle.helping.specs.Machine.{Rules, Scene, Tale, set_lock, machine_moved, on_to, machine_grab, paced_of, step_at, win_tale, grab_tale, step_tale}
use Rattle.helping.specs.Ok.{Status, view_of, PointOk, Ok, Next}
use Rattle.helping.proofs.Put.{put_same}
use Rattle.helping.proofs.Touch.{Going}
use Rattle.helping.proofs.Frees.{free_at}
use Rattle.helping.proofs.Takes.{takes}
use Rattle.helping.proofs.Looks.{mine, goes, look_ok, again_ok, read_mark_ok}
use Rattle.helping.proofs.Runs.{lock_self, pace_ok, mark_ok}
use Rattle.helping.proofs.Releases.{release_ok}

-- a grab leaves the lock word x, or takes it where it is free at the turn that was seen, and then its try wins; y and U are what
-- the lock word and the tale become
abbrev pub GrabWay : Tale → ℕ → ℕ → ℕ → ℕ → LockWord → LockWord → Tale → Type 0
GrabWay T i l seen own x y U =
    ((y ≡ x) × (U ≡ T)) ⊎
    ((x ≡ free_at seen) × (y ≡ record { turn = suc seen; holder = Some own }) × (U ≡ win_tale T i l))

pub grab_way :
    (T : Tale) (i l seen own : ℕ) (x : LockWord) → GrabWay T i l seen own x (machine_grab x seen own) (grab_tale T i l x seen)
unfolding machine_grab grab_tale
grab_way T i l seen own x = way x.turn x.holder
  where
    way :
        (t : ℕ) (h : Option ℕ) →
        GrabWay T i l seen own (record { turn = t; holder = h }) (machine_grab (record { turn = t; holder = h }) seen own)
        (grab_tale T i l (record { turn = t; holder = h }) seen)
    way t None = go (eqb t seen) refl
      where
        go :
            (b : Bool) → eqb t seen ≡ b →
            GrabWay T i l seen own (free_at t) (pick b (record { turn = suc seen; holder = Some own }) (free_at t))
            (pick b (win_tale T i l) T)
        go true z = inr (λ i. free_at (eqb-true t seen z i), refl, refl)
        go false z = inl (refl, refl)
    way t (Some s) = inl (refl, refl)

module _ (K : Rules) (E : Scene) (T : Tale) (st : ℕ → Status) (o : Ok K E T st) (i : ℕ) where
  abbrev k : Worker
  k = E.worker i

  grab_ok :
      (seen : ℕ) → k.state ≡ UnderWay (Grab seen) →
      Next K (on_to (set_lock E k.lock (machine_grab (E.lock k.lock) seen k.own)) i k (UnderWay (LookAgain (suc seen))))
      (grab_tale T i k.lock (E.lock k.lock) seen)
  grab_ok seen e =
      go (machine_grab (E.lock k.lock) seen k.own) (grab_tale T i k.lock (E.lock k.lock) seen)
      (grab_way T i k.lock seen k.own (E.lock k.lock))
    where
      q : PointOk K (view_of E st) k.own k.lock (Grab seen)
      q = (mine K E T st o i (Grab seen) e).1

      on : Ok K (on_to E i k (UnderWay (LookAgain (suc seen)))) T st
      on = goes K E T st o i (Grab seen) e (LookAgain (suc seen)) (omega arith) (inl q.0)

      go :
          (y : LockWord) (U : Tale) → GrabWay T i k.lock seen k.own (E.lock k.lock) y U →
          Next K (on_to (set_lock E k.lock y) i k (UnderWay (LookAgain (suc seen)))) U
      go y U (inl z) =
          subst (Next K (on_to (set_lock E k.lock y) i k (UnderWay (LookAgain (suc seen))))) (sym z.1)
          (subst (λ (x : LockWord). Next K (on_to (set_lock E k.lock x) i k (UnderWay (LookAgain (suc seen)))) T)
          (sym z.0)
          (subst (λ (F : Scene). Next K (on_to F i k (UnderWay (LookAgain (suc seen)))) T) (sym (lock_self E k.lock))
          (record { st = st; ok = on })))
      go y U (inr z) =
          subst (Next K (on_to (set_lock E k.lock y) i k (UnderWay (LookAgain (suc seen))))) (sym z.2)
          (subst
          (λ (x : LockWord).
          Next K (on_to (set_lock E k.lock x) i k (UnderWay (LookAgain (suc seen)))) (win_tale T i k.lock))
          (sym z.1)
          (record {
            st = _;
            ok =
                takes K (on_to E i k (UnderWay (LookAgain (suc seen)))) T st on i
                (machine_moved k (UnderWay (LookAgain (suc seen)))) (put_same E.worker i _) seen refl q.0 q.1 z.0
                q.2;
          }))

  -- a step of a run at an instruction
  run_ok :
      (r : Run) (at : Stage) → k.state ≡ UnderWay (Point.Run r at) → Going at → Next K (paced_of E i k r at) T
  run_ok r at e g = pace_ok K E T st o i r at e g (mine K E T st o i (Point.Run r at) e).1.0

pub step_ok :
    (K : Rules) (E : Scene) (T : Tale) (st : ℕ → Status) → Ok K E T st → (i : ℕ) (p : Point) →
    (E.worker i).state ≡ UnderWay p → Next K (step_at K E i (E.worker i) p) (step_tale T E i (E.worker i) p)
unfolding step_at step_tale
step_ok K E T st o i Look e = record { st = st; ok = look_ok K E T st o i e }
step_ok K E T st o i (Grab seen) e = grab_ok K E T st o i seen e
step_ok K E T st o i (LookAgain won) e = record { st = st; ok = again_ok K E T st o i won e }
step_ok K E T st o i (ReadMark seen won) e = record { st = st; ok = read_mark_ok K E T st o i seen won e }
step_ok K E T st o i (Point.Run r Read) e = run_ok K E T st o i r Read e tt
step_ok K E T st o i (Point.Run r (Commit u)) e = run_ok K E T st o i r (Commit u) e tt
step_ok K E T st o i (Point.Run r (Swap u new)) e = run_ok K E T st o i r (Swap u new) e tt
step_ok K E T st o i (Point.Run r (Mark said)) e = record { st = st; ok = mark_ok K E T st o i r said e }
step_ok K E T st o i (Point.Run r (Release said)) e = release_ok K E T st o i r said e
