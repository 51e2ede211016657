-- A step of a worker counts as one, and no other call counts.
use Rattle.std.specs.Prelude.{None, Option, Some}
use Prim.Native.Nat.{ℕ, suc}
use mathlib.Core.Path.{◌≡◌, refl, sym, ap, subst}
use mathlib.Core.Bool.{Bool, true, false}
use lib.Dec.{eqb}
use Rattle.parts.specs.Pick.{pick, on_option}
use Rattle.parts.specs.declared.Answer.TheVariants.{NotTaken, Worn}
use Rattle.parts.specs.declared.LockWord.{LockWord}
use Rattle.steps.specs.Try.{start_of}
use Rattle.steps.specs.Worker.{worker0}
use Rattle.steps.specs.declared.Point.{Point}
use Rattle.steps.specs.declared.Point.TheVariants.{Look, Grab, LookAgain, ReadMark}
use Rattle.steps.specs.declared.Stage.TheVariants.{Read, Commit, Swap, Mark, Release}
use Rattle.steps.specs.declared.State.{State}
use Rattle.steps.specs.declared.State.TheVariants.{UnderWay, Finished}
use Rattle.steps.specs.declared.Worker.{Worker}
use Rattle.helping.specs.Machine.{Rules, Scene, Tale, put, machine_moved, look_to, mark_to, step_at}
use Rattle.helping.specs.Ok.{NotIdle, Next}
use Rattle.histories.proofs.Simulation.Simulation.{Simulated, unchanged, begun, moved, idled}

-- the number of steps that a worker keeps is the number of its accepted steps since begin
abbrev pub Counted : Scene → (ℕ → ℕ) → Type 0
Counted E S = (v : ℕ) → NotIdle (E.worker v).state → (E.worker v).steps ≡ S v

-- a step of worker i counts, leads on or to an answer, and changes no other worker
pub record SteppedBy (K : Rules) (E : Scene) (i : ℕ) (k : Worker) (p : Point) : Type 0 where
  pub to : State
  pub worker : (step_at K E i k p).worker ≡ put E.worker i (machine_moved k to)
  pub busy : NotIdle to

busy_look : (last : ℕ) (l : LockWord) → NotIdle (look_to last l)
unfolding look_to
busy_look last l = go l.holder (eqb l.turn last)
  where
    go :
        (h : Option ℕ) (b : Bool) →
        NotIdle (on_option h (pick b (Finished Worn) (UnderWay (Grab l.turn))) (λ s. UnderWay (Point.Run (start_of s l.turn) Read)))
    go None true = tt
    go None false = tt
    go (Some s) b = tt

busy_mark : (done : Bool) (seen : LockWord) (won own : ℕ) → NotIdle (mark_to done seen won own)
unfolding mark_to
busy_mark true seen won own = tt
busy_mark false seen won own = go seen.holder
  where
    same : (s : ℕ) (b : Bool) → NotIdle (pick b (UnderWay (Point.Run (start_of own won) Read)) (UnderWay (Point.Run (start_of s seen.turn) Read)))
    same s true = tt
    same s false = tt

    go :
        (h : Option ℕ) →
        NotIdle
        (on_option h (Finished NotTaken)
        (λ s. pick (eqb s own) (UnderWay (Point.Run (start_of own won) Read)) (UnderWay (Point.Run (start_of s seen.turn) Read))))
    go None = tt
    go (Some s) = same s (eqb s own)

pub stepped_worker : (K : Rules) (E : Scene) (i : ℕ) (k : Worker) (p : Point) → SteppedBy K E i k p
unfolding step_at
stepped_worker K E i k Look = record { to = _; worker = refl; busy = busy_look K.last (E.lock k.lock) }
stepped_worker K E i k (Grab seen) = record { to = _; worker = refl; busy = tt }
stepped_worker K E i k (LookAgain won) = record { to = _; worker = refl; busy = tt }
stepped_worker K E i k (ReadMark seen won) =
    record { to = _; worker = refl; busy = busy_mark (E.done k.own) seen won k.own }
stepped_worker K E i k (Point.Run r Read) = record { to = _; worker = refl; busy = tt }
stepped_worker K E i k (Point.Run r (Commit u)) = record { to = _; worker = refl; busy = tt }
stepped_worker K E i k (Point.Run r (Swap e new)) = record { to = _; worker = refl; busy = tt }
stepped_worker K E i k (Point.Run r (Mark said)) = record { to = _; worker = refl; busy = tt }
stepped_worker K E i k (Point.Run r (Release said)) = record { to = _; worker = refl; busy = tt }

-- one worker changes, and its number of steps with it
count_put :
    (E : Scene) (S : ℕ → ℕ) (i : ℕ) (k : Worker) (n : ℕ) → Counted E S → (NotIdle k.state → k.steps ≡ n) →
    (v : ℕ) → NotIdle (put E.worker i k v).state → (put E.worker i k v).steps ≡ put S i n v
count_put E S i k n c h v = go (eqb v i)
  where
    go : (b : Bool) → NotIdle (pick b k (E.worker v)).state → (pick b k (E.worker v)).steps ≡ pick b n (S v)
    go true y = h y
    go false y = c v y

pub counted_then :
    (K : Rules) (E E' : Scene) (T T' : Tale) (S S' : ℕ → ℕ) → Next K E T → Counted E S → Simulated K E T S E' T' S' →
    Counted E' S'
counted_then K E E' T T' S S' n c (unchanged e t s) = rw (e, s) c
counted_then K E E' T T' S S' n c (begun i l s code idle u f e t q) = rw (e, q) (count_put E S i _ 0 c (λ y. refl))
counted_then K E E' T T' S S' n c (moved i p w e t q) =
    let at = stepped_worker K E i (E.worker i) p in
    let moves = count_put E S i (machine_moved (E.worker i) at.to) (suc (S i)) c (λ y. ap suc (c i (rw w tt))) in
    rw (e, q) (subst (λ (f : ℕ → Worker). (v : ℕ) → NotIdle (f v).state → (f v).steps ≡ put S i (suc (S i)) v) (sym at.worker) moves)
counted_then K E E' T T' S S' n c (idled i e t q) = rw (e, q) (λ v. gone v (eqb v i))
  where
    gone : (v : ℕ) (b : Bool) → NotIdle (pick b worker0 (E.worker v)).state → (pick b worker0 (E.worker v)).steps ≡ S v
    gone v true y = absurd y
    gone v false y = c v y
