-- The tale of a step: only a grab that takes its lock turns a lock from free to held.
use Rattle.std.specs.Prelude.{None, Option, Some}
use Prim.Native.Nat.{ℕ, suc}
use mathlib.Core.Path.{◌≡◌, refl, sym, ap, subst}
use mathlib.Core.Bool.{Bool, true, false}
use mathlib.Core.List.{◌∷◌}
use lib.Dec.{eqb}
use borrow.Author.Tests.{eqb-true}
use Rattle.parts.specs.Pick.{pick, on_option}
use Rattle.parts.specs.declared.LockWord.{LockWord}
use Rattle.steps.specs.declared.Point.{Point}
use Rattle.steps.specs.declared.Point.TheVariants.{Look, Grab, LookAgain, ReadMark}
use Rattle.steps.specs.declared.Stage.TheVariants.{Read, Commit, Swap, Mark, Release}
use Rattle.steps.specs.declared.Worker.{Worker}
use Rattle.helping.specs.Machine.{Rules, Scene, Tale, put, machine_grab, machine_release, step_at, step_tale, grab_tale, with_won, win_tale}
use Rattle.histories.specs.History.{won_by}

holds_still : (l : LockWord) → won_by l l ≡ false
holds_still l = go l.holder refl
  where
    go : (h : Option ℕ) → l.holder ≡ h → won_by l l ≡ false
    go None e = rw e
    go (Some s) e = rw e

put_still : (f : ℕ → LockWord) (k : ℕ) (x : LockWord) → won_by (f k) x ≡ false → (l : ℕ) → won_by (f l) (put f k x l) ≡ false
put_still f k x h l = go (eqb l k) refl
  where
    go : (b : Bool) → eqb l k ≡ b → won_by (f l) (pick b x (f l)) ≡ false
    go true e = subst (λ (m : ℕ). won_by (f m) x ≡ false) (sym (eqb-true l k e)) h
    go false e = holds_still (f l)

release_still : (l : LockWord) (won s : ℕ) → won_by l (machine_release l won s) ≡ false
unfolding machine_release
release_still l won s = go l.holder refl
  where
    go : (h : Option ℕ) → l.holder ≡ h → won_by l (machine_release l won s) ≡ false
    go None e = rw e
    go (Some t) e = rw e

-- what a step makes of the won tries, where no lock was won
none_won : (T : Tale) (i : ℕ) (f g : ℕ → LockWord) → ((l : ℕ) → won_by (f l) (g l) ≡ false) →
    (λ l. pick (won_by (f l) (g l)) (T.tries i ∷ T.won l) (T.won l)) ≡ T.won
none_won T i f g h = λ j l. pick (h l j) (T.tries i ∷ T.won l) (T.won l)

-- a lock that was free and is held now: the try stands first in its list
one_won :
    (T : Tale) (i k : ℕ) (f : ℕ → LockWord) (x : LockWord) → won_by (f k) x ≡ true →
    (λ l. pick (won_by (f l) (put f k x l)) (T.tries i ∷ T.won l) (T.won l)) ≡ (win_tale T i k).won
one_won T i k f x h = λ j l. go l (eqb l k) refl j
  where
    go :
        (l : ℕ) (b : Bool) → eqb l k ≡ b →
        pick (won_by (f l) (pick b x (f l))) (T.tries i ∷ T.won l) (T.won l) ≡ pick b (T.tries i ∷ T.won k) (T.won l)
    go l true e =
        subst
        (λ (m : ℕ). pick (won_by (f m) x) (T.tries i ∷ T.won m) (T.won m) ≡ T.tries i ∷ T.won k)
        (sym (eqb-true l k e)) (ap (λ (b : Bool). pick b (T.tries i ∷ T.won k) (T.won k)) h)
    go l false e = ap (λ (b : Bool). pick b (T.tries i ∷ T.won l) (T.won l)) (holds_still (f l))

grabbed :
    (T : Tale) (i k : ℕ) (f : ℕ → LockWord) (seen own : ℕ) →
    (λ l. pick (won_by (f l) (put f k (machine_grab (f k) seen own) l)) (T.tries i ∷ T.won l) (T.won l)) ≡
    (grab_tale T i k (f k) seen).won
unfolding machine_grab grab_tale
grabbed T i k f seen own = go (f k).holder (eqb (f k).turn seen) refl
  where
    go :
        (h : Option ℕ) (b : Bool) → (f k).holder ≡ h →
        (λ l.
        pick (won_by (f l) (put f k (on_option h (pick b (record { turn = suc seen; holder = Some own }) (f k)) (λ s. f k)) l))
        (T.tries i ∷ T.won l) (T.won l)) ≡
        (on_option h (pick b (win_tale T i k) T) (λ s. T)).won
    go None true e = one_won T i k f _ (ap (λ (h : Option ℕ). on_option h true (λ s. false)) e)
    go None false e = none_won T i f (put f k (f k)) (put_still f k (f k) (holds_still (f k)))
    go (Some s) b e = none_won T i f (put f k (f k)) (put_still f k (f k) (holds_still (f k)))

pub won_is : (K : Rules) (T : Tale) (E : Scene) (i : ℕ) (k : Worker) (p : Point) →
    (λ l. pick (won_by (E.lock l) ((step_at K E i k p).lock l)) (T.tries i ∷ T.won l) (T.won l)) ≡ (step_tale T E i k p).won
unfolding step_at step_tale
won_is K T E i k Look = none_won T i E.lock E.lock (λ l. holds_still (E.lock l))
won_is K T E i k (Grab seen) = grabbed T i k.lock E.lock seen k.own
won_is K T E i k (LookAgain won) = none_won T i E.lock E.lock (λ l. holds_still (E.lock l))
won_is K T E i k (ReadMark seen won) = none_won T i E.lock E.lock (λ l. holds_still (E.lock l))
won_is K T E i k (Point.Run r Read) = none_won T i E.lock E.lock (λ l. holds_still (E.lock l))
won_is K T E i k (Point.Run r (Commit u)) = none_won T i E.lock E.lock (λ l. holds_still (E.lock l))
won_is K T E i k (Point.Run r (Swap e new)) = none_won T i E.lock E.lock (λ l. holds_still (E.lock l))
won_is K T E i k (Point.Run r (Mark said)) = none_won T i E.lock E.lock (λ l. holds_still (E.lock l))
won_is K T E i k (Point.Run r (Release said)) =
    none_won T i E.lock (put E.lock k.lock (machine_release (E.lock k.lock) r.won r.sheet))
    (put_still E.lock k.lock _ (release_still (E.lock k.lock) r.won r.sheet))

-- nothing else of the tale moves
pub only_won :
    (T : Tale) (E : Scene) (i : ℕ) (k : Worker) (p : Point) →
    with_won T (step_tale T E i k p).won ≡ step_tale T E i k p
unfolding step_tale grab_tale
only_won T E i k Look = refl
only_won T E i k (Grab seen) = go (E.lock k.lock).holder (eqb (E.lock k.lock).turn seen)
  where
    go :
        (h : Option ℕ) (b : Bool) →
        let to = on_option h (pick b (win_tale T i k.lock) T) (λ s. T) in
        with_won T to.won ≡ to
    go None true = refl
    go None false = refl
    go (Some s) b = refl
only_won T E i k (LookAgain won) = refl
only_won T E i k (ReadMark seen won) = refl
only_won T E i k (Point.Run r at) = refl
