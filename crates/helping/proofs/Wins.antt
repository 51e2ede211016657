-- A worker's try joins the list of its lock: what is said of the lists, and of the tries, stays.
use Prim.Native.Nat.{ℕ, ◌+◌, ◌≤◌}
use native.Mathlib.Omega.{arith}
use native.Mathlib.Decide.{ℕ_discrete}
use mathlib.Core.Path.{◌≡◌, refl, sym, ap, ◌∙◌, subst}
use mathlib.Core.Logic.{◌≢◌}
use mathlib.Core.Bool.{Bool, true, false}
use mathlib.Core.List.{List, ◌∷◌}
use lib.Dec.{eqb}
use borrow.Author.Tests.{ne_eqb}
use Rattle.parts.specs.Pick.{pick}
use Rattle.steps.specs.declared.State.{State}
use Rattle.steps.specs.declared.Worker.{Worker}
use Rattle.alone.specs.Jobs.{Try, times}
use Rattle.helping.specs.Machine.{Rules, Tale, win_tale}
use Rattle.helping.specs.Ok.{View, Listed, Absent, Named, NotIdle}
use Rattle.helping.proofs.Put.{put_at_lem}
use Rattle.helping.proofs.Frame.{retold}

module _ (T : Tale) (i l : ℕ) where
  -- another number stands there as often as before
  pub times_win :
      (n : ℕ) → (T.tries i).number ≢ n → (m : ℕ) → times n ((win_tale T i l).won m) ≡ times n (T.won m)
  unfolding times
  times_win n ne =
      put_at_lem (λ m (ts : List Try). times n ts ≡ times n (T.won m)) T.won l (T.tries i ∷ T.won l)
      (rw (ne_eqb (T.tries i).number n ne) (omega arith)) (λ m z. refl)

  -- one that stood nowhere stands there once at most, and in this lock's list
  first_win : (n : ℕ) → Absent T n → (m : ℕ) → times n ((win_tale T i l).won m) ≤ 1
  unfolding times
  first_win n a =
      put_at_lem (λ m (ts : List Try). times n ts ≤ 1) T.won l (T.tries i ∷ T.won l)
      (go (eqb (T.tries i).number n)) (λ m z. omega (arith, a m))
    where
      go : (b : Bool) → pick b 1 0 + times n (T.won l) ≤ 1
      go true = omega (arith, a l)
      go false = omega (arith, a l)

  there_win : (n : ℕ) → Absent T n → (m : ℕ) → 1 ≤ times n ((win_tale T i l).won m) → m ≡ l
  there_win n a =
      put_at_lem (λ m (ts : List Try). 1 ≤ times n ts → m ≡ l) T.won l (T.tries i ∷ T.won l) (λ h. refl)
      (λ m z h. absurd (omega (arith, a m, h)))

  -- where the try that joins stood nowhere before, every number still stands there once at most
  module _ (new : Absent T (T.tries i).number) where
    new_at : (n : ℕ) → (T.tries i).number ≡ n → Absent T n
    new_at n e = subst (Absent T) e new

    pub once_win : ((n m : ℕ) → times n (T.won m) ≤ 1) → (n m : ℕ) → times n ((win_tale T i l).won m) ≤ 1
    once_win h n m = go (ℕ_discrete (T.tries i).number n)
      where
        go : Dec ((T.tries i).number ≡ n) → times n ((win_tale T i l).won m) ≤ 1
        go (yes e) = first_win n (new_at n e) m
        go (no z) = subst (λ (x : ℕ). x ≤ 1) (sym (times_win n z m)) (h n m)

    pub only_win :
        ((n a b : ℕ) → 1 ≤ times n (T.won a) → 1 ≤ times n (T.won b) → a ≡ b) → (n a b : ℕ) →
        1 ≤ times n ((win_tale T i l).won a) → 1 ≤ times n ((win_tale T i l).won b) → a ≡ b
    only_win h n a b x y = go (ℕ_discrete (T.tries i).number n)
      where
        go : Dec ((T.tries i).number ≡ n) → a ≡ b
        go (yes e) = there_win n (new_at n e) a x ∙ sym (there_win n (new_at n e) b y)
        go (no z) = h n a b (subst (λ (x : ℕ). 1 ≤ x) (times_win n z a) x) (subst (λ (x : ℕ). 1 ≤ x) (times_win n z b) y)

  listed_win :
      (P : List Try → Type 0) (t : Try) (m : ℕ) → Listed P t (T.won m) → Listed P t ((win_tale T i l).won m)
  listed_win P t =
      put_at_lem (λ m (ts : List Try). Listed P t (T.won m) → Listed P t ts) T.won l (T.tries i ∷ T.won l)
      (λ L.
      record {
        later = T.tries i ∷ L.later;
        earlier = L.earlier;
        list = ap (λ (ts : List Try). T.tries i ∷ ts) L.list;
        holds = L.holds;
      })
      (λ m z L. L)

  pub absent_win : (n : ℕ) → (T.tries i).number ≢ n → Absent T n → Absent (win_tale T i l) n
  absent_win n z a m = times_win n z m ∙ a m

  -- what is told of the try of another worker
  pub named_win :
      (K : Rules) (v : View) (t : Try) (k : Worker) (s : State) → (NotIdle s → (T.tries i).number ≢ t.number) →
      Named K T v t k s → Named K (win_tale T i l) v t k s
  named_win K v t k s z =
      retold K T (win_tale T i l) v t k s (λ b. absent_win t.number (z b)) (λ P. listed_win P t t.lock)
