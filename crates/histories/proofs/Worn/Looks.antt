-- One step on its pieces: where a Look leads, that no other step leads to worn, and that a worn lock word stays as it is.
use Rattle.std.specs.Prelude.{None, Option, Some}
use Prim.Native.Nat.{ℕ, ◌<◌}
use mathlib.Core.Bool.{Bool, true, false}
use mathlib.Core.Path.{◌≡◌, refl, ap, ◌∙◌}
use native.Mathlib.Omega.{arith}
use borrow.Author.Tests.{eqb-true, eq-eqb, ne_eqb}
use lib.Dec.{eqb}
use Rattle.parts.specs.Instr.{asks_of, follows_of}
use Rattle.parts.specs.Numbers.{last_turn}
use Rattle.parts.specs.Parts.{holds_of, worn_of, grab_of, release_of}
use Rattle.parts.specs.Pick.{pick, on_option}
use Rattle.parts.specs.declared.Answer.{Answer}
use Rattle.parts.specs.declared.Answer.TheVariants.{RanYes, RanNo, NotTaken, Worn}
use Rattle.parts.specs.declared.LockWord.{LockWord}
use Rattle.alone.proofs.Bounds.{asks_all, follows_all}
use Rattle.steps.specs.Try.{to_of, at_of, start_of, look_step, grab_step, look_again_step, read_mark_step, read_step, follow_step, commit_step, swap_step, mark_step, answer_of, release_step, effect_of}
use Rattle.steps.specs.declared.Point.{Point}
use Rattle.steps.specs.declared.Point.TheVariants.{Look, Grab, LookAgain, ReadMark}
use Rattle.steps.specs.declared.Stage.TheVariants.{Read, Commit, Swap, Mark, Release}
use Rattle.steps.specs.declared.State.{State}
use Rattle.steps.specs.declared.State.TheVariants.{Idle, UnderWay, Finished}
use Rattle.steps.specs.declared.View.{View}
use Rattle.ranges.specs.Good.{GoodPoint}
use Rattle.ranges.proofs.Frame.{pick_all}
use Rattle.histories.proofs.Rules.Guards.{holder_each}

-- a point past Look; a state past it, with no answer; and one that is that, or has another answer than worn
abbrev pub PastLook : Point → Type 0
PastLook Look = ⊥
PastLook (Grab seen) = Unit {0}
PastLook (LookAgain won) = Unit {0}
PastLook (ReadMark seen won) = Unit {0}
PastLook (Point.Run r at) = Unit {0}

abbrev pub OnWay : State → Type 0
OnWay Idle = ⊥
OnWay (UnderWay p) = PastLook p
OnWay (Finished a) = ⊥

abbrev pub Later : State → Type 0
Later Idle = ⊥
Later (UnderWay p) = PastLook p
Later (Finished RanYes) = Unit {0}
Later (Finished RanNo) = Unit {0}
Later (Finished NotTaken) = Unit {0}
Later (Finished Worn) = ⊥

-- a Look that finds the lock worn is told so, and any other goes on
pub data LooksTo (l : LockWord) (q : State) : Type 0 where
  worn : q ≡ Finished Worn → worn_of l ≡ true → LooksTo l q
  onward : OnWay q → worn_of l ≡ false → LooksTo l q

pub look_to_lem : (v : View) → LooksTo v.lock (effect_of Look v).worker.state
unfolding effect_of look_step worn_of
look_to_lem v = go v.lock.holder (eqb v.lock.turn last_turn) refl refl
  where
    go :
        (h : Option ℕ) (b : Bool) → v.lock.holder ≡ h → eqb v.lock.turn last_turn ≡ b →
        LooksTo v.lock
        (on_option h (pick b (to_of v (Finished Worn)) (at_of v (Grab v.lock.turn)))
        (λ s. at_of v (Point.Run (start_of s v.lock.turn) Read))).worker.state
    go None true e f = worn refl (simp (e, f))
    go None false e f = onward tt (simp (e, f))
    go (Some s) b e f = onward tt (simp e)

-- a step past Look
module _ (v : View) where
  abbrev P : View → Type 0
  P u = Later u.worker.state

  pub later : (p : Point) → PastLook p → Later (effect_of p v).worker.state
  unfolding effect_of grab_step look_again_step read_mark_step read_step commit_step follow_step swap_step mark_step release_step answer_of
  later Look h = absurd h
  later (Grab seen) h = tt
  later (LookAgain won) h = tt
  later (ReadMark seen won) h =
      pick_all P v.done _ _ tt
      (holder_each P seen.holder _ _ tt (λ s. pick_all P (eqb s v.worker.own) _ _ tt tt))
  later (Point.Run r Read) h = asks_all P (asks_of v.instr r.registers) (λ said. tt) (λ rs n. tt) (λ w. tt)
  later (Point.Run r (Commit read)) h =
      follows_all P (follows_of v.instr r.registers (holds_of v.entry read).value) (λ rs. tt) (λ new. tt)
  later (Point.Run r (Swap entry new)) h = tt
  later (Point.Run r (Mark said)) h = tt
  later (Point.Run r (Release said)) h =
      pick_all (λ (a : Answer). Later (Finished a)) (eqb r.sheet v.worker.own) _ _
      (pick_all (λ (a : Answer). Later (Finished a)) said _ _ tt tt) tt

-- a worn lock word
abbrev pub worn0 : LockWord
worn0 = record { turn = last_turn; holder = None }

pub worn_is : (l : LockWord) → worn_of l ≡ true → l ≡ worn0
unfolding worn_of
worn_is l h = go l.holder refl h
  where
    go : (q : Option ℕ) → l.holder ≡ q → on_option q (eqb l.turn last_turn) (λ s. false) ≡ true → l ≡ worn0
    go None e z = λ i. record { turn = eqb-true l.turn last_turn z i; holder = e i }
    go (Some s) e z = let z : ◌≡◌ {A = ℕ} 0 1 = cc in absurd (omega arith)

pub worn0_worn : worn_of worn0 ≡ true
unfolding worn_of
worn0_worn = eq-eqb last_turn last_turn refl

grab_worn : (seen own : ℕ) → seen < last_turn → grab_of worn0 seen own ≡ worn0
unfolding grab_of
grab_worn seen own h = simp (ne_eqb last_turn seen (λ e. omega arith))

-- no step changes it: a Grab saw an earlier turn, and a Release finds no holder
module _ (v : View) (w : v.lock ≡ worn0) where
  abbrev W : View → Type 0
  W u = u.lock ≡ worn0

  pub stays_worn : (p : Point) → GoodPoint p → (effect_of p v).lock ≡ worn0
  unfolding effect_of look_step grab_step look_again_step read_mark_step read_step commit_step follow_step swap_step mark_step release_step release_of
  stays_worn Look g = holder_each W v.lock.holder _ _ (pick_all W (eqb v.lock.turn last_turn) _ _ w w) (λ s. w)
  stays_worn (Grab seen) g = ap (λ (l : LockWord). grab_of l seen v.worker.own) w ∙ grab_worn seen v.worker.own g
  stays_worn (LookAgain won) g = w
  stays_worn (ReadMark seen won) g =
      pick_all W v.done _ _ w (holder_each W seen.holder _ _ w (λ s. pick_all W (eqb s v.worker.own) _ _ w w))
  stays_worn (Point.Run r Read) g = asks_all W (asks_of v.instr r.registers) (λ said. w) (λ rs n. w) (λ q. w)
  stays_worn (Point.Run r (Commit read)) g =
      follows_all W (follows_of v.instr r.registers (holds_of v.entry read).value) (λ rs. w) (λ new. w)
  stays_worn (Point.Run r (Swap entry new)) g = w
  stays_worn (Point.Run r (Mark said)) g = w
  stays_worn (Point.Run r (Release said)) g = ap (λ (l : LockWord). release_of l r.won r.sheet) w
