-- One step on its pieces: whether it fills the entry, and which sheets are named and run after it.
use Rattle.std.specs.Prelude.{None, Option, Some}
use Prim.Native.Nat.{ℕ}
use mathlib.Core.Bool.{Bool, true, false}
use mathlib.Core.Path.{◌≡◌, refl, ap, ◌∙◌, subst}
use native.Mathlib.Omega.{arith}
use lib.Dec.{eqb}
use Rattle.parts.specs.Instr.{asks_of, follows_of}
use Rattle.parts.specs.Numbers.{last_turn}
use Rattle.parts.specs.Parts.{next32, committed_of, holds_of, is_first, grab_of, release_of}
use Rattle.parts.specs.Pick.{pick, on_option}
use Rattle.parts.specs.declared.Answer.TheVariants.{NotTaken, Worn}
use Rattle.parts.specs.declared.LockWord.{LockWord}
use Rattle.parts.specs.declared.Reading.{Reading}
use Rattle.alone.proofs.Bounds.{asks_all, follows_all}
use Rattle.steps.specs.Places.{helped_of}
use Rattle.steps.specs.Try.{to_of, at_of, start_of, view_with_entry, look_step, grab_step, look_again_step, read_mark_step, read_step, follow_step, commit_step, swap_step, mark_step, release_step, effect_of}
use Rattle.steps.specs.Worker.{counted_of}
use Rattle.steps.specs.declared.Point.{Point}
use Rattle.steps.specs.declared.Point.TheVariants.{Look, Grab, LookAgain, ReadMark}
use Rattle.steps.specs.declared.Run.{Run}
use Rattle.steps.specs.declared.Stage.{Stage}
use Rattle.steps.specs.declared.Stage.TheVariants.{Read, Commit, Swap, Mark, Release}
use Rattle.steps.specs.declared.State.{State}
use Rattle.steps.specs.declared.State.TheVariants.{Idle, UnderWay, Finished}
use Rattle.steps.specs.declared.View.{View}
use Rattle.ranges.proofs.Frame.{pick_all}
use Rattle.histories.specs.Filling.{runs_sheet}
use Rattle.histories.proofs.Rules.Guards.{holder_each}

-- a step of a worker at p made u of the pieces v: it fills no entry; or a run's step finds the entry empty, fills and counts it
pub data Touch (v : View) (p : Point) (u : View) : Type 0 where
  none : u.entry.fill ≡ v.entry.fill → u.worker.filled ≡ v.worker.filled → Touch v p u
  one :
      (r : Run) (at : Stage) (read : Reading) → p ≡ Point.Run r at → v.entry.fill ≡ None → u.entry.fill ≡ Some read →
      u.worker.filled ≡ next32 v.worker.filled → Touch v p u

-- of a worker in this state: the sheet that it helps or runs
abbrev pub helped_in : State → Option ℕ
helped_in Idle = None
helped_in (UnderWay p) = helped_of p
helped_in (Finished x) = None

-- it runs sheet s, or is over
abbrev pub Runs : ℕ → State → Type 0
Runs s Idle = ⊥
Runs s (UnderWay p) = runs_sheet (UnderWay p) ≡ Some s
Runs s (Finished x) = Unit {0}

-- every sheet that is named after the step has O; a run stays on its sheet
pub record Goes (v : View) (p : Point) (O : ℕ → Type 0) (u : View) : Type 0 where
  pub touch : Touch v p u
  pub own : u.worker.own ≡ v.worker.own
  pub lock : (s : ℕ) → u.lock.holder ≡ Some s → O s
  pub helped : (s : ℕ) → helped_in u.worker.state ≡ Some s → O s
  pub run : (s : ℕ) → runs_sheet (UnderWay p) ≡ Some s → Runs s u.worker.state

-- a commit's entry and count
abbrev committing : View → Reading → View
committing v read = view_with_entry v (committed_of v.entry read) (counted_of v.worker (is_first v.entry))

touched : (v : View) (r : Run) (read : Reading) (q : State) → Touch v (Point.Run r (Commit read)) (to_of (committing v read) q)
unfolding committed_of is_first counted_of
touched v r read q = go v.entry.fill refl
  where
    go : (f : Option Reading) → v.entry.fill ≡ f → Touch v (Point.Run r (Commit read)) (to_of (committing v read) q)
    go None e = one r (Commit read) read refl e (simp e) (simp e)
    go (Some x) e = none (simp e) (simp e)

pub not_free : (s : ℕ) → None ≡ Some s → ⊥
not_free s h = let z : ◌≡◌ {A = ℕ} 0 1 = cc in absurd (omega arith)

-- every sheet that v names has O
module _ (v : View) (O : ℕ → Type 0) (held : (s : ℕ) → v.lock.holder ≡ Some s → O s) (mine : O v.worker.own) where
  abbrev Seen : Point → Type 0
  Seen p = (s : ℕ) → helped_of p ≡ Some s → O s

  -- the worker goes to this state, and nothing else changes
  goes_to :
      (p : Point) (q : State) → ((s : ℕ) → helped_in q ≡ Some s → O s) →
      ((s : ℕ) → runs_sheet (UnderWay p) ≡ Some s → Runs s q) → Goes v p O (to_of v q)
  goes_to p q a b = record { touch = none refl refl; own = refl; lock = held; helped = a; run = b }

  nowhere : (s : ℕ) → None ≡ Some s → O s
  nowhere s h = absurd (not_free s h)

  look_goes : Goes v Look O (look_step v)
  unfolding look_step helped_of
  look_goes = go v.lock.holder (eqb v.lock.turn last_turn) refl
    where
      go :
          (h : Option ℕ) (b : Bool) → v.lock.holder ≡ h →
          Goes v Look O
          (on_option h (pick b (to_of v (Finished Worn)) (at_of v (Grab v.lock.turn)))
          (λ s. at_of v (Point.Run (start_of s v.lock.turn) Read)))
      go None true e = goes_to Look (Finished Worn) nowhere (λ s h. tt)
      go None false e = goes_to Look (UnderWay (Grab v.lock.turn)) nowhere (λ s h. absurd (not_free s h))
      go (Some t) b e =
          goes_to Look (UnderWay (Point.Run (start_of t v.lock.turn) Read)) (λ s h. held s (e ∙ h)) (λ s h. absurd (not_free s h))

  grabbed : (l : LockWord) (seen own : ℕ) → ((s : ℕ) → l.holder ≡ Some s → O s) → O own → (s : ℕ) → (grab_of l seen own).holder ≡ Some s → O s
  unfolding grab_of
  grabbed l seen own a b s = holder_each (λ (x : LockWord). x.holder ≡ Some s → O s) l.holder _ _
      (pick_all (λ (x : LockWord). x.holder ≡ Some s → O s) (eqb l.turn seen) _ _ (λ h. subst_by own s h b) (a s)) (λ t. a s)
    where
      subst_by : (t s : ℕ) → Some t ≡ Some s → O t → O s
      subst_by t s h o = subst O (ap (λ (x : Option ℕ). on_option x 0 (λ (n : ℕ). n)) h) o

  released : (l : LockWord) (won t : ℕ) → ((s : ℕ) → l.holder ≡ Some s → O s) → (s : ℕ) → (release_of l won t).holder ≡ Some s → O s
  unfolding release_of
  released l won t a s = holder_each (λ (x : LockWord). x.holder ≡ Some s → O s) l.holder _ _ (a s)
      (λ n.
      pick_all (λ (x : LockWord). x.holder ≡ Some s → O s) (eqb n t) _ _
      (pick_all (λ (x : LockWord). x.holder ≡ Some s → O s) (eqb l.turn won) _ _ (nowhere s) (a s)) (a s))

  mark_goes : (seen : LockWord) (won : ℕ) → Seen (ReadMark seen won) → Goes v (ReadMark seen won) O (read_mark_step v seen won)
  unfolding read_mark_step helped_of
  mark_goes seen won f = pick_all P v.done _ _ (run_of v.worker.own won mine) (go seen.holder refl)
    where
      P : View → Type 0
      P = Goes v (ReadMark seen won) O

      run_of : (t turn : ℕ) → O t → P (at_of v (Point.Run (start_of t turn) Read))
      run_of t turn o =
          goes_to (ReadMark seen won) (UnderWay (Point.Run (start_of t turn) Read))
          (λ s h. subst O (ap (λ (x : Option ℕ). on_option x 0 (λ (n : ℕ). n)) h) o) (λ s h. absurd (not_free s h))

      go :
          (h : Option ℕ) → seen.holder ≡ h →
          P
          (on_option h (to_of v (Finished NotTaken))
          (λ s.
          pick (eqb s v.worker.own) (at_of v (Point.Run (start_of v.worker.own won) Read))
          (at_of v (Point.Run (start_of s seen.turn) Read))))
      go None e = goes_to (ReadMark seen won) (Finished NotTaken) nowhere (λ s h. tt)
      go (Some t) e = pick_all P (eqb t v.worker.own) _ _ (run_of v.worker.own won mine) (run_of t seen.turn (f t e))

  commit_goes : (r : Run) (read : Reading) → Seen (Point.Run r (Commit read)) → Goes v (Point.Run r (Commit read)) O (commit_step v r read)
  unfolding commit_step follow_step helped_of counted_of
  commit_goes r read f =
      follows_all (Goes v (Point.Run r (Commit read)) O) (follows_of v.instr r.registers (holds_of v.entry read).value)
      (λ rs. record { touch = touched v r read _; own = refl; lock = held; helped = f; run = λ s h. h })
      (λ new. record { touch = touched v r read _; own = refl; lock = held; helped = f; run = λ s h. h })

  pub effect_goes : (p : Point) → Seen p → Goes v p O (effect_of p v)
  unfolding effect_of grab_step look_again_step read_step swap_step mark_step release_step helped_of
  effect_goes Look f = look_goes
  effect_goes (Grab seen) f =
      record {
        touch = none refl refl;
        own = refl;
        lock = grabbed v.lock seen v.worker.own held mine;
        helped = nowhere;
        run = λ s h. absurd (not_free s h);
      }
  effect_goes (LookAgain won) f = goes_to (LookAgain won) (UnderWay (ReadMark v.lock won)) held (λ s h. absurd (not_free s h))
  effect_goes (ReadMark seen won) f = mark_goes seen won f
  effect_goes (Point.Run r Read) f =
      asks_all (Goes v (Point.Run r Read) O) (asks_of v.instr r.registers) (λ said. goes_to _ (UnderWay _) f (λ s h. h))
      (λ rs n. goes_to _ (UnderWay _) f (λ s h. h)) (λ w. goes_to _ (UnderWay _) f (λ s h. h))
  effect_goes (Point.Run r (Commit read)) f = commit_goes r read f
  effect_goes (Point.Run r (Swap entry new)) f =
      record { touch = none refl refl; own = refl; lock = held; helped = f; run = λ s h. h }
  effect_goes (Point.Run r (Mark said)) f =
      record { touch = none refl refl; own = refl; lock = held; helped = f; run = λ s h. h }
  effect_goes (Point.Run r (Release said)) f =
      record {
        touch = none refl refl;
        own = refl;
        lock = released v.lock r.won r.sheet held;
        helped = nowhere;
        run = λ s h. tt;
      }
