-- What one step of a run leaves alone, and how far it brings the run.
use Prim.Native.Nat.{ℕ, ◌+◌, ◌≤◌, ◌<◌}
use mathlib.Core.Path.{◌≡◌, refl, sym, ap, subst}
use mathlib.Core.Bool.{Bool, true, false}
use mathlib.Core.List.{List}
use native.Mathlib.Nat.{le_refl}
use native.Mathlib.Omega.{arith}
use lib.Dec.{eqb}
use Rattle.parts.specs.Pick.{pick}
use Rattle.parts.specs.declared.Follows.{Follows}
use Rattle.parts.specs.declared.Follows.TheVariants as follows
use Rattle.parts.specs.declared.Instr.{Instr}
use Rattle.parts.specs.declared.Reading.{Reading}
use Rattle.steps.specs.declared.Run.{Run}
use Rattle.steps.specs.declared.Stage.{Stage}
use Rattle.steps.specs.declared.Stage.TheVariants.{Read, Commit, Swap, Mark, Release}
use Rattle.helping.specs.Machine.{Rules, Shared, Pace, Act, fin, go, touch, act_at, target, put, machine_logged, held_of, machine_swap, machine_read, machine_follow, machine_commit, pace_of}
use Rattle.helping.specs.Ideal.{Job, raised, ideal_of, act_in, Logs, Guarded, far_of, FineJob, At, In, RunStands, left_at}
use Rattle.helping.specs.Ok.{Releasing}
use Rattle.helping.proofs.Put.{put_case, put_other}
use Rattle.helping.proofs.Run.{next_in}
use Rattle.helping.proofs.Inside.{touches, touch_far, names_in, asks_same}

-- only words of the sheet's lock change, and no count falls
pub record Touched (K : Rules) (J : Job) (x x' : Shared) : Type 0 where
  pub words : (q : ℕ) → (Guarded K J.lock q → ⊥) → x'.word q ≡ x.word q
  pub counts : (q : ℕ) → (x.word q).count ≤ (x'.word q).count

swap_count : (u e : Reading) (new : ℕ) → u.count ≤ (machine_swap u e new).count
unfolding machine_swap
swap_count u e new = by (eqb u.value e.value) (eqb u.count e.count)
  where
    by : (b c : Bool) → u.count ≤ (pick b (pick c (raised u new) u) u).count
    by true true = omega arith
    by true false = le_refl _
    by false c = le_refl _

module _ (K : Rules) (J : Job) (f : FineJob K J) (x : Shared) where
  untouched : Touched K J x x
  untouched = record { words = λ q n. refl; counts = λ q. le_refl _ }

  read_touched : (a : Act) (r : Run) → Touched K J x (machine_read a x r).shared
  read_touched (fin said) r = untouched
  read_touched (go rs n) r = untouched
  read_touched (touch w g) r = untouched

  commit_touched : (a : Act) (r : Run) (u : Reading) → Touched K J x (machine_commit a x r u).shared
  commit_touched (fin said) r u = untouched
  commit_touched (go rs n) r u = untouched
  commit_touched (touch w g) r u = record { words = λ q n. refl; counts = λ q. le_refl _ }

  swap_touched :
      (w : ℕ) (e : Reading) (new : ℕ) → Guarded K J.lock w →
      Touched K J x (record { word = put x.word w (machine_swap (x.word w) e new); log = x.log })
  swap_touched w e new g =
      record {
        words = λ q n. put_other x.word w _ q (λ z. n (subst (Guarded K J.lock) (sym z) g));
        counts = λ q.
            put_case x.word w (machine_swap (x.word w) e new) (λ (u : Reading). (x.word q).count ≤ u.count) q
            (λ z. omega (arith, ap (λ k. (x.word k).count) z, swap_count (x.word w) e new)) (λ z. le_refl _);
      }

  in_touched : (j : ℕ) (r : Run) (s : Stage) → In J j x r s → Touched K J x (pace_of J.code x r s).shared
  unfolding pace_of
  in_touched j r Read i = read_touched (act_at J.code r.next r.registers) r
  in_touched j r (Commit u) i = commit_touched (act_at J.code r.next r.registers) r u
  in_touched j r (Swap e new) (at, p, g, d, q) =
      rw (asks_same J j r at)
      (swap_touched (target (act_in J j)) e new (names_in K J f j (touches (act_in J j) _ _ g)))
  in_touched j r (Mark said) i = untouched
  in_touched j r (Release said) i = untouched

pub touched :
    (K : Rules) (J : Job) → FineJob K J → (n : ℕ) (x : Shared) (r : Run) (at : Stage) → RunStands J n x r at →
    Touched K J x (pace_of J.code x r at).shared
touched K J f n x r at t = in_touched K J f x t.j r at t.inn

-- a run of this sheet, which won at this turn, up to its mark
abbrev pub OnRun : ℕ → ℕ → Run → Stage → Type 0
OnRun s won r at = (r.sheet ≡ s) × (r.won ≡ won) × (Releasing at → ⊥)

abbrev OnFrom : Run → Pace → Type 0
OnFrom r b = OnRun r.sheet r.won b.run b.stage

read_on : (a : Act) (x : Shared) (r : Run) → OnFrom r (machine_read a x r)
read_on (fin said) x r = (refl, refl, λ z. z)
read_on (go rs n) x r = (refl, refl, λ z. z)
read_on (touch w f) x r = (refl, refl, λ z. z)

follow_on : (f : Follows) (x : Shared) (r : Run) (e : Reading) → OnFrom r (machine_follow f x r e)
follow_on (follows.Done rs) x r e = (refl, refl, λ z. z)
follow_on (follows.Swap new) x r e = (refl, refl, λ z. z)

commit_on : (a : Act) (x : Shared) (r : Run) (u : Reading) → OnFrom r (machine_commit a x r u)
commit_on (fin said) x r u = (refl, refl, λ z. z)
commit_on (go rs n) x r u = (refl, refl, λ z. z)
commit_on (touch w f) x r u = let e = held_of (x.log r.place) u in follow_on (f e.value) x (machine_logged r) e

-- it is at an instruction, and not past them
abbrev pub Going : Stage → Type 0
Going Read = Unit {0}
Going (Commit u) = Unit {0}
Going (Swap e new) = Unit {0}
Going (Mark said) = ⊥
Going (Release said) = ⊥

pub run_on : (code : List Instr) (x : Shared) (r : Run) (at : Stage) → Going at → OnFrom r (pace_of code x r at)
unfolding pace_of
run_on code x r Read g = read_on (act_at code r.next r.registers) x r
run_on code x r (Commit u) g = commit_on (act_at code r.next r.registers) x r u
run_on code x r (Swap e new) g = (refl, refl, λ z. z)
run_on code x r (Mark said) g = absurd g
run_on code x r (Release said) g = absurd g

-- what is left after a step
abbrev left_by : ℕ → Pace → ℕ
left_by most b = left_at most b.run b.stage

-- an instruction that has room to go on
module _ (most : ℕ) (x : Shared) (r : Run) where
  read_paced : (a : Act) → r.next + far_of a < most → left_by most (machine_read a x r) < left_at most r Read
  read_paced (fin said) h = omega arith
  read_paced (go rs n) h = omega arith
  read_paced (touch w f) h = omega arith

  commit_paced :
      (u : Reading) (a : Act) → Logs a → r.next + far_of a < most →
      left_by most (machine_commit a x r u) < left_at most r (Commit u)
  commit_paced u (fin said) t h = absurd t
  commit_paced u (go rs n) t h = absurd t
  commit_paced u (touch w f) t h = by (f (held_of (x.log r.place) u).value)
    where
      by : (g : Follows) → left_by most (machine_follow g x (machine_logged r) (held_of (x.log r.place) u)) < left_at most r (Commit u)
      by (follows.Done rs) = omega arith
      by (follows.Swap new) = omega arith

-- 3(n - 1) + 1: each step of a run brings it nearer to its end
module _ (K : Rules) (J : Job) (f : FineJob K J) (x : Shared) (j : ℕ) where
  room : (r : Run) → At J j r → r.next + far_of (act_in J j) < K.most
  room r at = omega (arith, at.next, f.short, f.inside _ (ideal_of J j).registers (next_in K J f j))

  in_paced :
      (r : Run) (s : Stage) → In J j x r s → Going s → left_by K.most (pace_of J.code x r s) < left_at K.most r s
  unfolding pace_of
  in_paced r Read (at, p) g =
      rw (asks_same J j r at) (read_paced K.most x r (act_in J j) (room r at))
  in_paced r (Commit u) (at, p, t, w) g =
      rw (asks_same J j r at) (commit_paced K.most x r u (act_in J j) t (room r at))
  in_paced r (Swap e new) (at, p, g, d, q) h =
      omega (arith, room r at, touch_far (act_in J j) (touches (act_in J j) _ _ g))
  in_paced r (Mark said) i g = absurd g
  in_paced r (Release said) i g = absurd g

pub paced :
    (K : Rules) (J : Job) → FineJob K J → (n : ℕ) (x : Shared) (r : Run) (at : Stage) → RunStands J n x r at → Going at →
    left_at K.most (pace_of J.code x r at).run (pace_of J.code x r at).stage < left_at K.most r at
paced K J f n x r at t g = in_paced K J f x t.j r at t.inn g
