-- A run inside an instruction of the ideal run: what it asks for, where it comes to, and how a step of another run leaves it.
use Prim.Native.Nat.{ℕ, suc, ◌+◌, ◌≤◌}
use mathlib.Core.Path.{◌≡◌, refl, sym, ap, ◌∙◌}
use native.Mathlib.Nat.{le_refl, le_trans}
use native.Mathlib.Omega.{arith}
use Rattle.parts.specs.declared.Follows.{Follows}
use Rattle.parts.specs.declared.Follows.TheVariants as follows
use Rattle.parts.specs.declared.Registers.{Registers}
use Rattle.steps.specs.declared.Run.{Run}
use Rattle.steps.specs.declared.Stage.{Stage}
use Rattle.steps.specs.declared.Stage.TheVariants.{Read, Commit, Swap, Mark, Release}
use Rattle.helping.specs.Machine.{Rules, Shared, Act, fin, go, touch, act_at, target, machine_onto}
use Rattle.helping.specs.Ideal.{far_of, Job, Ideal, next_of, ideal_of, act_in, Touches, met_in, Follow, Guarded, FineJob, At, In, RunStands, Moved}
use Rattle.helping.proofs.Run.{logs, next_in, next_done, next_swap}

-- what follows from a word follows at an instruction that asks for one
pub touches : (a : Act) (v : ℕ) (x : Follows) → Follow a v x → Touches a
touches (fin said) v x e = absurd e
touches (go rs n) v x e = absurd e
touches (touch w f) v x e = tt

-- an instruction that asks for a word passes over none
pub touch_far : (a : Act) → Touches a → far_of a ≡ 1
touch_far (fin said) t = absurd t
touch_far (go rs n) t = absurd t
touch_far (touch w f) t = refl

-- a word that instruction n asks for is one of the sheet's lock
pub names_in :
    (K : Rules) (J : Job) → FineJob K J → (n : ℕ) → Touches (act_in J n) → Guarded K J.lock (target (act_in J n))
names_in K J f n t = f.names _ (ideal_of J n).registers (next_in K J f n) t

-- a run at its instruction asks for what the ideal run asks for
pub asks_same : (J : Job) (j : ℕ) (r : Run) → At J j r → act_at J.code r.next r.registers ≡ act_in J j
asks_same J j r a = rw (a.next, a.registers)

-- where a run comes to when it ends instruction j, and what the ideal run does there
module _ (J : Job) (j : ℕ) (r : Run) (at : At J j r) where
  onto :
      (over : ℕ) (rs : Registers) (x : Shared) (s : Ideal) → ideal_of J (suc j) ≡ s →
      suc ((ideal_of J j).next + over) ≡ s.next → rs ≡ s.registers → r.place ≡ s.place →
      In J (suc j) x (machine_onto r over rs) Read
  onto over rs x s e n q p = (
    record {
      next = omega (arith, at.next, ap (λ (t : Ideal). t.next) e);
      registers = q ∙ sym (ap (λ (t : Ideal). t.registers) e);
    },
    p ∙ sym (ap (λ (t : Ideal). t.place) e),
  )

  pub go_on :
      (x : Shared) (n : ℕ) (rs : Registers) → act_in J j ≡ go rs n → r.place ≡ (ideal_of J j).place →
      In J (suc j) x (machine_onto r n rs) Read
  unfolding ideal_of next_of
  go_on x n rs e p =
      onto n rs x _ (ap (λ (a : Act). next_of a (ideal_of J j)) e) refl refl p

  pub done_on :
      (x : Shared) (rs : Registers) → Follow (act_in J j) (met_in J j).value (follows.Done rs) →
      r.place ≡ suc (ideal_of J j).place → In J (suc j) x (machine_onto r 0 rs) Read
  unfolding ideal_of
  done_on x rs e p = onto 0 rs x _ (next_done (act_in J j) (ideal_of J j) rs e) (omega arith) refl p

  pub swap_on :
      (x : Shared) (new : ℕ) → Follow (act_in J j) (met_in J j).value (follows.Swap new) →
      r.place ≡ suc (ideal_of J j).place → In J (suc j) x (machine_onto r 0 r.registers) Read
  unfolding ideal_of
  swap_on x new e p =
      onto 0 r.registers x _ (next_swap (act_in J j) (ideal_of J j) new e) (omega arith) at.registers p

-- another run, seen across a step
in_moved :
    (J : Job) (n n' : ℕ) (x x' : Shared) → Moved J n x n' x' → (j : ℕ) (r : Run) (at : Stage) → j ≤ n → In J j x r at →
    In J j x' r at
in_moved J n n' x x' m j r Read h i = i
in_moved J n n' x x' m j r (Commit u) h (a, p, t, w) =
    (a, p, t, λ d e. w d (m.kept j t e) ∙ sym (m.still j h d e))
in_moved J n n' x x' m j r (Swap e new) h (a, p, t, w, q) =
    (a, p, t, w, m.holds j _ (logs (act_in J j) (touches (act_in J j) _ _ t)) q)
in_moved J n n' x x' m j r (Mark said) h i = i
in_moved J n n' x x' m j r (Release said) h i = i

pub others :
    (J : Job) (n n' : ℕ) (x x' : Shared) (r : Run) (at : Stage) → Moved J n x n' x' → RunStands J n x r at →
    RunStands J n' x' r at
others J n n' x x' r at m t =
    record {
      j = t.j;
      behind = le_trans t.behind m.up;
      inn = in_moved J n n' x x' m t.j r at t.behind t.inn;
    }

-- nothing moved
pub still_there : (J : Job) (n : ℕ) (x : Shared) → Moved J n x n x
still_there J n x =
    record { up = le_refl n; kept = λ j t e. e; holds = λ j e t q. q; still = λ j h t e. refl }
