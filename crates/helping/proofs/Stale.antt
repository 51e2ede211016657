-- A run of a sheet that has let go of its lock changes no word and no log entry: late helpers are harmless (their mark: Marks; their
-- release: Releases).
use Rattle.std.specs.Prelude.{Option, Some}
use Prim.Native.Nat.{ℕ, suc, ◌≤◌, ◌<◌}
use mathlib.Core.Path.{◌≡◌, refl, sym, ap, ◌∙◌, subst}
use mathlib.Core.Logic.{⊎_elim}
use native.Mathlib.Nat.{eq-or-lt_of_le, le_trans}
use native.Mathlib.Omega.{arith}
use Rattle.parts.specs.declared.Follows.{Follows}
use Rattle.parts.specs.declared.Follows.TheVariants as follows
use Rattle.parts.specs.declared.Reading.{Reading}
use Rattle.steps.specs.declared.Run.{Run}
use Rattle.steps.specs.declared.Stage.{Stage}
use Rattle.steps.specs.declared.Stage.TheVariants.{Read, Commit, Swap, Mark, Release}
use Rattle.helping.specs.Machine.{Rules, Shared, Pace, Act, fin, go, touch, target, put, machine_onto, machine_logged, held_of, machine_swap, machine_read, machine_follow, machine_commit, pace_of}
use Rattle.helping.specs.Ideal.{Job, ideal_of, act_in, Logs, Touches, met_in, Follow, logged_in, far_of, FineJob, Old, At, In, RunStands}
use Rattle.helping.proofs.Put.{put_idle_lem}
use Rattle.helping.proofs.Run.{swapped}
use Rattle.helping.proofs.Inside.{touches, names_in, asks_same, go_on, done_on, swap_on}
use Rattle.helping.proofs.Commit.{swap_late}

pub record Still (J : Job) (n : ℕ) (x : Shared) (b : Pace) : Type 0 where
  pub same : b.shared ≡ x
  pub stands : RunStands J n x b.run b.stage

module _ (K : Rules) (J : Job) (n : ℕ) (x : Shared) (o : Old K J n x) (j : ℕ) (h : j ≤ n) where
  -- an instruction that is not the halt comes before it
  before : (P : Act → Type 0) → P (act_in J j) → (P (fin o.said) → ⊥) → j < n
  before P p d =
      ⊎_elim (λ (z : j ≡ n). absurd (d (subst P (ap (act_in J) z ∙ o.halts) p))) (λ (z : j < n). z) (eq-or-lt_of_le h)

  -- its entries up to the halt are filled
  pub entered : Logs (act_in J j) → logged_in J x j ≡ Some (met_in J j)
  entered t = o.past j (before Logs t (λ e. e)) t

  read_still :
      (r : Run) → At J j r → r.place ≡ (ideal_of J j).place → (a : Act) → act_in J j ≡ a → Still J n x (machine_read a x r)
  read_still r at p (fin said) e =
      record { same = refl; stands = record { j = j; behind = h; inn = (at, p, e) } }
  read_still r at p (go rs k) e =
      record {
        same = refl;
        stands =
            record {
              j = suc j;
              behind = before (λ (a : Act). 1 ≤ far_of a) (rw e (omega arith)) (λ z. omega arith);
              inn = go_on J j r at x k rs e p;
            };
      }
  read_still r at p (touch w g) e =
      record {
        same = refl;
        stands =
            record {
              j = j;
              behind = h;
              inn = (at, p, subst Logs (sym e) tt, λ t z. ap (λ (a : Act). x.word (target a)) (sym e));
            };
      }

  follow_still :
      (r : Run) → At J j r → r.place ≡ suc (ideal_of J j).place → Logs (act_in J j) → (s : Follows) →
      Follow (act_in J j) (met_in J j).value s → RunStands J n x (machine_follow s x r (met_in J j)).run (machine_follow s x r (met_in J j)).stage
  follow_still r at p t (follows.Done rs) g =
      record { j = suc j; behind = before Logs t (λ e. e); inn = done_on J j r at x rs g p }
  follow_still r at p t (follows.Swap new) g =
      record { j = j; behind = h; inn = (at, p, g, refl, entered t) }

  commit_still :
      (r : Run) (u : Reading) → At J j r → r.place ≡ (ideal_of J j).place → Logs (act_in J j) → (a : Act) →
      act_in J j ≡ a → Still J n x (machine_commit a x r u)
  commit_still r u at p t (fin said) e = absurd (subst Logs e t)
  commit_still r u at p t (go rs k) e = absurd (subst Logs e t)
  commit_still r u at p t (touch w g) e =
      let q : x.log r.place ≡ Some (met_in J j) = ap x.log p ∙ entered t in
      subst
      (λ (fill : Option Reading).
      Still J n x
      (machine_follow (g (held_of fill u).value) (record { word = x.word; log = put x.log r.place (Some (held_of fill u)) }) (machine_logged r)
      (held_of fill u)))
      (sym q)
      (record {
        same = ap (λ (l : ℕ → Option Reading). record { word = x.word; log = l }) (put_idle_lem x.log r.place _ (sym q));
        stands =
            follow_still (machine_logged r) (record { next = at.next; registers = at.registers }) (ap suc p) t _
            (subst (λ (a : Act). Follow a (met_in J j).value (g (met_in J j).value)) (sym e) refl);
      })

  swap_still :
      FineJob K J → (r : Run) (new : ℕ) → At J j r → r.place ≡ suc (ideal_of J j).place →
      Follow (act_in J j) (met_in J j).value (follows.Swap new) →
      let w = target (act_in J j) in
      Still J n x
      (record {
        shared = record { word = put x.word w (machine_swap (x.word w) (met_in J j) new); log = x.log };
        run = machine_onto r 0 r.registers;
        stage = Read;
      })
  swap_still f r new at p g =
      let w = target (act_in J j) in
      let t = touches (act_in J j) _ _ g in
      let b : j < n = before Touches t (λ e. e) in
      record {
        same =
            ap (λ (l : ℕ → Reading). record { word = l; log = x.log })
            (put_idle_lem x.word w _
            (swap_late (x.word w) (met_in J j) new (le_trans (swapped J j n new g b) (o.counts w (names_in K J f j t)))));
        stands = record { j = suc j; behind = b; inn = swap_on J j r at x new g p };
      }

  stage_still : FineJob K J → (r : Run) (s : Stage) → In J j x r s → Still J n x (pace_of J.code x r s)
  unfolding pace_of
  stage_still f r Read (at, p) =
      subst (λ (a : Act). Still J n x (machine_read a x r)) (sym (asks_same J j r at)) (read_still r at p (act_in J j) refl)
  stage_still f r (Commit u) (at, p, t, w) =
      subst (λ (a : Act). Still J n x (machine_commit a x r u)) (sym (asks_same J j r at))
      (commit_still r u at p t (act_in J j) refl)
  stage_still f r (Swap e new) (at, p, g, d, q) = rw (asks_same J j r at, d) (swap_still f r new at p g)
  stage_still f r (Mark said) i = record { same = refl; stands = record { j = j; behind = h; inn = i } }
  stage_still f r (Release said) i = record { same = refl; stands = record { j = j; behind = h; inn = i } }

pub stale :
    (K : Rules) (J : Job) → FineJob K J → (n : ℕ) (x : Shared) (r : Run) (at : Stage) → Old K J n x → RunStands J n x r at →
    Still J n x (pace_of J.code x r at)
stale K J f n x r at o t = stage_still K J n x o t.j t.behind f r at t.inn
