-- One step of one run keeps the invariant, for itself and for every other run of the sheet.
use Rattle.std.specs.Prelude.{None, Some}
use Prim.Native.Nat.{ℕ, suc, ◌≤◌, ◌<◌}
use mathlib.Core.Path.{◌≡◌, refl, sym, ap, ◌∙◌, subst}
use mathlib.Core.Logic.{◌⊎◌, inl, inr, ⊎_elim}
use native.Mathlib.Nat.{eq-or-lt_of_le, le_refl, le_trans}
use native.Mathlib.Omega.{arith}
use lib.Dec.{eqb}
use Rattle.parts.specs.Pick.{pick}
use Rattle.parts.specs.declared.Follows.{Follows}
use Rattle.parts.specs.declared.Follows.TheVariants as follows
use Rattle.parts.specs.declared.Reading.{Reading}
use Rattle.steps.specs.declared.Run.{Run}
use Rattle.steps.specs.declared.Stage.{Stage}
use Rattle.steps.specs.declared.Stage.TheVariants.{Read, Commit, Swap, Mark, Release}
use Rattle.helping.specs.Machine.{Rules, Shared, Pace, Act, fin, go, touch, target, put, machine_onto, machine_logged, held_of, machine_swap, machine_read, machine_follow, machine_commit, pace_of}
use Rattle.helping.specs.Ideal.{Job, Ideal, raised, next_of, ideal_of, act_in, Logs, Touches, met_in, Follow, logged_in, Guarded, FineJob, Inv, At, In, RunStands, Moved, StepKeeps}
use Rattle.helping.proofs.Put.{put_idle_lem}
use Rattle.helping.proofs.Run.{logs, met_word, next_done, next_swap, swapped, places_up}
use Rattle.helping.proofs.Inside.{touches, names_in, asks_same, go_on, done_on, swap_on, still_there}
use Rattle.helping.proofs.Commit.{empty_here, Committed, log_of, word_right, commit, swap_first, swap_late}

-- the frontier passes instruction n
push :
    (K : Rules) (J : Job) (n : ℕ) (x : Shared) (ws : ℕ → Reading) → Inv K J n x →
    ((q : ℕ) → Guarded K J.lock q → ws q ≡ (ideal_of J (suc n)).words q) →
    (Logs (act_in J n) → logged_in J x n ≡ Some (met_in J n)) →
    Inv K J (suc n) (record { word = ws; log = x.log })
push K J n x ws v e f =
    record {
      words = e;
      past = λ j h t.
          ⊎_elim
          (λ (z : j ≡ n). subst (λ (k : ℕ). Logs (act_in J k) → logged_in J x k ≡ Some (met_in J k)) (sym z) f t)
          (λ (z : j < n). v.past j z t) (eq-or-lt_of_le {n = j} {m = n} (omega arith));
      here = λ t. inl (v.later (ideal_of J (suc n)).place (le_refl _));
      later = λ p h. v.later p (le_trans (places_up J (suc n) (suc (suc n)) (omega arith)) h);
    }

-- the state stays, and so does the instruction
stay : (K : Rules) (J : Job) (n : ℕ) (x : Shared) (r : Run) (at : Stage) → Inv K J n x → RunStands J n x r at →
    StepKeeps K J n x (record { shared = x; run = r; stage = at })
stay K J n x r at v t = record { to = n; inv = v; stands = t; moved = still_there J n x }

-- one step after another
chain :
    (K : Rules) (J : Job) (n : ℕ) (x : Shared) (n' : ℕ) (x' : Shared) (b : Pace) → Moved J n x n' x' → StepKeeps K J n' x' b →
    StepKeeps K J n x b
chain K J n x n' x' b m k =
    record {
      to = k.to;
      inv = k.inv;
      stands = k.stands;
      moved =
          record {
            up = le_trans m.up k.moved.up;
            kept = λ j t e. m.kept j t (k.moved.kept j t e);
            holds = λ j e t q. k.moved.holds j e t (m.holds j e t q);
            still = λ j h t e.
                k.moved.still j (le_trans h m.up) t e ∙ m.still j h t (k.moved.kept j (logs (act_in J j) t) e);
          };
    }

-- the run at instruction j ends it; the words become ws
module _ (K : Rules) (J : Job) (n j : ℕ) (x : Shared) (ws : ℕ → Reading) (r : Run) (at : Stage) where
  finish :
      Inv K J n x → j ≤ n → In J (suc j) (record { word = ws; log = x.log }) r at →
      (Logs (act_in J j) → logged_in J x j ≡ Some (met_in J j)) →
      (ws ≡ x.word) ⊎ Logs (act_in J j) →
      (j < n → ws ≡ x.word) →
      (j ≡ n → (q : ℕ) → Guarded K J.lock q → ws q ≡ (ideal_of J (suc j)).words q) →
      StepKeeps K J n x (record { shared = record { word = ws; log = x.log }; run = r; stage = at })
  finish v h i f c late now = go (eq-or-lt_of_le h)
    where
      still :
          (k : ℕ) → k ≤ n → j ≡ n → (ws ≡ x.word) ⊎ Logs (act_in J j) → Touches (act_in J k) → logged_in J x k ≡ None →
          ws (target (act_in J k)) ≡ x.word (target (act_in J k))
      still k l z (inl e) t y = ap (λ (g : ℕ → Reading). g (target (act_in J k))) e
      still k l z (inr d) t y =
          let e : k ≡ j = empty_here K J n k x v l (logs (act_in J k) t) y ∙ sym z in
          let y' : logged_in J x j ≡ None = rw e at y in
          cc (f d)

      go :
          (j ≡ n) ⊎ (j < n) → StepKeeps K J n x (record { shared = record { word = ws; log = x.log }; run = r; stage = at })
      go (inl z) =
          record {
            to = suc n;
            inv =
                push K J n x ws v
                (subst (λ (k : ℕ). (q : ℕ) → Guarded K J.lock q → ws q ≡ (ideal_of J (suc k)).words q) z (now z))
                (subst (λ (k : ℕ). Logs (act_in J k) → logged_in J x k ≡ Some (met_in J k)) z f);
            stands = record { j = suc j; behind = omega arith; inn = i };
            moved =
                record {
                  up = omega arith;
                  kept = λ k t e. e;
                  holds = λ k e t q. q;
                  still = λ k l t e. still k l z c t e;
                };
          }
      go (inr z) =
          record {
            to = n;
            inv = subst (λ (l : ℕ → Reading). Inv K J n (record { word = l; log = x.log })) (sym (late z)) v;
            stands = record { j = suc j; behind = z; inn = i };
            moved =
                record {
                  up = le_refl n;
                  kept = λ k t e. e;
                  holds = λ k e t q. q;
                  still = λ k l t e. ap (λ (g : ℕ → Reading). g (target (act_in J k))) (late z);
                };
          }

module _ (K : Rules) (J : Job) (n : ℕ) (x : Shared) (j : ℕ) (v : Inv K J n x) (h : j ≤ n) where
  -- an instruction that changes no word
  plain :
      (r : Run) (at : Stage) → In J (suc j) x r at → (Logs (act_in J j) → logged_in J x j ≡ Some (met_in J j)) →
      (ideal_of J (suc j)).words ≡ (ideal_of J j).words → StepKeeps K J n x (record { shared = x; run = r; stage = at })
  plain r at i g e =
      finish K J n j x x.word r at v h i g (inl refl) (λ z. refl)
      (λ z q k.
      v.words q k ∙ ap (λ (m : ℕ). (ideal_of J m).words q) (sym z) ∙ ap (λ (w : ℕ → Reading). w q) (sym e))

  read_kept :
      (r : Run) → At J j r → r.place ≡ (ideal_of J j).place → (a : Act) → act_in J j ≡ a →
      StepKeeps K J n x (machine_read a x r)
  unfolding ideal_of next_of
  read_kept r at p (fin said) e = stay K J n x _ _ v (record { j = j; behind = h; inn = (at, p, e) })
  read_kept r at p (go rs k) e =
      plain _ _ (go_on J j r at x k rs e p) (λ t. absurd (subst Logs e t))
      (ap (λ (a : Act). (next_of a (ideal_of J j)).words) e)
  read_kept r at p (touch w g) e =
      stay K J n x _ _ v
      (record {
        j = j;
        behind = h;
        inn = (at, p, subst Logs (sym e) tt, λ t z. ap (λ (a : Act). x.word (target a)) (sym e));
      })

module _ (K : Rules) (J : Job) (f : FineJob K J) (n : ℕ) (x : Shared) (j : ℕ) (v : Inv K J n x) (h : j ≤ n) where
  -- after a commit, by what follows from the entry
  follow_kept :
      (r : Run) → At J j r → r.place ≡ suc (ideal_of J j).place → (x' : Shared) (e : Reading) →
      Committed K J n x x' j e → (s : Follows) → Follow (act_in J j) e.value s →
      StepKeeps K J n x (machine_follow s x' r e)
  unfolding ideal_of
  follow_kept r at p x' e c (follows.Done rs) q =
      let g = subst (λ (u : Reading). Follow (act_in J j) u.value (follows.Done rs)) c.right q in
      chain K J n x n x' _ c.moved
      (plain K J n x' j c.inv h _ _ (done_on J j r at x' rs g p) (λ t. c.now ∙ ap Some c.right)
      (ap (λ (s : Ideal). s.words) (next_done (act_in J j) (ideal_of J j) rs g)))
  follow_kept r at p x' e c (follows.Swap new) q =
      let g = subst (λ (u : Reading). Follow (act_in J j) u.value (follows.Swap new)) c.right q in
      chain K J n x n x' _ c.moved
      (stay K J n x' _ _ c.inv
      (record { j = j; behind = h; inn = (at, p, g, c.right, c.now ∙ ap Some c.right) }))

  commit_kept :
      (r : Run) (u : Reading) → At J j r → r.place ≡ (ideal_of J j).place → Logs (act_in J j) →
      (Touches (act_in J j) → logged_in J x j ≡ None → u ≡ x.word (target (act_in J j))) → (a : Act) → act_in J j ≡ a →
      StepKeeps K J n x (machine_commit a x r u)
  commit_kept r u at p t w (fin said) e = absurd (subst Logs e t)
  commit_kept r u at p t w (go rs k) e = absurd (subst Logs e t)
  commit_kept r u at p t w (touch q g) e =
      let d : Touches (act_in J j) = subst Touches (sym e) tt in
      let c =
      subst (λ (i : ℕ). Committed K J n x (log_of x i (held_of (x.log i) u)) j (held_of (x.log i) u)) (sym p)
      (commit K J n x j u v h t (λ z. w d z ∙ word_right K J f n x j v h d z) (logged_in J x j) refl) in
      follow_kept (machine_logged r) (record { next = at.next; registers = at.registers }) (ap suc p) _ _ c _
      (subst (λ (a : Act). Follow a (held_of (x.log r.place) u).value (g (held_of (x.log r.place) u).value)) (sym e) refl)

  -- the first swap takes effect, and a late one does nothing
  swap_kept :
      (r : Run) (new : ℕ) → At J j r → r.place ≡ suc (ideal_of J j).place →
      Follow (act_in J j) (met_in J j).value (follows.Swap new) → logged_in J x j ≡ Some (met_in J j) →
      let w = target (act_in J j) in
      StepKeeps K J n x
      (record {
        shared = record { word = put x.word w (machine_swap (x.word w) (met_in J j) new); log = x.log };
        run = machine_onto r 0 r.registers;
        stage = Read;
      })
  unfolding ideal_of
  swap_kept r new at p g q =
      let w = target (act_in J j) in
      let t = touches (act_in J j) _ _ g in
      let here = v.words w (names_in K J f j t) in
      finish K J n j x _ _ _ v h (swap_on J j r at x new g p) (λ k. q) (inr (logs (act_in J j) t))
      (λ z.
      put_idle_lem x.word w _
      (swap_late (x.word w) (met_in J j) new
      (omega (arith, swapped J j n new g z, ap (λ (u : Reading). u.count) here))))
      (λ z k d.
      let same : x.word w ≡ met_in J j = here ∙ ap (λ (m : ℕ). (ideal_of J m).words w) (sym z) ∙ sym (met_word (act_in J j) (ideal_of J j) t) in
      let first : machine_swap (x.word w) (met_in J j) new ≡ raised (met_in J j) new =
      ap (λ (u : Reading). machine_swap u (met_in J j) new) same ∙ swap_first (met_in J j) new in
      ap (λ (u : Reading). put x.word w u k) first ∙
      ap (λ (u : Reading). pick (eqb k w) (raised (met_in J j) new) u)
      (v.words k d ∙ ap (λ (m : ℕ). (ideal_of J m).words k) (sym z)) ∙
      sym (ap (λ (s : Ideal). s.words k) (next_swap (act_in J j) (ideal_of J j) new g)))

  stage_kept : (r : Run) (s : Stage) → In J j x r s → StepKeeps K J n x (pace_of J.code x r s)
  unfolding pace_of
  stage_kept r Read (at, p) =
      subst (λ (a : Act). StepKeeps K J n x (machine_read a x r)) (sym (asks_same J j r at))
      (read_kept K J n x j v h r at p (act_in J j) refl)
  stage_kept r (Commit u) (at, p, t, w) =
      subst (λ (a : Act). StepKeeps K J n x (machine_commit a x r u)) (sym (asks_same J j r at))
      (commit_kept r u at p t w (act_in J j) refl)
  stage_kept r (Swap e new) (at, p, g, d, q) =
      rw (asks_same J j r at, d) (swap_kept r new at p g q)
  stage_kept r (Mark said) i = stay K J n x _ _ v (record { j = j; behind = h; inn = i })
  stage_kept r (Release said) i = stay K J n x _ _ v (record { j = j; behind = h; inn = i })

pub step_kept :
    (K : Rules) (J : Job) → FineJob K J → (n : ℕ) (x : Shared) (r : Run) (at : Stage) → Inv K J n x → RunStands J n x r at →
    StepKeeps K J n x (pace_of J.code x r at)
step_kept K J f n x r at v t = stage_kept K J f n x t.j v t.behind r at t.inn
