-- A commit fills the entry of its instruction, or finds it filled, with what the ideal run met there; a swap takes effect once.
use Rattle.std.specs.Prelude.{None, Option, Some}
use Prim.Native.Nat.{ℕ, suc, ◌≤◌, ◌<◌}
use mathlib.Core.Path.{◌≡◌, refl, sym, ap, ◌∙◌, subst}
use mathlib.Core.Logic.{inr, ⊎_elim}
use mathlib.Core.Bool.{Bool, true, false}
use native.Mathlib.Nat.{eq-or-lt_of_le, le_refl}
use native.Mathlib.Omega.{arith}
use lib.Dec.{eqb}
use borrow.Author.Tests.{eq-eqb, eqb-true}
use Rattle.parts.specs.Pick.{pick}
use Rattle.parts.specs.declared.Reading.{Reading}
use Rattle.helping.specs.Machine.{Rules, Shared, target, put, held_of, machine_swap}
use Rattle.helping.specs.Ideal.{Job, raised, ideal_of, act_in, Logs, Touches, met_in, logged_in, FineJob, Inv, Moved}
use Rattle.helping.proofs.Put.{put_case, put_same, put_other, put_idle_lem}
use Rattle.helping.proofs.Run.{logs, met_word, place_up}
use Rattle.helping.proofs.Inside.{names_in, still_there}

-- where an entry up to the frontier is empty, it is the frontier's, and a filled one is right
pub empty_here :
    (K : Rules) (J : Job) (n j : ℕ) (x : Shared) → Inv K J n x → j ≤ n → Logs (act_in J j) → logged_in J x j ≡ None →
    j ≡ n
empty_here K J n j x v h t e = ⊎_elim (λ (z : j ≡ n). z) (λ (z : j < n). cc (v.past j z t)) (eq-or-lt_of_le h)

filled_right :
    (K : Rules) (J : Job) (n j : ℕ) (x : Shared) (e : Reading) → Inv K J n x → j ≤ n → Logs (act_in J j) →
    logged_in J x j ≡ Some e → e ≡ met_in J j
filled_right K J n j x e v h t q =
    ⊎_elim
    (λ (z : j ≡ n).
    let v' : Inv K J j x = subst (λ (k : ℕ). Inv K J k x) (sym z) v in
    ⊎_elim (λ (y : logged_in J x j ≡ None). cc) (λ (y : logged_in J x j ≡ Some (met_in J j)). cc) (v'.here t))
    (λ (z : j < n). cc (v.past j z t)) (eq-or-lt_of_le h)

-- after a commit of instruction j, whose entry holds e
pub record Committed (K : Rules) (J : Job) (n : ℕ) (x x' : Shared) (j : ℕ) (e : Reading) : Type 0 where
  pub inv : Inv K J n x'
  pub now : logged_in J x' j ≡ Some e
  pub right : e ≡ met_in J j
  pub moved : Moved J n x n x'

abbrev pub log_of : Shared → ℕ → Reading → Shared
log_of x i u = record { word = x.word; log = put x.log i (Some u) }

-- the first to commit instruction n fills its entry
fills :
    (K : Rules) (J : Job) (n : ℕ) (x : Shared) (u : Reading) → Inv K J n x → Logs (act_in J n) → u ≡ met_in J n →
    logged_in J x n ≡ None → Committed K J n x (log_of x (ideal_of J n).place u) n u
fills K J n x u v t right q =
    let i = (ideal_of J n).place in
    let now : put x.log i (Some u) i ≡ Some u = put_same x.log i (Some u) in
    record {
      inv =
          record {
            words = v.words;
            past = λ j h k. put_other x.log i _ _ (omega (arith, place_up J j n k h)) ∙ v.past j h k;
            here = λ k. inr (now ∙ ap Some right);
            later = λ p h. put_other x.log i _ p (omega (arith, place_up J n (suc n) t (le_refl _))) ∙ v.later p h;
          };
      now = now;
      right = right;
      moved =
          record {
            up = le_refl n;
            kept = λ j k. put_case x.log i (Some u) (λ y. y ≡ None → logged_in J x j ≡ None) _ (λ z w. cc) (λ z w. w);
            holds = λ j d k w.
                put_case x.log i (Some u) (λ y. y ≡ Some d) (ideal_of J j).place
                (λ z. let y : x.log (ideal_of J j).place ≡ None = ap x.log z ∙ q in cc) (λ z. w);
            still = λ j h k z. refl;
          };
    }

-- the present word is what an empty entry is to hold
pub word_right :
    (K : Rules) (J : Job) → FineJob K J → (n : ℕ) (x : Shared) (j : ℕ) → Inv K J n x → j ≤ n → Touches (act_in J j) →
    logged_in J x j ≡ None → x.word (target (act_in J j)) ≡ met_in J j
word_right K J f n x j v h t q =
    let z : j ≡ n = empty_here K J n j x v h (logs (act_in J j) t) q in
    (subst (λ (k : ℕ). Inv K J k x) (sym z) v).words _ (names_in K J f j t) ∙ sym (met_word (act_in J j) (ideal_of J j) t)

pub commit :
    (K : Rules) (J : Job) (n : ℕ) (x : Shared) (j : ℕ) (u : Reading) → Inv K J n x → j ≤ n →
    Logs (act_in J j) → (logged_in J x j ≡ None → u ≡ met_in J j) → (fill : Option Reading) → logged_in J x j ≡ fill →
    Committed K J n x (log_of x (ideal_of J j).place (held_of fill u)) j (held_of fill u)
commit K J n x j u v h t w None q =
    let z : j ≡ n = empty_here K J n j x v h t q in
    let v' : Inv K J j x = subst (λ (k : ℕ). Inv K J k x) (sym z) v in
    subst (λ (k : ℕ). Committed K J k x (log_of x (ideal_of J j).place u) j u) z (fills K J j x u v' t (w q) q)
commit K J n x j u v h t w (Some e) q =
    subst (λ (l : ℕ → Option Reading). Committed K J n x (record { word = x.word; log = l }) j e)
    (sym (put_idle_lem x.log (ideal_of J j).place (Some e) (sym q)))
    (record { inv = v; now = q; right = filled_right K J n j x e v h t q; moved = still_there J n x })

-- a swap that finds the word that was read; one that comes late finds a higher count, and does nothing
pub swap_first : (u : Reading) (new : ℕ) → machine_swap u u new ≡ raised u new
unfolding machine_swap
swap_first u new = rw (eq-eqb u.value u.value refl, eq-eqb u.count u.count refl)

pub swap_late : (u e : Reading) (new : ℕ) → e.count < u.count → machine_swap u e new ≡ u
unfolding machine_swap
swap_late u e new h = go (eqb u.value e.value) (eqb u.count e.count) refl
  where
    go : (b c : Bool) → eqb u.count e.count ≡ c → pick b (pick c (raised u new) u) u ≡ u
    go true true z = absurd (omega (arith, h, eqb-true u.count e.count z))
    go true false z = refl
    go false c z = refl
