-- A worker's numbers written one by one: what they say then, and what the whole state is.
use Prim.Native.Nat.{ℕ, zero, suc, ◌+◌, ◌<◌, ◌≤◌}
use mathlib.Core.Bool.{Bool, true, false}
use mathlib.Core.List.{List, [], ◌∷◌}
use mathlib.Core.Logic.{◌⊎◌, inl, inr, ⊎_elim}
use mathlib.Core.Path.{◌≡◌, refl, ◌∙◌, sym, ap}
use native.Mathlib.Omega.{arith}
use borrow.Author.Tests.{eqb-true, eqb-false}
use lib.Dec.{eqb}
use lib.ListN.{get_or, set, length, length-set}
use lib.Seq.{get_or-set_same, get_or-set_other, set-set, set-get_or, ext_get_or}
use Rattle.parts.specs.Lay.{lay}
use Rattle.parts.specs.Numbers.{workers}
use Rattle.parts.specs.Parts.{register_of}
use Rattle.parts.specs.Pick.{pick}
use Rattle.steps.specs.Worker.{worker0}
use Rattle.steps.specs.declared.Worker.{Worker}
use Rattle.engine.specs.State.{worker_at, with_worker}
use Rattle.engine.specs.declared.Engine.{Engine}
use Rattle.cells.specs.Codes.{byte_of, at_tag, at_lock, at_own, at_steps, at_filled, at_register, state_in, worker_in}
use Rattle.cells.specs.Layout.{numbers, worker_used, worker_part, lock_part, word_part, sheet_part, instr_part, entry_part, unpack, row_of, number_at, run_now, put_number, put_idle}
use Rattle.cells.specs.Pieces.{reads, place_of, pieces_of}
use Rattle.cells.proofs.Back.{length_entry}
use Rattle.cells.proofs.Unpack.{Says}
use Rattle.cells.proofs.Pieces.{lay_out, pieces_get, pieces_length, pieces_lay}

-- numbers apart from the one that was written
reads_apart :
    (k : ℕ) (s : List ℕ) (m x to j : ℕ) → (m < to + j) ⊎ (to + j + k ≤ m) → reads (set s m x) to j k ≡ reads s to j k
reads_apart zero s m x to j h = refl
reads_apart (suc k) s m x to j h =
    λ t.
    get_or-set_other s m (to + j) x 0 (⊎_elim (λ a e. omega arith) (λ b e. omega arith) h) t ∷
    reads_apart k s m x to (j + 1) (⊎_elim (λ a. inl (omega arith)) (λ b. inr (omega arith)) h) t

-- one of them
reads-set :
    (k : ℕ) (s : List ℕ) (to i j x : ℕ) →
    to + (i + j) < length s →
    reads (set s (to + (i + j)) x) to i k ≡ set (reads s to i k) j x
reads-set zero s to i j x h = refl
reads-set (suc k) s to i zero x h =
    let q : to + i ≡ to + (i + 0) = omega arith in
    λ t.
    (ap (λ (m : ℕ). get_or (set s (to + (i + 0)) x) m 0) q ∙ get_or-set_same s (to + (i + 0)) x 0 h) t ∷
    reads_apart k s (to + (i + 0)) x to (i + 1) (inl (omega arith)) t
reads-set (suc k) s to i (suc j) x h =
    let q : to + (i + suc j) ≡ to + ((i + 1) + j) = omega arith in
    λ t.
    get_or-set_other s (to + (i + suc j)) (to + i) x 0 (λ e. omega arith) t ∷
    (ap (λ (m : ℕ). reads (set s m x) to (i + 1) k) q ∙ reads-set k s to (i + 1) j x (omega arith)) t

row_number :
    (s : List ℕ) (w j x : ℕ) →
    numbers ≤ length s →
    w < workers →
    j < worker_used →
    row_of (put_number s w j x) w ≡ set (row_of s w) j x
unfolding put_number
row_number s w j x h b u =
    let q : place_of worker_part w + j ≡ place_of worker_part w + (0 + j) = omega arith in
    ap (λ (m : ℕ). reads (set s m x) (place_of worker_part w) 0 worker_used) q ∙
    reads-set worker_used s (place_of worker_part w) 0 j x (omega arith)

-- another worker's numbers are apart
order : (a c : ℕ) → (a ≡ c → ⊥) → (c < a) ⊎ (a < c)
order zero zero q = absurd (q refl)
order zero (suc c) q = inr (omega arith)
order (suc a) zero q = inl (omega arith)
order (suc a) (suc c) q = ⊎_elim (λ z. inl (omega arith)) (λ z. inr (omega arith)) (order a c (λ z. q (ap suc z)))

side :
    (i w j : ℕ) → j < worker_used → (i ≡ w → ⊥) →
    (place_of worker_part w + j < place_of worker_part i + 0) ⊎ (place_of worker_part i + 0 + worker_used ≤ place_of worker_part w + j)
side i w j u q = ⊎_elim (λ a. inl (omega arith)) (λ a. inr (omega arith)) (order i w q)

-- the array of workers
workers-put :
    (s : List ℕ) (w j x : ℕ) →
    numbers ≤ length s →
    w < workers →
    j < worker_used →
    pieces_of worker_part (put_number s w j x) ≡ set (pieces_of worker_part s) w (worker_in (set (row_of s w) j x))
unfolding put_number
workers-put s w j x h b u =
    ext_get_or worker0 _ _
    (pieces_length worker_part (put_number s w j x) ∙ sym (length-set (pieces_of worker_part s) w _ ∙ pieces_length worker_part s))
    (λ i l. go i (rw (pieces_length worker_part (put_number s w j x)) at l) (eqb i w) refl)
  where
    go :
        (i : ℕ) → i < workers → (e : Bool) → eqb i w ≡ e →
        get_or (pieces_of worker_part (put_number s w j x)) i worker0 ≡
        get_or (set (pieces_of worker_part s) w (worker_in (set (row_of s w) j x))) i worker0
    go i l true e =
        let q : i ≡ w = eqb-true i w e in
        ap (λ (m : ℕ). get_or (pieces_of worker_part (put_number s w j x)) m worker0) q ∙
        pieces_get worker_part (put_number s w j x) w worker0 b ∙ ap worker_in (row_number s w j x h b u) ∙
        sym (ap (λ (m : ℕ). get_or (set (pieces_of worker_part s) w (worker_in (set (row_of s w) j x))) m worker0) q ∙
        get_or-set_same (pieces_of worker_part s) w _ worker0 (omega (arith, pieces_length worker_part s)))
    go i l false e =
        let q : i ≡ w → ⊥ = eqb-false i w e in
        pieces_get worker_part (put_number s w j x) i worker0 l ∙
        ap worker_in (reads_apart worker_used s (place_of worker_part w + j) x (place_of worker_part i) 0 (side i w j u q)) ∙
        sym (get_or-set_other (pieces_of worker_part s) w i _ worker0 q ∙ pieces_get worker_part s i worker0 l)

-- the whole state
pub unpack_number :
    (s : List ℕ) (w j x : ℕ) →
    numbers ≤ length s →
    w < workers →
    j < worker_used →
    unpack (put_number s w j x) ≡ with_worker (unpack s) w (worker_in (set (row_of s w) j x))
unfolding unpack put_number lay
unpack_number s w j x h b u =
    let m = place_of worker_part w + j in
    λ t.
    record {
      locks = ap byte_of (lay_out (x ∷ []) s m 0 (inl (omega arith))) t;
      words = ap byte_of (lay_out (x ∷ []) s m 1 (inl (omega arith))) t;
      word = pieces_lay word_part s (x ∷ []) m (record { room = omega arith; long = λ y. refl }) (inl (omega arith)) t;
      lock = pieces_lay lock_part s (x ∷ []) m (record { room = omega arith; long = λ y. refl }) (inl (omega arith)) t;
      sheet = pieces_lay sheet_part s (x ∷ []) m (record { room = omega arith; long = λ y. refl }) (inl (omega arith)) t;
      program = pieces_lay instr_part s (x ∷ []) m (record { room = omega arith; long = λ y. refl }) (inl (omega arith)) t;
      entry = pieces_lay entry_part s (x ∷ []) m (record { room = omega arith; long = length_entry }) (inl (omega arith)) t;
      worker = workers-put s w j x h b u t;
    }

pub worker_is : (s : List ℕ) (w : ℕ) → w < workers → worker_at (unpack s) w ≡ worker_in (row_of s w)
unfolding unpack
worker_is s w b = pieces_get worker_part s w worker0 b

-- a worker put over itself
pub worker_over : (e d : Engine) (w : ℕ) (k n : Worker) → d ≡ with_worker e w k → with_worker d w n ≡ with_worker e w n
worker_over e d w k n q = simp (q, set-set)

-- Numbers of worker w written one after the other over s, which is t now: the row l that stands there, and the whole state.
pub record Row (s t : List ℕ) (w : ℕ) (l : List ℕ) : Type 0 where
  pub row : row_of t w ≡ l
  pub state : unpack t ≡ with_worker (unpack s) w (worker_in l)
  pub size : length t ≡ length s

module _ (s : List ℕ) (w : ℕ) (h : numbers ≤ length s) (b : w < workers) where
  pub row_none : Row s s w (row_of s w)
  unfolding unpack
  row_none =
      record {
        row = refl;
        state = λ i. record {
          locks = (unpack s).locks;
          words = (unpack s).words;
          word = (unpack s).word;
          lock = (unpack s).lock;
          sheet = (unpack s).sheet;
          program = (unpack s).program;
          entry = (unpack s).entry;
          worker = (sym (set-get_or (unpack s).worker w worker0) ∙ ap (λ (k : Worker). set (unpack s).worker w k) (worker_is s w b)) i;
        };
        size = refl;
      }

  pub row_put : (t l : List ℕ) (j x : ℕ) → j < worker_used → Row s t w l → Row s (put_number t w j x) w (set l j x)
  unfolding put_number
  row_put t l j x u r =
      let n : numbers ≤ length t = omega (arith, r.size) in
      let q = ap (λ (y : List ℕ). set y j x) r.row in
      record {
        row = row_number t w j x n b u ∙ q;
        state =
            unpack_number t w j x n b u ∙ ap (λ (y : List ℕ). with_worker (unpack t) w (worker_in y)) q ∙
            worker_over (unpack s) (unpack t) w (worker_in l) (worker_in (set l j x)) r.state;
        size = length-set t (place_of worker_part w + j) x ∙ r.size;
      }

-- worker w idle
pub unpack_idle : (s : List ℕ) (w : ℕ) → numbers ≤ length s → w < workers → Says s (put_idle s w) (with_worker (unpack s) w worker0)
unfolding put_idle state_in
unpack_idle s w h b =
    let put = row_put s w h b in
    let r₁ = put _ _ at_tag 0 (omega arith) (row_none s w h b) in
    let r₂ = put _ _ at_lock 0 (omega arith) r₁ in
    let r₃ = put _ _ at_own 0 (omega arith) r₂ in
    let r₄ = put _ _ at_steps 0 (omega arith) r₃ in
    let r₅ = put _ _ at_filled 0 (omega arith) r₄ in
    (r₅.state, r₅.size)

-- register i, read
pub register_read : (s : List ℕ) (w i j r : ℕ) → j ≡ at_register i → r ≡ number_at s w j → r ≡ register_of (run_now s w).registers i
unfolding at_register register_of run_now number_at
register_read s w i j r e f = f ∙ ap (λ (k : ℕ). at k) e ∙ go (eqb i 0) (eqb i 1) (eqb i 2)
  where
    at : ℕ → ℕ
    at k = get_or s (place_of worker_part w + k) 0

    go : (b₀ b₁ b₂ : Bool) → at (pick b₀ 8 (pick b₁ 9 (pick b₂ 10 11))) ≡ pick b₀ (at 8) (pick b₁ (at 9) (pick b₂ (at 10) (at 11)))
    go true b₁ b₂ = refl
    go false true b₂ = refl
    go false false true = refl
    go false false false = refl
