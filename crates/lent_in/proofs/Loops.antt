-- One turn and the end of a loop that writes pieces: those that are yet to be written are laid over what the numbers say now.
use Rattle.std.proofs.Common.{◌≡◌, ℕ, ◌+◌, ◌*◌, ◌/◌, ◌<◌, ◌≤◌, List, [], ◌∷◌, length, map, drop, get_or, refl, ◌∙◌, sym, ap, add-zero, length-drop, arith}
use Rattle.std.proofs.lemmas.List.{drop-drop, get_or-drop}
use Rattle.arrays.specs.Fresh.{free_at}
use Rattle.parts.specs.Lay.{lay}
use Rattle.records.specs.Bytes.{u32_of, u32s_of}
use Rattle.records.specs.Job.{first_instr, instrs_of}
use Rattle.records.proofs.Fours.{u32s_turn, instrs_turn}
use Rattle.parts.specs.declared.Instr.{Instr}
use Rattle.engine.specs.declared.Engine.{Engine}
use Rattle.cells.specs.Layout.{word_part, lock_part, instr_part, entry_part, unpack}
use Rattle.cells.specs.Pieces.{Part, put_piece}
use Rattle.cells.specs.State.{with_lock, with_word, with_instr, with_entry}
use Rattle.lent_in.specs.Laid.{put_all, lay_words, lay_locks, lay_program, lay_log, Laid}

-- `over` lays pieces of the part p one after the other, each by `put`
pub record Lays {A : Type 0} (p : Part A) (put : Engine → ℕ → A → Engine) (over : Engine → ℕ → List A → Engine) : Type 0 where
  pub none : (e : Engine) (i : ℕ) → over e i [] ≡ e
  pub more : (e : Engine) (i : ℕ) (x : A) (xs : List A) → over e i (x ∷ xs) ≡ over (put e i x) (i + 1) xs

pub lays_words : Lays word_part with_word lay_words
unfolding lay
lays_words = record { none = λ e i. refl; more = λ e i x xs. refl }

pub lays_locks : Lays lock_part with_lock lay_locks
unfolding lay
lays_locks = record { none = λ e i. refl; more = λ e i x xs. refl }

pub lays_program : Lays instr_part with_instr lay_program
unfolding lay
lays_program = record { none = λ e i. refl; more = λ e i x xs. refl }

pub lays_log : Lays entry_part with_entry lay_log
unfolding lay
lays_log = record { none = λ e i. refl; more = λ e i x xs. refl }

-- from s with xs, or from t with ys: the same numbers, and the same state
abbrev pub Left :
    {A : Type 0} → Part A → (Engine → ℕ → List A → Engine) → List ℕ → ℕ → List A → List ℕ → ℕ → List A → Type 0
Left p over s i xs t j ys = (put_all p s i xs ≡ put_all p t j ys) × (over (unpack s) i xs ≡ over (unpack t) j ys)

module _ {A : Type 0} {p : Part A} {put : Engine → ℕ → A → Engine} {over : Engine → ℕ → List A → Engine} (o : Lays p put over) where
  -- the first of those that are left is written
  pub laid_turn :
      (s t u : List ℕ) (i j next : ℕ) (xs ys zs : List A) (x : A) →
      Left p over s i xs t j ys →
      (u ≡ put_piece p t j x) × (unpack u ≡ put (unpack t) j x) →
      ys ≡ x ∷ zs →
      next ≡ j + 1 →
      Left p over s i xs u next zs
  unfolding put_all
  laid_turn s t u i j next xs ys zs x l w e n = (
    l.0 ∙ ap (put_all p t j) e ∙ sym (ap (λ (k : ℕ). put_all p u k zs) n ∙ ap (λ (m : List ℕ). put_all p m (j + 1) zs) w.0),
    l.1 ∙ ap (over (unpack t) j) e ∙ o.more (unpack t) j x zs ∙
        sym (ap (λ (k : ℕ). over (unpack u) k zs) n ∙ ap (λ (m : Engine). over m (j + 1) zs) w.1),
  )

  -- none is left
  pub laid_end :
      (s t : List ℕ) (i j : ℕ) (xs ys : List A) →
      Left p over s i xs t j ys →
      ys ≡ [] →
      Laid p over s t i xs
  unfolding put_all
  laid_end s t i j xs ys l e = (
    sym (l.0 ∙ ap (put_all p t j) e),
    sym (l.1 ∙ ap (over (unpack t) j) e ∙ o.none (unpack t) j),
  )

-- the lock of the turn whose four bytes begin at 4 * j, and those after it; the instruction of the same
module _ (s : List ℕ) (j : ℕ) (h : j < length s / 4) where
  four_left : 4 ≤ length (drop (4 * j) s)
  four_left = simp (length-drop (4 * j) s) (omega arith)

  pub locks_next :
      (t : ℕ) →
      t ≡ u32_of (get_or s (4 * j) 0) (get_or s (4 * j + 1) 0) (get_or s (4 * j + 2) 0) (get_or s (4 * j + 3) 0) →
      map free_at (u32s_of (drop (4 * j) s)) ≡ free_at t ∷ map free_at (u32s_of (drop (4 * (j + 1)) s))
  locks_next t e =
      let q : 4 * (j + 1) ≡ 4 * j + 4 = omega arith in
      simp (q, u32s_turn (drop (4 * j) s) four_left, get_or-drop, drop-drop, add-zero, e)

  pub program_next :
      (x : Instr) →
      x ≡ first_instr (drop (4 * j) s) →
      instrs_of (drop (4 * j) s) ≡ x ∷ instrs_of (drop (4 * (j + 1)) s)
  program_next x e =
      let q : 4 * (j + 1) ≡ 4 * j + 4 = omega arith in
      simp (q, instrs_turn (drop (4 * j) s) four_left, drop-drop, e)

-- fewer than four bytes are left
pub less_left : (s : List ℕ) (j : ℕ) → length s / 4 ≤ j → length (drop (4 * j) s) < 4
less_left s j h = simp (length-drop (4 * j) s) (omega arith)
