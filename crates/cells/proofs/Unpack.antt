-- The whole state after one piece was written, and that of zeros.
use Prim.Native.Nat.{ℕ, zero, suc, ◌<◌, ◌≤◌}
use mathlib.Core.List.{List, [], ◌∷◌}
use mathlib.Core.Logic.{inl, inr}
use mathlib.Core.Path.{◌≡◌, refl, ◌∙◌, ap}
use native.Mathlib.Omega.{arith}
use lib.ListN.{get_or, length, replicate, length-replicate, get_or-append}
use Rattle.parts.specs.Lay.{lay}
use Rattle.parts.specs.Numbers.{workers, most_locks, most_words, sheets, entries}
use Rattle.parts.proofs.Lay.{lay_is, length-lay}
use Rattle.engine.specs.Inner.{Walked}
use Rattle.engine.specs.State.{blank_of, with_worker}
use Rattle.engine.specs.declared.Engine.{Engine}
use Rattle.cells.specs.Codes.{byte_of, state_in}
use Rattle.cells.specs.Layout.{numbers, worker_part, lock_part, word_part, sheet_part, instr_part, entry_part, unpack, put_sizes, blanked}
use Rattle.cells.specs.Pieces.{Part, place_of, put_piece}
use Rattle.cells.specs.State.{with_sizes, with_lock, with_word, with_sheet, with_instr, with_entry}
use Rattle.cells.proofs.Back.{byte_back, length_worker, length_entry}
use Rattle.cells.proofs.Pieces.{Sound, pieces_length, pieces_set, reads_in, pieces_lay, pieces_out, pieces_zero, head_out}

-- the numbers t, of which there are as many as of s, say the state e
abbrev pub Says : List ℕ → List ℕ → Engine → Type 0
Says s t e = (unpack t ≡ e) × (length t ≡ length s)

-- writing a piece of the part p changes the state as w says
abbrev pub Puts : {A : Type 0} → Part A → (Engine → ℕ → A → Engine) → Type 0
Puts {A} p w =
    (s : List ℕ) (i : ℕ) (x : A) →
    numbers ≤ length s →
    i < p.count →
    p.reading (p.writing x) ≡ x →
    unpack (put_piece p s i x) ≡ w (unpack s) i x

-- where the numbers n of the piece were written
pub puts_by :
    {A : Type 0} (p : Part A) (w : Engine → ℕ → A → Engine) →
    Puts p w →
    (s t n : List ℕ) (i : ℕ) (x : A) →
    t ≡ lay (place_of p i) n s →
    n ≡ p.writing x →
    numbers ≤ length s →
    i < p.count →
    p.reading (p.writing x) ≡ x →
    (t ≡ put_piece p s i x) × (unpack t ≡ w (unpack s) i x)
unfolding put_piece
puts_by p w law s t n i x e f h b r =
    let q = e ∙ ap (λ (l : List ℕ). lay (place_of p i) l s) f in
    (q, ap unpack q ∙ law s i x h b r)

worker_sound : Sound worker_part
worker_sound = record { room = omega arith; long = length_worker }

lock_sound : Sound lock_part
lock_sound = record { room = omega arith; long = λ x. refl }

word_sound : Sound word_part
word_sound = record { room = omega arith; long = λ x. refl }

sheet_sound : Sound sheet_part
sheet_sound = record { room = omega arith; long = λ x. refl }

instr_sound : Sound instr_part
instr_sound = record { room = omega arith; long = λ x. refl }

entry_sound : Sound entry_part
entry_sound = record { room = omega arith; long = length_entry }

pub unpack_worker : Puts worker_part with_worker
unfolding unpack
unpack_worker s i x h b e =
    λ t.
    record {
      locks = ap byte_of (head_out worker_part s i x 0 (omega arith)) t;
      words = ap byte_of (head_out worker_part s i x 1 (omega arith)) t;
      word = pieces_out worker_part word_part s i x worker_sound word_sound b (inl (omega arith)) t;
      lock = pieces_out worker_part lock_part s i x worker_sound lock_sound b (inl (omega arith)) t;
      sheet = pieces_out worker_part sheet_part s i x worker_sound sheet_sound b (inl (omega arith)) t;
      program = pieces_out worker_part instr_part s i x worker_sound instr_sound b (inl (omega arith)) t;
      entry = pieces_out worker_part entry_part s i x worker_sound entry_sound b (inl (omega arith)) t;
      worker = pieces_set worker_part s i x worker_sound b (omega arith) e t;
    }

pub unpack_lock : Puts lock_part with_lock
unfolding unpack
unpack_lock s i x h b e =
    λ t.
    record {
      locks = ap byte_of (head_out lock_part s i x 0 (omega arith)) t;
      words = ap byte_of (head_out lock_part s i x 1 (omega arith)) t;
      word = pieces_out lock_part word_part s i x lock_sound word_sound b (inl (omega arith)) t;
      lock = pieces_set lock_part s i x lock_sound b (omega arith) e t;
      sheet = pieces_out lock_part sheet_part s i x lock_sound sheet_sound b (inl (omega arith)) t;
      program = pieces_out lock_part instr_part s i x lock_sound instr_sound b (inl (omega arith)) t;
      entry = pieces_out lock_part entry_part s i x lock_sound entry_sound b (inl (omega arith)) t;
      worker = pieces_out lock_part worker_part s i x lock_sound worker_sound b (inr (omega arith)) t;
    }

pub unpack_word : Puts word_part with_word
unfolding unpack
unpack_word s i x h b e =
    λ t.
    record {
      locks = ap byte_of (head_out word_part s i x 0 (omega arith)) t;
      words = ap byte_of (head_out word_part s i x 1 (omega arith)) t;
      word = pieces_set word_part s i x word_sound b (omega arith) e t;
      lock = pieces_out word_part lock_part s i x word_sound lock_sound b (inr (omega arith)) t;
      sheet = pieces_out word_part sheet_part s i x word_sound sheet_sound b (inl (omega arith)) t;
      program = pieces_out word_part instr_part s i x word_sound instr_sound b (inl (omega arith)) t;
      entry = pieces_out word_part entry_part s i x word_sound entry_sound b (inl (omega arith)) t;
      worker = pieces_out word_part worker_part s i x word_sound worker_sound b (inr (omega arith)) t;
    }

pub unpack_sheet : Puts sheet_part with_sheet
unfolding unpack
unpack_sheet s i x h b e =
    λ t.
    record {
      locks = ap byte_of (head_out sheet_part s i x 0 (omega arith)) t;
      words = ap byte_of (head_out sheet_part s i x 1 (omega arith)) t;
      word = pieces_out sheet_part word_part s i x sheet_sound word_sound b (inr (omega arith)) t;
      lock = pieces_out sheet_part lock_part s i x sheet_sound lock_sound b (inr (omega arith)) t;
      sheet = pieces_set sheet_part s i x sheet_sound b (omega arith) e t;
      program = pieces_out sheet_part instr_part s i x sheet_sound instr_sound b (inl (omega arith)) t;
      entry = pieces_out sheet_part entry_part s i x sheet_sound entry_sound b (inl (omega arith)) t;
      worker = pieces_out sheet_part worker_part s i x sheet_sound worker_sound b (inr (omega arith)) t;
    }

pub unpack_instr : Puts instr_part with_instr
unfolding unpack
unpack_instr s i x h b e =
    λ t.
    record {
      locks = ap byte_of (head_out instr_part s i x 0 (omega arith)) t;
      words = ap byte_of (head_out instr_part s i x 1 (omega arith)) t;
      word = pieces_out instr_part word_part s i x instr_sound word_sound b (inr (omega arith)) t;
      lock = pieces_out instr_part lock_part s i x instr_sound lock_sound b (inr (omega arith)) t;
      sheet = pieces_out instr_part sheet_part s i x instr_sound sheet_sound b (inr (omega arith)) t;
      program = pieces_set instr_part s i x instr_sound b (omega arith) e t;
      entry = pieces_out instr_part entry_part s i x instr_sound entry_sound b (inl (omega arith)) t;
      worker = pieces_out instr_part worker_part s i x instr_sound worker_sound b (inr (omega arith)) t;
    }

pub unpack_entry : Puts entry_part with_entry
unfolding unpack
unpack_entry s i x h b e =
    λ t.
    record {
      locks = ap byte_of (head_out entry_part s i x 0 (omega arith)) t;
      words = ap byte_of (head_out entry_part s i x 1 (omega arith)) t;
      word = pieces_out entry_part word_part s i x entry_sound word_sound b (inr (omega arith)) t;
      lock = pieces_out entry_part lock_part s i x entry_sound lock_sound b (inr (omega arith)) t;
      sheet = pieces_out entry_part sheet_part s i x entry_sound sheet_sound b (inr (omega arith)) t;
      program = pieces_out entry_part instr_part s i x entry_sound instr_sound b (inr (omega arith)) t;
      entry = pieces_set entry_part s i x entry_sound b (omega arith) e t;
      worker = pieces_out entry_part worker_part s i x entry_sound worker_sound b (inr (omega arith)) t;
    }

pub unpack_sizes :
    (s : List ℕ) (l w : ℕ) →
    numbers ≤ length s →
    l < 256 →
    w < 256 →
    unpack (put_sizes s l w) ≡ with_sizes (unpack s) l w
unfolding unpack put_sizes
unpack_sizes s l w h a b =
    let xs = l ∷ w ∷ [] in
    let r = reads_in xs s 0 0 0 refl (omega arith) in
    λ t.
    record {
      locks = (ap (λ (y : List ℕ). byte_of (get_or y 0 0)) r ∙ byte_back l a) t;
      words = (ap (λ (y : List ℕ). byte_of (get_or y 1 0)) r ∙ byte_back w b) t;
      word = pieces_lay word_part s xs 0 word_sound (inl (omega arith)) t;
      lock = pieces_lay lock_part s xs 0 lock_sound (inl (omega arith)) t;
      sheet = pieces_lay sheet_part s xs 0 sheet_sound (inl (omega arith)) t;
      program = pieces_lay instr_part s xs 0 instr_sound (inl (omega arith)) t;
      entry = pieces_lay entry_part s xs 0 entry_sound (inl (omega arith)) t;
      worker = pieces_lay worker_part s xs 0 worker_sound (inl (omega arith)) t;
    }

-- numbers that are 0 as far as the state reaches
pub unpack_zero : (s : List ℕ) → ((m : ℕ) → m < numbers → get_or s m 0 ≡ 0) → unpack s ≡ blank_of
unfolding unpack blank_of state_in
unpack_zero s h =
    λ t.
    record {
      locks = ap byte_of (h 0 (omega arith)) t;
      words = ap byte_of (h 1 (omega arith)) t;
      word = pieces_zero word_part s word_sound (λ m l. h m (omega arith)) t;
      lock = pieces_zero lock_part s lock_sound (λ m l. h m (omega arith)) t;
      sheet = pieces_zero sheet_part s sheet_sound (λ m l. h m (omega arith)) t;
      program = pieces_zero instr_part s instr_sound (λ m l. h m (omega arith)) t;
      entry = pieces_zero entry_part s entry_sound (λ m l. h m (omega arith)) t;
      worker = pieces_zero worker_part s worker_sound (λ m l. h m (omega arith)) t;
    }

zeros : (n m : ℕ) → ◌≡◌ {A = ℕ} (get_or (replicate n 0) m 0) 0
zeros zero m = refl
zeros (suc n) zero = refl
zeros (suc n) (suc m) = zeros n m

pub unpack-zeros : (n : ℕ) → unpack (replicate n 0) ≡ blank_of
unpack-zeros n = unpack_zero (replicate n 0) (λ m l. zeros n m)

-- zeros laid over the first n numbers
zeros_laid : (n : ℕ) (s : List ℕ) (m : ℕ) → n ≤ length s → m < n → ◌≡◌ {A = ℕ} (get_or (lay 0 (replicate n 0) s) m 0) 0
zeros_laid n s m h l =
    ap (λ (y : List ℕ). get_or y m 0) (lay_is 0 (replicate n 0) s (simp length-replicate (omega arith))) ∙
    get_or-append (replicate n 0) _ 0 m (simp length-replicate (omega arith)) ∙ zeros n m

pub unpack-blanked : (s : List ℕ) → numbers ≤ length s → unpack (blanked s) ≡ blank_of
unfolding blanked
unpack-blanked s h = unpack_zero _ (λ m l. zeros_laid numbers s m h l)

-- as many numbers as before; `length-put` is the one for a piece
pub length_sizes : (s : List ℕ) (l w : ℕ) → length (put_sizes s l w) ≡ length s
unfolding put_sizes
length_sizes s l w = length-lay 0 (l ∷ w ∷ []) s

pub length-blanked : (s : List ℕ) → length (blanked s) ≡ length s
unfolding blanked
length-blanked s = length-lay 0 (replicate numbers 0) s

-- every array of a state is as long as the engine's
pub record Whole (e : Engine) : Type 0 where
  pub word : length e.word ≡ most_words
  pub lock : length e.lock ≡ most_locks
  pub sheet : length e.sheet ≡ sheets
  pub program : length e.program ≡ entries
  pub entry : length e.entry ≡ entries
  pub worker : length e.worker ≡ workers

pub unpack_whole : (s : List ℕ) → Whole (unpack s)
unfolding unpack
unpack_whole s =
    record {
      word = pieces_length word_part s;
      lock = pieces_length lock_part s;
      sheet = pieces_length sheet_part s;
      program = pieces_length instr_part s;
      entry = pieces_length entry_part s;
      worker = pieces_length worker_part s;
    }

pub unpack_walked : (s : List ℕ) → Walked (unpack s)
unpack_walked s = let w = unpack_whole s in record { word = w.word; lock = w.lock; program = w.program }
