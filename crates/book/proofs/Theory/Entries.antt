-- A book as a list of entries: its bytes, that its numbers rise, which jobs it has; and that one list of bytes has one first entry.
use Rattle.std.specs.Prelude.{Ok}
use Prim.Native.Nat.{ℕ, ◌+◌, ◌-◌, ◌≤◌, ◌<◌}
use native.Mathlib.Omega.{arith}
use mathlib.Core.List.{List, [], ◌∷◌, ◌++◌, append_assoc}
use mathlib.Core.Logic.{◌⊎◌}
use mathlib.Core.Path.{◌≡◌, refl, ◌∙◌, sym, ap}
use lib.ListN.{length, take, drop}
use lib.Seq.{take_at, drop_at}
use Rattle.parts.specs.Told.{first_of}
use Rattle.parts.proofs.Order.{both_pass}
use Rattle.records.specs.Bytes.{length_field}
use Rattle.records.specs.Job.{forms, form_order, job_of}
use Rattle.records.proofs.Form.{formed}
use Rattle.book.specs.Formed.{code_formed, formed_told}
use Rattle.book.specs.Book.{head_bytes, number_field, job_part}
use Rattle.book.specs.Add.{entry_bytes}

-- a numbered job
pub record Entry : Type 0 where
  pub number : ℕ
  pub job : List ℕ

-- its bytes
abbrev pub entry_of : Entry → List ℕ
entry_of e = entry_bytes e.number e.job

-- entries end to end
unfoldable pub book_bytes : List Entry → List ℕ
book_bytes [] = []
book_bytes (e ∷ es) = entry_of e ++ book_bytes es

-- the numbers strictly rise, from `low` on, and every job has its form
unfoldable pub Rises : ℕ → List Entry → Type 0
Rises low [] = Unit {0}
Rises low (e ∷ es) = (low ≤ e.number) × (formed_told e.job ≡ Ok tt) × Rises (e.number + 1) es

-- a job stands among the entries under a number
unfoldable pub Has : ℕ → List ℕ → List Entry → Type 0
Has n rec [] = ⊥
Has n rec (e ∷ es) = ((e.number ≡ n) × (e.job ≡ rec)) ⊎ Has n rec es

-- a job of a book has 8 to 260 bytes
pub job_size : (rec : List ℕ) → formed_told rec ≡ Ok tt → (8 ≤ length rec) × (length rec ≤ 260)
unfolding formed_told
job_size rec h =
    let f = formed rec (both_pass (first_of (form_order forms rec)) (code_formed (job_of rec) 0) h).0 in
    (omega (arith, f.size, f.fewest), omega (arith, f.size, f.most))

-- the entry at the front of a list of bytes: its length, its number and its job
module _ (n : ℕ) (rec t : List ℕ) (h : head_bytes + length rec < 65536) where
  pub front_length : length_field (entry_bytes n rec ++ t) ≡ head_bytes + length rec
  front_length = omega arith

  pub front_number : number_field (entry_bytes n rec ++ t) ≡ n
  front_number = omega arith

  pub front_job : job_part (entry_bytes n rec ++ t) ≡ rec
  front_job = take_at rec t (length_field (entry_bytes n rec ++ t) - head_bytes) (omega (arith, front_length))

-- bytes have one first entry
pub entry_one :
    (n m : ℕ) (a b t u : List ℕ) → head_bytes + length a < 65536 → head_bytes + length b < 65536 →
    entry_bytes n a ++ t ≡ entry_bytes m b ++ u → (n ≡ m) × (a ≡ b) × (t ≡ u)
entry_one n m a b t u h k q =
    let l : length a ≡ length b =
    omega (arith, front_length n a t h, front_length m b u k, ap (λ (s : List ℕ). length_field s) q) in
    let bodies : a ++ t ≡ b ++ u = ap (λ (s : List ℕ). drop 6 s) q in (
      omega (arith, front_number n a t h, front_number m b u k, ap (λ (s : List ℕ). number_field s) q),
      sym (take_at a t (length a) refl) ∙ ap (take (length a)) bodies ∙ take_at b u (length a) (sym l),
      sym (drop_at a t (length a) refl) ∙ ap (drop (length a)) bodies ∙ drop_at b u (length a) (sym l),
    )

-- the bytes of two lists of entries, one after the other
pub bytes_append : (es fs : List Entry) → book_bytes (es ++ fs) ≡ book_bytes es ++ book_bytes fs
unfolding book_bytes
bytes_append [] fs = refl
bytes_append (e ∷ es) fs =
    ap (λ (s : List ℕ). entry_of e ++ s) (bytes_append es fs) ∙ sym (append_assoc (entry_of e) (book_bytes es) (book_bytes fs))

-- the first of them rise alone
pub rises_front : (low : ℕ) (es fs : List Entry) → Rises low (es ++ fs) → Rises low es
unfolding Rises
rises_front low [] fs h = record {}
rises_front low (e ∷ es) fs (l, f, h) = (l, f, rises_front (e.number + 1) es fs h)
