-- One turn of a walk over a book: bytes that are passed over, and an entry that is.
use Prim.Native.Nat.{ℕ, zero, suc, ◌+◌, ◌-◌, ◌/◌, ◌%◌, ◌≤◌, ◌<◌}
use native.Mathlib.Omega.{arith}
use mathlib.Core.Bool.{Bool, true, false}
use mathlib.Core.List.{List, [], ◌∷◌, ◌++◌}
use mathlib.Core.Path.{◌≡◌, ◌∙◌, ap}
use lib.ListN.{length, drop, length-append}
use lib.Seq.{drop-append_seam}
use borrow.Author.Tests.{le-ltb, lt-ltb, eq-eqb, ne_eqb}
use Rattle.parts.specs.Pick.{pick}
use Rattle.parts.specs.declared.Refusal.{Refusal}
use Rattle.parts.specs.declared.Refusal.TheVariants.{Malformed}
use Rattle.parts.specs.Told.{Told}
use Rattle.records.specs.Bytes.{length_field}
use Rattle.book.specs.Formed.{formed_told}
use Rattle.book.specs.Book.{entry_kind, head_bytes, number_field, bad_entry, book_from, place_from}
use Rattle.book.specs.Add.{entry_bytes}
use Rattle.std.specs.Prelude.{Ok, Err}
use Rattle.book.proofs.Turns.{book_drop, place_drop}
use Rattle.book.proofs.Theory.Entries.{job_size, front_length, front_number, front_job}

-- a walk refuses a book with 18 alone
pub refused_so : (n at low : ℕ) (s : List ℕ) (r : Refusal) → book_from n at low s ≡ Err r → (k : ℕ) × (r ≡ Malformed k)
unfolding book_from
refused_so n at low [] r h = let z : ◌≡◌ {A = ℕ} 0 1 = cc in absurd (omega arith)
refused_so (suc n) at low (b ∷ s) r h = refused_so n (at + 1) low s r h
refused_so zero at low (b ∷ s) r h =
    go (bad_entry low (b ∷ s)) h (refused_so (length_field (b ∷ s) - 1) (at + 1) (number_field (b ∷ s) + 1) s r)
  where
    go :
        {u : Told} (q : Bool) → pick q (Err (Malformed at)) u ≡ Err r → (u ≡ Err r → (k : ℕ) × (r ≡ Malformed k)) →
        (k : ℕ) × (r ≡ Malformed k)
    go true e f = (at, cc)
    go false e f = f e

-- the first entry, of which the length and the number were read
module _ (at b : ℕ) (s : List ℕ) (size n : ℕ) (l : length_field (b ∷ s) ≡ size) (m : number_field (b ∷ s) ≡ n) where
  -- a good one is passed over
  book_turn : (low : ℕ) → bad_entry low (b ∷ s) ≡ false → book_from 0 at low (b ∷ s) ≡ book_from (size - 1) (at + 1) (n + 1) s
  unfolding book_from
  book_turn low h = simp (h, l, m)

  -- the place is past it, or here, or here with no entry, by its number
  place_turn : (number : ℕ) → n < number → place_from number 0 at (b ∷ s) ≡ place_from number (size - 1) (at + 1) s
  unfolding place_from
  place_turn number h = simp (m, l, lt-ltb n number h)

  place_here : (number : ℕ) → n ≡ number → place_from number 0 at (b ∷ s) ≡ Ok (record { at = at; size = size })
  unfolding place_from
  place_here number h = simp (m, l, le-ltb n number (omega arith), eq-eqb n number h)

  place_gone : (number : ℕ) → number < n → place_from number 0 at (b ∷ s) ≡ Err at
  unfolding place_from
  place_gone number h = simp (m, l, le-ltb n number (omega arith), ne_eqb n number (λ e. omega arith))

-- an entry that stands at the front
module _ (n : ℕ) (rec t : List ℕ) (f : formed_told rec ≡ Ok tt) where
  -- its length field has room for its length
  short : head_bytes + length rec < 65536
  short = omega (arith, job_size rec f)

  -- nothing is wrong with it
  pub front_good : (low : ℕ) → low ≤ n → bad_entry low (entry_bytes n rec ++ t) ≡ false
  unfolding bad_entry
  front_good low l =
      let s = entry_bytes n rec ++ t in
      let size = front_length n rec t short in
      simp (
        le-ltb (length s) head_bytes (omega arith),
        le-ltb (length_field s) head_bytes (omega (arith, size)),
        le-ltb (length s) (length_field s) (omega (arith, size, length-append rec t)),
        le-ltb (number_field s) low (omega (arith, front_number n rec t short)),
        front_job n rec t short,
        f,
      )

  -- the bytes after its first; past it
  abbrev behind : List ℕ
  behind = (head_bytes + length rec) / 256 % 256 ∷ entry_kind ∷ 0 ∷ n % 256 ∷ n / 256 ∷ rec ++ t

  past : drop (head_bytes + length rec - 1) behind ≡ t
  past =
      let k : head_bytes + length rec - 1 ≡ suc (suc (suc (suc (suc (length rec))))) = omega arith in
      ap (λ (k : ℕ). drop k behind) k ∙ drop-append_seam rec t

  -- where the next one stands
  onward : (at : ℕ) → at + 1 + (head_bytes + length rec - 1) ≡ at + (head_bytes + length rec)
  onward at = omega arith

  -- a walk goes on past it, from the next number on
  pub book_front :
      (at low : ℕ) → low ≤ n →
      book_from 0 at low (entry_bytes n rec ++ t) ≡ book_from 0 (at + (head_bytes + length rec)) (n + 1) t
  book_front at low l =
      book_turn at _ _ _ _ (front_length n rec t short) (front_number n rec t short) low (front_good low l) ∙
      book_drop (head_bytes + length rec - 1) (at + 1) (n + 1) behind ∙
      ap (λ (k : ℕ). book_from 0 k (n + 1) (drop (head_bytes + length rec - 1) behind)) (onward at) ∙
      ap (book_from 0 (at + (head_bytes + length rec)) (n + 1)) past

  -- the place of a number above its own is past it; of its own, there; of one below it, none
  pub place_above :
      (at number : ℕ) → n < number →
      place_from number 0 at (entry_bytes n rec ++ t) ≡ place_from number 0 (at + (head_bytes + length rec)) t
  place_above at number h =
      place_turn at _ _ _ _ (front_length n rec t short) (front_number n rec t short) number h ∙
      place_drop number (head_bytes + length rec - 1) (at + 1) behind (omega (arith, length-append rec t)) ∙
      ap (λ (k : ℕ). place_from number 0 k (drop (head_bytes + length rec - 1) behind)) (onward at) ∙
      ap (place_from number 0 (at + (head_bytes + length rec))) past

  pub place_own :
      (at number : ℕ) → n ≡ number →
      place_from number 0 at (entry_bytes n rec ++ t) ≡ Ok (record { at = at; size = head_bytes + length rec })
  place_own at number h = place_here at _ _ _ _ (front_length n rec t short) (front_number n rec t short) number h

  pub place_below :
      (at number : ℕ) → number < n → place_from number 0 at (entry_bytes n rec ++ t) ≡ Err at
  place_below at number h = place_gone at _ _ _ _ (front_length n rec t short) (front_number n rec t short) number h
