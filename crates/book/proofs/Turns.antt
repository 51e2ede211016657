-- One turn and the ends of a walk over a book, and what is known of what is left of a good one.
use Prim.Native.Nat.{ℕ, zero, suc, ◌+◌, ◌-◌, ◌≤◌, ◌<◌}
use mathlib.Core.Bool.{Bool, true, false}
use mathlib.Core.List.{List, [], ◌∷◌}
use mathlib.Core.Path.{◌≡◌, refl, ◌∙◌, sym}
use mathlib.Core.Logic.{⊎_elim}
use native.Mathlib.Nat.{eq-or-lt_of_le}
use native.Mathlib.Omega.{arith}
use lib.Dec.{eqb, ltb}
use lib.ListN.{length, take, drop, length-drop}
use borrow.Author.Tests.{eq-eqb, ne_eqb, lt-ltb, le-ltb}
use Rattle.parts.specs.Pick.{pick}
use Rattle.parts.specs.declared.Refusal.TheVariants.{Malformed}
use Rattle.parts.specs.Told.{Told}
use Rattle.parts.proofs.Order.{neither}
use Rattle.records.specs.Bytes.{length_field}
use Rattle.records.proofs.Laws.{part_end}
use Rattle.book.specs.Book.{number_field, bad_head, bad_entry, book_from, place_from}
use Rattle.std.specs.Prelude.{Result, Ok, Err}
use Rattle.book.specs.declared.Place.{Place}
use Rattle.book.proofs.Laws.{Head, head_good}

-- an entry that is not bad has a good head
pub entry_good : (low : ℕ) (s : List ℕ) → bad_entry low s ≡ false → Head low s
unfolding bad_entry
entry_good low s h = head_good low s (neither (bad_head low s) _ h).0

pub part_length : (n : ℕ) (s : List ℕ) → length (take (length s - n) (drop n s)) ≡ length s - n
part_length n s = simp (part_end, length-drop)

-- n bytes that are passed over
pub book_drop : (n at low : ℕ) (s : List ℕ) → book_from n at low s ≡ book_from 0 (at + n) low (drop n s)
unfolding book_from
book_drop zero at low [] = refl
book_drop (suc n) at low [] = refl
book_drop zero at low (b ∷ s) = let e : at + 0 ≡ at = omega arith in simp e
book_drop (suc n) at low (b ∷ s) = let e : at + 1 + n ≡ at + suc n = omega arith in book_drop n (at + 1) low s ∙ simp e

pub place_drop :
    (number n at : ℕ) (s : List ℕ) → n ≤ length s → place_from number n at s ≡ place_from number 0 (at + n) (drop n s)
unfolding place_from
place_drop number zero at [] h = let e : at + 0 ≡ at = omega arith in simp e
place_drop number (suc n) at [] h = absurd (omega arith)
place_drop number zero at (b ∷ s) h = let e : at + 0 ≡ at = omega arith in simp e
place_drop number (suc n) at (b ∷ s) h =
    let e : at + 1 + n ≡ at + suc n = omega arith in place_drop number n (at + 1) s (omega arith) ∙ simp e

-- the front of a book that has a byte, where its entry is good
book_front :
    (at low : ℕ) (s : List ℕ) → 0 < length s → bad_entry low s ≡ false →
    book_from 0 at low s ≡ book_from (length_field s) at (number_field s + 1) s
unfolding book_from
book_front at low [] h k = absurd (omega arith)
book_front at low (b ∷ s) h k = go (length_field (b ∷ s)) (entry_good low (b ∷ s) k).size
  where
    go :
        (size : ℕ) → 6 ≤ size →
        pick (bad_entry low (b ∷ s)) (Err (Malformed at)) (book_from (size - 1) (at + 1) (number_field (b ∷ s) + 1) s) ≡
        book_from size at (number_field (b ∷ s) + 1) (b ∷ s)
    go zero l = absurd (omega arith)
    go (suc n) l = let z : suc n - 1 ≡ n = omega arith in simp (k, z)

book_bad : (at low : ℕ) (s : List ℕ) → 0 < length s → bad_entry low s ≡ true → book_from 0 at low s ≡ Err (Malformed at)
unfolding book_from
book_bad at low [] h k = absurd (omega arith)
book_bad at low (b ∷ s) h k = simp k

book_end : (at low : ℕ) (s : List ℕ) → length s ≤ 0 → book_from 0 at low s ≡ Ok tt
unfolding book_from
book_end at low [] h = refl
book_end at low (b ∷ s) h = absurd (omega arith)

-- a walk that has come to s, whose first byte is the book's byte `at`; b, size and n were read at its front
module _ (goal : Told) (at low : ℕ) (s : List ℕ) (g : goal ≡ book_from 0 at low s) where
  pub walk_end : length s ≤ 0 → Ok tt ≡ goal
  walk_end h = sym (g ∙ book_end at low s h)

  module _ (b : Bool) (h : 0 < length s) (e : b ≡ bad_entry low s) where
    pub walk_bad : b ≡ true → Err (Malformed at) ≡ goal
    walk_bad q = sym (g ∙ book_bad at low s h (sym e ∙ q))

    pub walk_turn :
        (size n : ℕ) → b ≡ false → size ≡ length_field s → n ≡ number_field s →
        goal ≡ book_from 0 (at + size) (n + 1) (take (length s - size) (drop size s))
    walk_turn size n q z m =
        g ∙ book_front at low s h (sym e ∙ q) ∙ book_drop (length_field s) at (number_field s + 1) s ∙ simp (← z, ← m, part_end size s)

-- what was told of the entry at the front, by a callee
module _ (b : Bool) (low : ℕ) (s : List ℕ) (e : b ≡ bad_entry low s) (h : b ≡ false) where
  head_by : Head low s
  head_by = entry_good low s (sym e ∙ h)

  pub front_two : 2 ≤ length s
  front_two = omega (arith, head_by.six)

  pub front_six : 6 ≤ length s
  front_six = head_by.six

  pub front_starts : (size : ℕ) → size ≡ length_field s → 6 ≤ size
  front_starts size q = omega (arith, head_by.size)

  pub front_ends : (size : ℕ) → size ≡ length_field s → size ≤ length s
  front_ends size q = omega (arith, head_by.whole)

-- what is left of a good book from its byte `at` on
pub record Left (at : ℕ) (s : List ℕ) : Type 0 where
  pub low : ℕ
  pub good : book_from 0 at low s ≡ Ok tt

-- its first entry
pub left_entry : (at low : ℕ) (s : List ℕ) → 0 < length s → book_from 0 at low s ≡ Ok tt → bad_entry low s ≡ false
left_entry at low s h g = go (bad_entry low s) refl
  where
    go : (b : Bool) → bad_entry low s ≡ b → bad_entry low s ≡ false
    go true q = let z : ◌≡◌ {A = ℕ} 0 1 = cc (g, book_bad at low s h q) in absurd (omega arith)
    go false q = q

module _ (at : ℕ) (s : List ℕ) (l : Left at s) (h : 0 < length s) where
  pub left_head : Head l.low s
  left_head = entry_good l.low s (left_entry at l.low s h l.good)

  pub left_next :
      (size : ℕ) → size ≡ length_field s → Left (at + size) (take (length s - size) (drop size s))
  left_next size q =
      record {
        low = number_field s + 1;
        good =
            sym (walk_turn (Ok tt) at l.low s (sym l.good) false h (sym (left_entry at l.low s h l.good)) size (number_field s) refl q refl);
      }

-- the front of a good book that has a byte
place_front :
    (number at : ℕ) (s : List ℕ) → 0 < length s → 1 ≤ length_field s →
    place_from number 0 at s ≡
    pick (ltb (number_field s) number) (place_from number (length_field s) at s)
    (pick (eqb (number_field s) number) (Ok (record { at = at; size = length_field s })) (Err at))
unfolding place_from
place_front number at [] h k = absurd (omega arith)
place_front number at (b ∷ s) h k = go (length_field (b ∷ s)) k
  where
    go :
        (size : ℕ) → 1 ≤ size →
        pick (ltb (number_field (b ∷ s)) number) (place_from number (size - 1) (at + 1) s)
        (pick (eqb (number_field (b ∷ s)) number) (Ok (record { at = at; size = length_field (b ∷ s) })) (Err at)) ≡
        pick (ltb (number_field (b ∷ s)) number) (place_from number size at (b ∷ s))
        (pick (eqb (number_field (b ∷ s)) number) (Ok (record { at = at; size = length_field (b ∷ s) })) (Err at))
    go zero l = absurd (omega arith)
    go (suc n) l = let z : suc n - 1 ≡ n = omega arith in simp z

-- a search that has come to s, whose first byte is the book's byte `at`; n and size were read at its front
module _ (goal : Result Place ℕ) (number at : ℕ) (s : List ℕ) (g : goal ≡ place_from number 0 at s) where
  pub place_end : length s ≤ 0 → Err at ≡ goal
  unfolding place_from
  place_end h = sym (g ∙ go s h)
    where
      go : (s : List ℕ) → length s ≤ 0 → place_from number 0 at s ≡ Err at
      go [] h = refl
      go (b ∷ s) h = absurd (omega arith)

  module _ (l : Left at s) (h : 0 < length s) (n size : ℕ) (m : n ≡ number_field s) (z : size ≡ length_field s) where
    front : goal ≡ pick (ltb n number) (place_from number size at s) (pick (eqb n number) (Ok (record { at = at; size = size })) (Err at))
    front =
        let k = (left_head at s l h).size in
        g ∙ place_front number at s h (omega arith) ∙ simp (← m, ← z)

    pub place_above : number < n → Err at ≡ goal
    place_above q = let y : n ≡ number → ⊥ = λ w. omega arith in sym (front ∙ simp (le-ltb n number (omega arith), ne_eqb n number y))

    pub place_here : n ≡ number → Ok (record { at = at; size = size }) ≡ goal
    place_here q = sym (front ∙ simp (le-ltb n number (omega arith), eq-eqb n number q))

    pub place_turn :
        n ≤ number → (n ≡ number → ⊥) → goal ≡ place_from number 0 (at + size) (take (length s - size) (drop size s))
    place_turn q w =
        let k = (left_head at s l h).whole in
        let b : n < number = ⊎_elim (λ y. absurd (w y)) (λ y. y) (eq-or-lt_of_le q) in
        front ∙ simp (lt-ltb n number b) (place_drop number size at s (omega arith) ∙ simp (part_end size s))

-- what is read at the front of what is left
module _ (at : ℕ) (s : List ℕ) (l : Left at s) (h : 0 < length s) where
  pub left_six : 6 ≤ length s
  left_six = (left_head at s l h).six

  pub left_two : 2 ≤ length s
  left_two = omega (arith, (left_head at s l h).six)

  module _ (size : ℕ) (z : size ≡ length_field s) where
    pub left_starts : 6 ≤ size
    left_starts = omega (arith, (left_head at s l h).size)

    pub left_ends : size ≤ length s
    left_ends = omega (arith, (left_head at s l h).whole)
