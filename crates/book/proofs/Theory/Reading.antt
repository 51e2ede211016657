-- A book that is good is the bytes of its entries, and entries whose numbers rise make a good book.
use Rattle.std.specs.Prelude.{Err, Ok}
use Prim.Native.Nat.{ℕ, zero, suc, ◌+◌, ◌-◌, ◌*◌, ◌/◌, ◌%◌, ◌≤◌, ◌<◌}
use native.Mathlib.Omega.{arith}
use mathlib.Core.Bool.{Bool, true, false}
use mathlib.Core.List.{List, [], ◌∷◌, ◌++◌}
use mathlib.Core.Path.{◌≡◌, refl, ◌∙◌, sym, ap, subst}
use lib.Dec.{ltb}
use lib.ListN.{length, get_or, drop, length-append, length-drop, take-append-drop}
use lib.Seq.{length-take-le}
use borrow.Author.Tests.{ltb-false}
use Rattle.parts.specs.Pick.{pick, ◌or◌, ◌isnt◌}
use Rattle.parts.specs.declared.Refusal.TheVariants.{Malformed}
use Rattle.parts.specs.Told.{Told}
use Rattle.parts.proofs.Order.{neither, not_isnt}
use Rattle.records.specs.Bytes.{AllBytes, length_field, kind_field}
use Rattle.book.specs.Formed.{formed_told}
use Rattle.book.specs.Book.{entry_kind, head_bytes, number_field, job_part, refuses, bad_head, bad_entry, book_from, book_told}
use Rattle.book.specs.Add.{entry_bytes}
use Rattle.book.proofs.Theory.Entries.{Entry, entry_of, book_bytes, Rises}
use Rattle.book.proofs.Theory.Passing.{book_front}

-- entries whose numbers rise make a good book
pub rises_good : (at low : ℕ) (es : List Entry) → Rises low es → book_from 0 at low (book_bytes es) ≡ Ok tt
unfolding Rises book_bytes book_from
rises_good at low [] h = refl
rises_good at low (e ∷ es) (l, f, h) =
    book_front e.number e.job (book_bytes es) f at low l ∙
    rises_good (at + (head_bytes + length e.job)) (e.number + 1) es h

-- the entry at the front of a list of bytes, with nothing wrong in it
record Front (low : ℕ) (s : List ℕ) : Type 0 where
  entry : Entry
  rest : List ℕ
  is : s ≡ entry_of entry ++ rest
  above : low ≤ entry.number
  formed : formed_told entry.job ≡ Ok tt

-- what is not refused is accepted
accepts : (t : Told) → refuses t ≡ false → t ≡ Ok tt
accepts (Ok _) h = refl
accepts (Err r) h = let z : ◌≡◌ {A = ℕ} 0 1 = cc in absurd (omega arith)

-- the first six bytes, and the others
six_first :
    (s : List ℕ) → 6 ≤ length s →
    s ≡ get_or s 0 0 ∷ get_or s 1 0 ∷ get_or s 2 0 ∷ get_or s 3 0 ∷ get_or s 4 0 ∷ get_or s 5 0 ∷ drop 6 s
six_first [] h = absurd (omega arith)
six_first (a ∷ []) h = absurd (omega arith)
six_first (a ∷ b ∷ []) h = absurd (omega arith)
six_first (a ∷ b ∷ c ∷ []) h = absurd (omega arith)
six_first (a ∷ b ∷ c ∷ d ∷ []) h = absurd (omega arith)
six_first (a ∷ b ∷ c ∷ d ∷ e ∷ []) h = absurd (omega arith)
six_first (a ∷ b ∷ c ∷ d ∷ e ∷ f ∷ rest) h = refl

-- a number of two bytes has them
halves : (n lo hi : ℕ) → n ≡ lo + 256 * hi → lo < 256 → hi < 256 → (n % 256 ≡ lo) × (n / 256 ≡ hi) × (n / 256 % 256 ≡ hi)
halves n lo hi e l h =
    let d : n / 256 ≡ hi = omega arith in
    (omega arith, d, omega arith)

-- the bytes are those of the fields
fields_are :
    (s : List ℕ) → AllBytes s → 6 ≤ length s → 6 ≤ length_field s → length_field s ≤ length s → kind_field s ≡ entry_kind →
    s ≡ entry_bytes (number_field s) (job_part s) ++ drop (length_field s - head_bytes) (drop head_bytes s)
fields_are s b h k l e =
    let size : length (job_part s) ≡ length_field s - head_bytes =
    length-take-le (length_field s - head_bytes) (drop head_bytes s) (omega (arith, length-drop 6 s)) in
    let two = halves (head_bytes + length (job_part s)) (get_or s 0 0) (get_or s 1 0) (omega arith) (b 0) (b 1) in
    let own = halves (number_field s) (get_or s 4 0) (get_or s 5 0) refl (b 4) (b 5) in
    let e0 = two.0 in
    let e1 = two.2 in
    let b2 = b 2 in
    let e2 : entry_kind ≡ get_or s 2 0 = omega arith in
    let e3 : 0 ≡ get_or s 3 0 = omega arith in
    let e4 = own.0 in
    let e5 = own.1 in
    let body : job_part s ++ drop (length_field s - head_bytes) (drop head_bytes s) ≡ drop head_bytes s =
    take-append-drop (length_field s - head_bytes) (drop head_bytes s) in
    let w = six_first s h in
    cc

-- what a good entry says of the bytes
front_of : (low : ℕ) (s : List ℕ) → AllBytes s → bad_entry low s ≡ false → Front low s
unfolding bad_entry
front_of low s b h =
    let a = neither (bad_head low s) (refuses (formed_told (job_part s))) h in
    let three = kind_field s isnt entry_kind or ltb (number_field s) low in
    let two = ltb (length s) (length_field s) or three in
    let c = neither (ltb (length s) head_bytes) (ltb (length_field s) head_bytes or two) a.0 in
    let d = neither (ltb (length_field s) head_bytes) two c.1 in
    let e = neither (ltb (length s) (length_field s)) three d.1 in
    let f = neither (kind_field s isnt entry_kind) (ltb (number_field s) low) e.1 in
    record {
      entry = record { number = number_field s; job = job_part s };
      rest = drop (length_field s - head_bytes) (drop head_bytes s);
      is =
          fields_are s b (ltb-false _ _ c.0) (ltb-false _ _ d.0) (ltb-false _ _ e.0) (not_isnt (kind_field s) entry_kind f.0);
      above = ltb-false _ _ f.1;
      formed = accepts (formed_told (job_part s)) a.1;
    }

-- the first entry of a good book
good_front : (at low b : ℕ) (s : List ℕ) → AllBytes (b ∷ s) → book_from 0 at low (b ∷ s) ≡ Ok tt → Front low (b ∷ s)
unfolding book_from
good_front at low b s h k = go (bad_entry low (b ∷ s)) _ refl k
  where
    go :
        (q : Bool) (u : Told) → bad_entry low (b ∷ s) ≡ q → pick q (Err (Malformed at)) u ≡ Ok tt → Front low (b ∷ s)
    go true u e f = let z : ◌≡◌ {A = ℕ} 0 1 = cc in absurd (omega arith)
    go false u e f = front_of low (b ∷ s) h e

-- the entries of a good book
pub record Read (low : ℕ) (s : List ℕ) : Type 0 where
  pub entries : List Entry
  pub are : s ≡ book_bytes entries
  pub rise : Rises low entries

-- bytes that stand after others, and before others
pub bytes_after : (a t : List ℕ) → AllBytes (a ++ t) → AllBytes t
bytes_after [] t h = h
bytes_after (x ∷ a) t h = bytes_after a t (λ k. h (suc k))

pub bytes_before : (a t : List ℕ) → AllBytes (a ++ t) → AllBytes a
bytes_before [] t h k = omega arith
bytes_before (x ∷ a) t h zero = h zero
bytes_before (x ∷ a) t h (suc k) = bytes_before a t (λ j. h (suc j)) k

-- the first entry, where all shorter lists of bytes are read
read_on :
    (at low : ℕ) (s : List ℕ) →
    ((to next : ℕ) (t : List ℕ) → length t < length s → AllBytes t → book_from 0 to next t ≡ Ok tt → Read next t) →
    AllBytes s → book_from 0 at low s ≡ Ok tt → Read low s
unfolding book_bytes Rises
read_on at low [] on b h = record { entries = []; are = refl; rise = record {} }
read_on at low (x ∷ s) on b h =
    let f = good_front at low x s b h in
    let e = f.entry in
    let size : length (x ∷ s) ≡ length (entry_of e) + length f.rest = ap length f.is ∙ length-append (entry_of e) f.rest in
    let after = book_front e.number e.job f.rest f.formed at low f.above in
    let r =
    on (at + (head_bytes + length e.job)) (e.number + 1) f.rest (omega arith)
    (bytes_after (entry_of e) f.rest (subst (λ (t : List ℕ). AllBytes t) f.is b))
    (sym after ∙ ap (book_from 0 at low) (sym f.is) ∙ h) in
    record {
      entries = e ∷ r.entries;
      are = f.is ∙ ap (λ (t : List ℕ). entry_of e ++ t) r.are;
      rise = (f.above, f.formed, r.rise);
    }

-- and so by their length
reads : (fuel at low : ℕ) (s : List ℕ) → length s ≤ fuel → AllBytes s → book_from 0 at low s ≡ Ok tt → Read low s
reads zero at low s l b h = read_on at low s (λ to next t k c g. absurd (omega arith)) b h
reads (suc fuel) at low s l b h = read_on at low s (λ to next t k c g. reads fuel to next t (omega arith) c g) b h

-- the entries of a whole book
pub read : (book : List ℕ) → AllBytes book → book_told book ≡ Ok tt → Read 0 book
read book b h = reads (length book) 0 0 book (omega arith) b h
