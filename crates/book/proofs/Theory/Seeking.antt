-- A number in a good book: its place is that of the job that the book holds under it; else the book holds none.
use Rattle.std.specs.Prelude.{Ok}
use Prim.Native.Nat.{ℕ, ◌+◌, ◌-◌}
use native.Mathlib.Omega.{arith}
use mathlib.Core.Bool.{true, false}
use mathlib.Core.List.{List, [], ◌∷◌, ◌++◌}
use mathlib.Core.Logic.{inl, inr}
use mathlib.Core.Path.{◌≡◌, refl, ◌∙◌, sym, ap, subst}
use lib.ListN.{length, take, drop}
use lib.Seq.{take_at, drop-append-add}
use borrow.Author.Tests.{lt-ltb, le-ltb}
use Rattle.records.specs.Bytes.{AllBytes}
use Rattle.book.specs.Formed.{formed_told}
use Rattle.book.specs.Book.{head_bytes, book_told, place_of, place_at, place_size, is_there}
use Rattle.book.specs.Add.{entry_bytes}
use Rattle.book.specs.Books.{Holds, HasNot}
use Rattle.book.proofs.Theory.Entries.{Entry, book_bytes, Rises, Has, bytes_append}
use Rattle.book.proofs.Theory.Reading.{Read, read}
use Rattle.book.proofs.Theory.Holding.{holds_has, has_holds, has_formed}
use Rattle.book.proofs.Theory.Placing.{Here, Placed, placed, has_last, none_there}

-- the job record of an entry that stands past `front`
part_is :
    (book front : List ℕ) (n : ℕ) (rec rest : List ℕ) (at size : ℕ) → book ≡ front ++ (entry_bytes n rec ++ rest) →
    at ≡ length front → size ≡ head_bytes + length rec → take (size - head_bytes) (drop (at + head_bytes) book) ≡ rec
part_is book front n rec rest at size e p q =
    let s : length rec ≡ size - head_bytes = omega arith in
    let d : drop (at + head_bytes) book ≡ rec ++ rest =
    ap (drop (at + head_bytes)) e ∙ ap (λ (k : ℕ). drop (k + head_bytes) (front ++ (entry_bytes n rec ++ rest))) p ∙
    drop-append-add front (entry_bytes n rec ++ rest) head_bytes in
    ap (take (size - head_bytes)) d ∙ take_at rec rest (size - head_bytes) s

-- what a search of one book comes to
pub data Seek (book : List ℕ) (number : ℕ) : Type 0 where
  there :
      (rec : List ℕ) → is_there (place_of book number) ≡ true →
      take ((place_size (place_of book number)) - head_bytes) (drop ((place_at (place_of book number)) + head_bytes) book) ≡ rec →
      Holds book number rec → formed_told rec ≡ Ok tt → Seek book number
  gone : is_there (place_of book number) ≡ false → HasNot book number → Seek book number

-- the place, by the entries of the book
pub place_in : (book : List ℕ) (number : ℕ) (r : Read 0 book) → Placed number 0 r.entries (place_of book number)
place_in book number r =
    subst (λ (s : List ℕ). Placed number 0 r.entries (place_of s number)) (sym r.are) (placed number 0 0 r.entries r.rise)

module _ (book : List ℕ) (number : ℕ) (b : AllBytes book) (r : Read 0 book) where
  -- no size: no such number
  pub none_held : (place_size (place_of book number)) ≡ 0 → HasNot book number
  none_held z rec h =
      let p = place_in book number r in
      none_there number 0 (place_size (place_of book number)) rec p.lo p.hi (subst (λ (l : List Entry). Rises 0 l) p.is r.rise) p.under
      p.here z (subst (λ (l : List Entry). Has number rec l) p.is (holds_has book r number rec b h))

  -- then the search tells none
  missing : (place_size (place_of book number)) ≡ 0 → Seek book number
  missing z = gone (le-ltb 0 (place_size (place_of book number)) (omega arith)) (none_held z)

  -- an entry that has the number
  found :
      (lo : List Entry) (e : Entry) (hi : List Entry) → r.entries ≡ lo ++ e ∷ hi → (place_at (place_of book number)) ≡ length (book_bytes lo) →
      e.number ≡ number → (place_size (place_of book number)) ≡ head_bytes + length e.job → Seek book number
  unfolding book_bytes Has
  found lo e hi is at n size =
      let has : Has number e.job r.entries =
      subst (λ (l : List Entry). Has number e.job l) (sym is) (has_last number e.job lo (e ∷ hi) (inl (n, refl))) in
      let holds = subst (λ (s : List ℕ). Holds s number e.job) (sym r.are) (has_holds number e.job r.entries r.rise has) in
      there e.job (lt-ltb 0 (place_size (place_of book number)) (omega arith))
      (part_is book (book_bytes lo) e.number e.job (book_bytes hi) (place_at (place_of book number)) (place_size (place_of book number))
      (r.are ∙ ap book_bytes is ∙ bytes_append lo (e ∷ hi)) at size)
      holds (has_formed 0 number e.job r.entries r.rise has)

  -- by the first entry past the place
  seek_by : Placed number 0 r.entries (place_of book number) → Seek book number
  unfolding Here
  seek_by p = go p.hi p.is p.here
    where
      go : (hi : List Entry) → r.entries ≡ p.lo ++ hi → Here number hi (place_size (place_of book number)) → Seek book number
      go [] is h = missing h
      go (e ∷ hi) is (inl (n, size)) = found p.lo e hi is (omega (arith, p.place)) n size
      go (e ∷ hi) is (inr (n, size)) = missing size

-- of any good book
pub seek : (book : List ℕ) (number : ℕ) → AllBytes book → book_told book ≡ Ok tt → Seek book number
seek book number b h = let r = read book b h in seek_by book number b r (place_in book number r)
