-- What a search tells, by what the books are and hold: the other way round of what a lookup comes to.
use Rattle.std.specs.Prelude.{Err, Ok}
use Prim.Native.Nat.{ℕ}
use mathlib.Core.List.{List}
use mathlib.Core.Path.{◌≡◌, refl, ◌∙◌, ap}
use Rattle.parts.specs.Told as parts
use Rattle.records.specs.Bytes.{AllBytes}
use Rattle.book.specs.Book.{book_told, place_of, found_at, told_of, which_of, find_of, lookup_of}
use Rattle.book.specs.Books.{Holds, HasNot, Told}
use Rattle.book.specs.declared.Book.TheVariants.{Line, Factory}
use Rattle.book.proofs.Theory.Finding.{not_both, line_bad, factory_bad, in_books_lem, lookup}
use Rattle.book.proofs.Theory.Holding as holding
use Rattle.book.proofs.Theory.Seeking.{Seek, there, gone, seek}

module _ (line factory : List ℕ) (number : ℕ) (b : AllBytes line) (c : AllBytes factory) where
  checked : told_of (find_of line factory number) ≡ Ok tt → (book_told line ≡ Ok tt) × (book_told factory ≡ Ok tt)
  checked h = go (book_told line) (book_told factory) refl refl
    where
      go :
          (t u : parts.Told) → book_told line ≡ t → book_told factory ≡ u →
          (book_told line ≡ Ok tt) × (book_told factory ≡ Ok tt)
      go (Ok _) (Ok _) p q = (p, q)
      go (Ok _) (Err r) p q = not_both h (ap told_of (factory_bad line factory number r p q))
      go (Err r) u p q = not_both h (ap told_of (line_bad line factory number r p))

  -- both books are good
  module _ (p : book_told line ≡ Ok tt) (q : book_told factory ≡ Ok tt) where
    in_line_lem :
        (rec : List ℕ) → Holds line number rec →
        (told_of (find_of line factory number) ≡ Ok tt) × (which_of (find_of line factory number) ≡ 1) ×
        (lookup_of line factory number ≡ rec)
    in_line_lem rec h = go (seek line number b p)
      where
        go :
            Seek line number →
            (told_of (find_of line factory number) ≡ Ok tt) × (which_of (find_of line factory number) ≡ 1) ×
            (lookup_of line factory number ≡ rec)
        go (there job t part k f) =
            let e : find_of line factory number ≡ found_at Line (place_of line number) = in_books_lem line factory number p q ∙ simp t in
            let told = ap told_of e in
            let book = ap which_of e in
            (told, book, holding.one line number _ rec b p ((lookup line factory number b c).in_line told book) h)
        go (gone t n) = absurd (n rec h)

    in_factory_lem :
        (rec : List ℕ) → HasNot line number → Holds factory number rec →
        (told_of (find_of line factory number) ≡ Ok tt) × (which_of (find_of line factory number) ≡ 2) ×
        (lookup_of line factory number ≡ rec)
    in_factory_lem rec n h = go (seek line number b p) (seek factory number c q)
      where
        go :
            Seek line number → Seek factory number →
            (told_of (find_of line factory number) ≡ Ok tt) × (which_of (find_of line factory number) ≡ 2) ×
            (lookup_of line factory number ≡ rec)
        go (there job t part k f) s = absurd (n job k)
        go (gone t m) (gone u o) = absurd (o rec h)
        go (gone t m) (there job u part k f) =
            let e : find_of line factory number ≡ found_at Factory (place_of factory number) =
            in_books_lem line factory number p q ∙ simp (t, u) in
            let told = ap told_of e in
            let book = ap which_of e in
            (told, book, holding.one factory number _ rec c q ((lookup line factory number b c).in_factory told book).0 h)

pub tells : (line factory : List ℕ) (number : ℕ) → AllBytes line → AllBytes factory → Told line factory number
tells line factory number b c =
    record {
      checked = checked line factory number b c;
      bad_line = λ r h. line_bad line factory number r h;
      bad_factory = λ r h k. factory_bad line factory number r h k;
      found_in_line = λ rec p q h. in_line_lem line factory number b c p q rec h;
      found_in_factory = λ rec p q n h. in_factory_lem line factory number b c p q rec n h;
    }
