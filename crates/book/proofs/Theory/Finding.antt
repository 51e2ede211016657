-- What a lookup in two books comes to: each case of what is told.
use Prim.Native.Nat.{ℕ}
use native.Mathlib.Omega.{arith}
use mathlib.Core.List.{List}
use mathlib.Core.Logic.{◌⊎◌, inl, inr}
use mathlib.Core.Path.{◌≡◌, refl, ◌∙◌, sym, ap, subst}
use lib.ListN.{length}
use Rattle.parts.specs.declared.Refusal.{Refusal}
use Rattle.parts.specs.declared.Refusal.TheVariants.{NotThere}
use Rattle.parts.specs.Told.{Told}
use Rattle.records.specs.Bytes.{AllBytes}
use Rattle.book.specs.Formed.{formed_told}
use Rattle.book.specs.Book.{book_told, place_of, Search, found_at, nowhere, told_of, which_of, in_books, find_of, part_of, lookup_of}
use Rattle.book.specs.Books.{Holds, HasNot, LooksUp}
use Rattle.std.specs.Prelude.{Option, Some, None, Err, Ok}
use Rattle.book.specs.declared.Book.{Book}
use Rattle.book.specs.declared.Book.TheVariants.{Line, Factory}
use Rattle.book.proofs.Theory.Entries.{job_size}
use Rattle.book.proofs.Theory.Passing.{refused_so}
use Rattle.book.proofs.Theory.Seeking.{Seek, there, gone, seek}

-- accepted is not refused
pub not_both : {A : Type 0} {t : Told} {r : Refusal} → t ≡ Ok tt → t ≡ Err r → A
not_both h k = let z : ◌≡◌ {A = ℕ} 0 1 = cc in absurd (omega arith)

module _ (line factory : List ℕ) (number : ℕ) where
  -- what is told
  abbrev found : Search
  found = find_of line factory number

  -- the part of what is told
  looked : (f : Search) → found ≡ f → lookup_of line factory number ≡ part_of f line factory
  unfolding lookup_of
  looked f e = ap (λ (f : Search). part_of f line factory) e

  -- nothing is told of a job: the part is empty
  refused :
      (book : Option Book) (r : Refusal) → found ≡ nowhere book r →
      (r ≡ NotThere → (book_told line ≡ Ok tt) × (book_told factory ≡ Ok tt) × HasNot line number × HasNot factory number) →
      (book_told line ≡ Ok tt → book_told factory ≡ Ok tt → r ≡ NotThere) → LooksUp line factory number
  refused book r e h k =
      let t : told_of found ≡ Err r = ap told_of e in
      record {
        book = λ a. not_both a t;
        in_line = λ a b. not_both a t;
        in_factory = λ a b. not_both a t;
        not_there = λ a. h (let q : Err r ≡ Err NotThere = sym t ∙ a in cc);
        only_then = λ a b c d. t ∙ ap Err (k a b);
        empty = λ q a. looked (nowhere book r) e;
        full = λ a. not_both a t;
        formed = λ a. not_both a t;
      }

  -- a book is malformed
  malformed :
      (book : Option Book) (r : Refusal) → found ≡ nowhere book r → (s : List ℕ) → book_told s ≡ Err r →
      (book_told line ≡ Ok tt → book_told factory ≡ Ok tt → book_told s ≡ Ok tt) → LooksUp line factory number
  malformed book r e s h k =
      refused book r e
      (λ q. let m = refused_so 0 0 0 s r h in let w = m.1 in let z : ◌≡◌ {A = ℕ} 0 1 = cc in absurd (omega arith))
      (λ a b. not_both (k a b) h)

  -- a job is found, whose record is the part
  module _ (rec : List ℕ) (f : formed_told rec ≡ Ok tt) (told : told_of found ≡ Ok tt) (part : lookup_of line factory number ≡ rec) where
    found_in_lem :
        (which_of found ≡ 1) ⊎ (which_of found ≡ 2) → (which_of found ≡ 1 → Holds line number rec) →
        (which_of found ≡ 2 → Holds factory number rec × HasNot line number) →
        (HasNot line number → HasNot factory number → ⊥) → LooksUp line factory number
    found_in_lem which a b c = record {
      book = λ h. which;
      in_line = λ h k. subst (λ (s : List ℕ). Holds line number s) (sym part) (a k);
      in_factory = λ h k. (subst (λ (s : List ℕ). Holds factory number s) (sym part) (b k).0, (b k).1);
      not_there = λ h. not_both told h;
      only_then = λ h k l m. absurd (c l m);
      empty = λ r h. not_both told h;
      full = λ h. omega (arith, ap length part, job_size rec f);
      formed = λ h. ap formed_told part ∙ f;
    }

  -- both books are good
  module _ (a : book_told line ≡ Ok tt) (b : book_told factory ≡ Ok tt) where
    -- then the number is looked for, in the line book and after it in the factory book
    pub in_books_lem : found ≡ in_books line factory number
    unfolding find_of
    in_books_lem = simp (a, b)

    -- by what each of them comes to
    both_good : Seek line number → Seek factory number → LooksUp line factory number
    both_good (there rec t p h f) s =
        let e : found ≡ found_at Line (place_of line number) = in_books_lem ∙ simp t in
        let one = ap which_of e in
        found_in_lem rec f (ap told_of e) (looked _ e ∙ p) (inl one) (λ k. h) (λ k. absurd (omega arith)) (λ k l. k rec h)
    both_good (gone t n) (there rec u p h f) =
        let e : found ≡ found_at Factory (place_of factory number) = in_books_lem ∙ simp (t, u) in
        let two = ap which_of e in
        found_in_lem rec f (ap told_of e) (looked _ e ∙ p) (inr two) (λ k. absurd (omega arith)) (λ k. (h, n)) (λ k l. l rec h)
    both_good (gone t n) (gone u m) =
        let e : found ≡ nowhere None NotThere = in_books_lem ∙ simp (t, u) in
        refused None NotThere e (λ q. (a, b, n, m)) (λ q s. refl)

  -- a book with a fault is told of, the line book first
  pub line_bad : (r : Refusal) → book_told line ≡ Err r → found ≡ nowhere (Some Line) r
  unfolding find_of
  line_bad r h = simp h

  pub factory_bad : (r : Refusal) → book_told line ≡ Ok tt → book_told factory ≡ Err r → found ≡ nowhere (Some Factory) r
  unfolding find_of
  factory_bad r a h = simp (a, h)

-- by what is told of each book
pub lookup :
    (line factory : List ℕ) (number : ℕ) → AllBytes line → AllBytes factory → LooksUp line factory number
lookup line factory number b c = go (book_told line) (book_told factory) refl refl
  where
    go : (t u : Told) → book_told line ≡ t → book_told factory ≡ u → LooksUp line factory number
    go (Ok _) (Ok _) h k =
        both_good line factory number h k (seek line number b h) (seek factory number c k)
    go (Ok _) (Err r) h k =
        malformed line factory number (Some Factory) r (factory_bad line factory number r h k) factory k (λ p q. q)
    go (Err r) u h k = malformed line factory number (Some Line) r (line_bad line factory number r h) line h (λ p q. p)
