-- What a search and a lookup come to, by what the callees told; that a place lies in its book.
use Prim.Native.Nat.{ℕ, zero, suc, ◌+◌, ◌-◌, ◌≤◌, ◌<◌}
use mathlib.Core.Bool.{Bool, true, false}
use mathlib.Core.List.{List, [], ◌∷◌}
use mathlib.Core.Path.{◌≡◌, refl, ◌∙◌, sym, ap, subst}
use native.Mathlib.Omega.{arith}
use lib.Dec.{eqb, ltb}
use lib.ListN.{length, take, drop}
use borrow.Author.Tests.{eqb-true, eqb-false, ltb-true, lt-ltb}
use Rattle.parts.specs.Pick.{pick}
use Rattle.parts.specs.Told.{on_told, refusal_place}
use Rattle.parts.specs.declared.Refusal.{Refusal}
use Rattle.parts.specs.declared.Refusal.TheVariants.{Malformed, NotThere}
use Rattle.parts.specs.Told.{Told}
use Rattle.records.specs.Bytes.{length_field}
use Rattle.book.specs.Book.{head_bytes, number_field, bad_entry, book_from, book_told, place_from, place_of, place_at, place_size, is_there, book_number, Search, found_in, found_at, nowhere, told_of, which_of, from_of, length_of, in_books, find_of, lookup_of, lookup_at, further}
use Rattle.std.specs.Prelude.{Option, Some, None, Result, Ok, Err}
use Rattle.book.specs.declared.Book.{Book}
use Rattle.book.specs.declared.Book.TheVariants.{Line, Factory}
use Rattle.book.specs.declared.Found.{Found}
use Rattle.book.specs.declared.NotFound.{NotFound}
use Rattle.book.specs.declared.Place.{Place}
use Rattle.book.proofs.Turns.{entry_good, left_entry}

-- the place that a number has in what is left of a good book lies in it, and an entry there is whole
abbrev Whole : Result Place ℕ → Type 0
Whole (Ok p) = head_bytes ≤ p.size
Whole (Err at) = Unit {0}

pub record Within (p : Result Place ℕ) (most : ℕ) : Type 0 where
  pub ends : place_at p + place_size p ≤ most
  pub whole : Whole p

whole_size : (p : Result Place ℕ) → Whole p → 0 < place_size p → head_bytes ≤ place_size p
whole_size (Ok p) w h = w
whole_size (Err at) w h = absurd (omega arith)

pub within :
    (number n at low : ℕ) (s : List ℕ) → n ≤ length s → book_from n at low s ≡ Ok tt →
    Within (place_from number n at s) (at + length s)
unfolding book_from place_from
within number n at low [] h g = record { ends = omega arith; whole = tt }
within number (suc n) at low (b ∷ s) h g =
    let w = within number n (at + 1) low s (omega arith) g in
    record { ends = omega (arith, w.ends); whole = w.whole }
within number zero at low (b ∷ s) h g =
    let fine = left_entry at low (b ∷ s) (omega arith) g in
    let head = entry_good low (b ∷ s) fine in
    go (ltb (number_field (b ∷ s)) number) (eqb (number_field (b ∷ s)) number) head.size head.whole
    (within number (length_field (b ∷ s) - 1) (at + 1) (number_field (b ∷ s) + 1) s (omega (arith, head.whole)) (sym (simp fine) ∙ g))
  where
    go :
        (p q : Bool) → head_bytes ≤ length_field (b ∷ s) → length_field (b ∷ s) ≤ length (b ∷ s) →
        Within (place_from number (length_field (b ∷ s) - 1) (at + 1) s) (at + 1 + length s) →
        Within
        (pick p (place_from number (length_field (b ∷ s) - 1) (at + 1) s) (pick q (Ok (record { at = at; size = length_field (b ∷ s) })) (Err at)))
        (at + length (b ∷ s))
    go true q k l w = record { ends = omega (arith, w.ends); whole = w.whole }
    go false true k l w = record { ends = omega arith; whole = k }
    go false false k l w = record { ends = omega arith; whole = tt }

-- of a place that a callee told of a good book
module _ (book : List ℕ) (number : ℕ) (p : Result Place ℕ) (g : book_told book ≡ Ok tt) (e : p ≡ place_of book number) where
  lies : Within p (length book)
  lies =
      let w = within number 0 0 0 book (omega arith) g in
      subst (λ (q : Result Place ℕ). Within q (length book)) (sym e) (record { ends = omega (arith, w.ends); whole = w.whole })

  pub place_fits : (q : Place) → p ≡ Ok q → (head_bytes ≤ q.size) × (q.at + q.size ≤ length book)
  place_fits q h = let w = subst (λ (q : Result Place ℕ). Within q (length book)) h lies in (w.whole, w.ends)

  pub place_starts : place_at p ≤ length book
  place_starts = omega (arith, lies.ends)

  -- it is there, or not
  pub is_there_by : (q : Place) → p ≡ Ok q → is_there (place_of book number) ≡ true
  is_there_by q h =
      let f = (place_fits q h).0 in
      let z : place_of book number ≡ Ok q = sym e ∙ h in simp z (lt-ltb 0 q.size (omega arith))

  pub is_not_there : (at : ℕ) → p ≡ Err at → is_there (place_of book number) ≡ false
  is_not_there at h = let z : place_of book number ≡ Err at = sym e ∙ h in simp z

-- two good books, by the place of the number in each
module _ (line factory : List ℕ) (number : ℕ) (p : Result Place ℕ) (g : book_told line ≡ Ok tt) (e : p ≡ place_of line number) where
  pub from_line : (q : Place) (f : Search) → p ≡ Ok q → f ≡ found_in Line q.at q.size → f ≡ in_books line factory number
  from_line q f h r =
      let z : found_at Line (place_of line number) ≡ found_at Line (Ok q) = ap (found_at Line) (sym e ∙ h) in
      r ∙ sym z ∙ simp (is_there_by line number p g e q h)

  module _ (at : ℕ) (h : p ≡ Err at) (q : Result Place ℕ) (k : book_told factory ≡ Ok tt) (d : q ≡ place_of factory number) where
    pub from_factory : (j : Place) (f : Search) → q ≡ Ok j → f ≡ found_in Factory j.at j.size → f ≡ in_books line factory number
    from_factory j f l r =
        let z : found_at Factory (place_of factory number) ≡ found_at Factory (Ok j) = ap (found_at Factory) (sym d ∙ l) in
        r ∙ sym z ∙ simp (is_not_there line number p g e at h, is_there_by factory number q k d j l)

    pub from_none : (to : ℕ) (f : Search) → q ≡ Err to → f ≡ nowhere None NotThere → f ≡ in_books line factory number
    from_none to f l r = r ∙ simp (is_not_there line number p g e at h, is_not_there factory number q k d to l)

-- what is found lies in its book
record Lies (line factory : List ℕ) (f : Search) : Type 0 where
  in_line : (which_of f ≡ 2 → ⊥) → from_of f + length_of f ≤ length line
  in_factory : which_of f ≡ 2 → from_of f + length_of f ≤ length factory

nowhere_lies : (line factory : List ℕ) (book : Option Book) (r : Refusal) → Lies line factory (nowhere book r)
nowhere_lies line factory book r = record { in_line = λ h. omega arith; in_factory = λ h. omega arith }

in_books_lie :
    (line factory : List ℕ) (number : ℕ) → book_told line ≡ Ok tt → book_told factory ≡ Ok tt →
    Lies line factory (in_books line factory number)
in_books_lie line factory number g k =
    go (ltb 0 (place_size (place_of line number))) (ltb 0 (place_size (place_of factory number))) refl refl
    (within number 0 0 0 line (omega arith) g) (within number 0 0 0 factory (omega arith) k)
  where
    go :
        (a b : Bool) → ltb 0 (place_size (place_of line number)) ≡ a → ltb 0 (place_size (place_of factory number)) ≡ b →
        Within (place_of line number) (0 + length line) → Within (place_of factory number) (0 + length factory) →
        Lies line factory
        (pick a (found_at Line (place_of line number)) (pick b (found_at Factory (place_of factory number)) (nowhere None NotThere)))
    go true b p q v w =
        let size = whole_size _ v.whole (ltb-true 0 (place_size (place_of line number)) p) in
        record { in_line = λ h. omega (arith, v.ends); in_factory = λ h. absurd (omega arith) }
    go false true p q v w =
        let size = whole_size _ w.whole (ltb-true 0 (place_size (place_of factory number)) q) in
        record { in_line = λ h. absurd (h refl); in_factory = λ h. omega (arith, w.ends) }
    go false false p q v w = nowhere_lies line factory None NotThere

find_lies : (line factory : List ℕ) (number : ℕ) → Lies line factory (find_of line factory number)
unfolding find_of
find_lies line factory number = go (book_told line) (book_told factory) refl refl
  where
    go :
        (t u : Told) → book_told line ≡ t → book_told factory ≡ u →
        Lies line factory (on_told t (on_told u (in_books line factory number) (nowhere (Some Factory))) (nowhere (Some Line)))
    go (Ok _) (Ok _) p q = in_books_lie line factory number p q
    go (Ok _) (Err r) p q = nowhere_lies line factory (Some Factory) r
    go (Err r) u p q = nowhere_lies line factory (Some Line) r

-- so what is found is below any bound of the two books' lengths
pub found_fits :
    (line factory : List ℕ) (number n : ℕ) → length line < n → length factory < n →
    from_of (find_of line factory number) + length_of (find_of line factory number) < n
found_fits line factory number n h k = go (eqb (which_of (find_of line factory number)) 2) refl
  where
    lie : Lies line factory (find_of line factory number)
    lie = find_lies line factory number

    go :
        (b : Bool) → eqb (which_of (find_of line factory number)) 2 ≡ b →
        from_of (find_of line factory number) + length_of (find_of line factory number) < n
    go true q = let z = lie.in_factory (eqb-true (which_of (find_of line factory number)) 2 q) in omega arith
    go false q = let z = lie.in_line (eqb-false (which_of (find_of line factory number)) 2 q) in omega arith

-- of what a callee found
module _ (line factory : List ℕ) (number : ℕ) (x : Search) (e : x ≡ find_of line factory number) where
  module _ (f : Found) (h : x ≡ Ok f) where
    is_found : find_of line factory number ≡ Ok f
    is_found = sym e ∙ h

    lie : Lies line factory (Ok f)
    lie = subst (Lies line factory) is_found (find_lies line factory number)

    span : f.from + f.length - f.from ≡ f.length
    span = omega arith

    -- in the line book: it lies there, it is the part that is handed back, and stands where that does
    module _ (k : f.book ≡ Line) where
      pub line_fits : f.from + f.length ≤ length line
      line_fits = let n = ap book_number k in lie.in_line (λ w. absurd (omega arith))

      pub line_part : take (f.from + f.length - f.from) (drop f.from line) ≡ lookup_of line factory number
      unfolding lookup_of
      line_part = ap (λ (n : ℕ). take n (drop f.from line)) span ∙ simp (is_found, k)

      pub line_stands : (a b : ℕ × ℕ) → further a f.from ≡ lookup_at line factory number a b
      unfolding lookup_at
      line_stands a b = simp (is_found, k)

    -- in the factory book
    module _ (k : f.book ≡ Factory) where
      pub factory_fits : f.from + f.length ≤ length factory
      factory_fits = lie.in_factory (ap book_number k)

      pub factory_part : take (f.from + f.length - f.from) (drop f.from factory) ≡ lookup_of line factory number
      unfolding lookup_of
      factory_part = ap (λ (n : ℕ). take n (drop f.from factory)) span ∙ simp (is_found, k)

      pub factory_stands : (a b : ℕ × ℕ) → further b f.from ≡ lookup_at line factory number a b
      unfolding lookup_at
      factory_stands a b = simp (is_found, k)

  -- nothing is found: an empty part
  module _ (n : NotFound) (h : x ≡ Err n) where
    is_not_found : find_of line factory number ≡ Err n
    is_not_found = sym e ∙ h

    pub empty_part : (s : List ℕ) → take 0 (drop 0 s) ≡ lookup_of line factory number
    unfolding lookup_of
    empty_part s = simp is_not_found

    -- which stands at the front of the factory book where that is malformed, else of the line book
    pub empty_factory : (a b : ℕ × ℕ) → n.book ≡ Some Factory → further b 0 ≡ lookup_at line factory number a b
    unfolding lookup_at
    empty_factory a b k = simp (is_not_found, k)

    pub empty_line : (a b : ℕ × ℕ) → n.book ≡ Some Line → further a 0 ≡ lookup_at line factory number a b
    unfolding lookup_at
    empty_line a b k = simp (is_not_found, k)

    pub empty_none : (a b : ℕ × ℕ) → n.book ≡ None → further a 0 ≡ lookup_at line factory number a b
    unfolding lookup_at
    empty_none a b k = simp (is_not_found, k)

-- a bad entry begins inside its book
bad_inside : (n at low : ℕ) (s : List ℕ) (r : Refusal) → book_from n at low s ≡ Err r → refusal_place r < at + length s
unfolding book_from refusal_place
bad_inside n at low [] r h = let z : ◌≡◌ {A = ℕ} 0 1 = cc in absurd (omega arith)
bad_inside (suc n) at low (b ∷ s) r h = let z = bad_inside n (at + 1) low s r h in omega arith
bad_inside zero at low (b ∷ s) r h =
    go (bad_entry low (b ∷ s)) h (λ k. bad_inside (length_field (b ∷ s) - 1) (at + 1) (number_field (b ∷ s) + 1) s r k)
  where
    go :
        (q : Bool) →
        pick q (Err (Malformed at)) (book_from (length_field (b ∷ s) - 1) (at + 1) (number_field (b ∷ s) + 1) s) ≡ Err r →
        (book_from (length_field (b ∷ s) - 1) (at + 1) (number_field (b ∷ s) + 1) s ≡ Err r → refusal_place r < at + 1 + length s) →
        refusal_place r < at + length (b ∷ s)
    go true k f = let y : refusal_place r ≡ at = ap refusal_place (sym (let q : Malformed at ≡ r = cc in q)) in omega arith
    go false k f = let z = f k in omega arith

-- so what a search tells stays below any bound of the two books' lengths
pub found_small :
    (line factory : List ℕ) (number n : ℕ) → length line < n → length factory < n →
    (from_of (find_of line factory number) + length_of (find_of line factory number) < n) ×
    ((r : Refusal) → told_of (find_of line factory number) ≡ Err r → refusal_place r < n)
unfolding find_of refusal_place
found_small line factory number n h k =
    (found_fits line factory number n h k, λ r e. go (book_told line) (book_told factory) refl refl r e)
  where
    in_both :
        (a b : Bool) (p q : Result Place ℕ) (r : Refusal) →
        told_of (pick a (found_at Line p) (pick b (found_at Factory q) (nowhere None NotThere))) ≡ Err r → refusal_place r < n
    in_both true b p q r e = let z : ◌≡◌ {A = ℕ} 0 1 = cc in absurd (omega arith)
    in_both false true p q r e = let z : ◌≡◌ {A = ℕ} 0 1 = cc in absurd (omega arith)
    in_both false false p q r e = let y : refusal_place r ≡ 0 = ap refusal_place (sym (let q : NotThere ≡ r = cc in q)) in omega arith

    go :
        (t u : Told) → book_told line ≡ t → book_told factory ≡ u → (r : Refusal) →
        told_of (on_told t (on_told u (in_books line factory number) (nowhere (Some Factory))) (nowhere (Some Line))) ≡ Err r → refusal_place r < n
    go (Ok _) (Ok _) p q r e =
        in_both (ltb 0 (place_size (place_of line number))) (ltb 0 (place_size (place_of factory number))) (place_of line number) (place_of factory number) r e
    go (Ok _) (Err x) p q r e =
        let y : x ≡ r = cc in let z = bad_inside 0 0 0 factory r (q ∙ ap Err y) in omega arith
    go (Err x) u p q r e =
        let y : x ≡ r = cc in let z = bad_inside 0 0 0 line r (p ∙ ap Err y) in omega arith
