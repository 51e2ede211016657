-- The place of a number among entries: past those below it, at the one that has it, if there is one.
use Prim.Native.Nat.{ℕ, ◌+◌, ◌<◌}
use native.Mathlib.Omega.{arith}
use mathlib.Core.Bool.{Bool, true, false}
use mathlib.Core.List.{List, [], ◌∷◌, ◌++◌}
use mathlib.Core.Logic.{◌⊎◌, inl, inr}
use mathlib.Core.Path.{◌≡◌, refl, sym, ap, subst}
use lib.Dec.{eqb, ltb}
use lib.ListN.{length, length-append}
use borrow.Author.Tests.{ltb-true, ltb-false, eqb-true, eqb-false}
use Rattle.std.specs.Prelude.{Result, Ok, Err}
use Rattle.book.specs.Book.{head_bytes, place_from, place_at, place_size}
use Rattle.book.specs.declared.Place.{Place}
use Rattle.book.proofs.Theory.Entries.{Entry, entry_of, book_bytes, Rises, Has}
use Rattle.book.proofs.Theory.Holding.{has_low}
use Rattle.book.proofs.Theory.Passing.{place_above, place_own, place_below}

-- all numbers are below one
unfoldable pub Below : ℕ → List Entry → Type 0
Below number [] = Unit {0}
Below number (e ∷ es) = (e.number < number) × Below number es

-- the first entry has the number, and is so many bytes long; or it is above it, or there is none
unfoldable pub Here : ℕ → List Entry → ℕ → Type 0
Here number [] size = size ≡ 0
Here number (e ∷ es) size =
    ((e.number ≡ number) × (size ≡ head_bytes + length e.job)) ⊎ ((number < e.number) × (size ≡ 0))

-- a place among entries: those before it are below the number, and the first after them is not
pub record Placed (number at : ℕ) (es : List Entry) (p : Result Place ℕ) : Type 0 where
  pub lo : List Entry
  pub hi : List Entry
  pub is : es ≡ lo ++ hi
  pub under : Below number lo
  pub place : place_at p ≡ at + length (book_bytes lo)
  pub here : Here number hi (place_size p)

-- the place that the search tells is that one
pub placed :
    (number at low : ℕ) (es : List Entry) → Rises low es → Placed number at es (place_from number 0 at (book_bytes es))
unfolding Rises book_bytes place_from Below Here
placed number at low [] h =
    record { lo = []; hi = []; is = refl; under = record {}; place = omega arith; here = refl }
placed number at low (e ∷ es) (l, f, h) =
    go (ltb e.number number) (eqb e.number number) refl refl (placed number (at + (head_bytes + length e.job)) (e.number + 1) es h)
  where
    stop : (p : Result Place ℕ) → place_at p ≡ at → Here number (e ∷ es) (place_size p) → Placed number at (e ∷ es) p
    stop p q k = record { lo = []; hi = e ∷ es; is = refl; under = record {}; place = omega (arith, q); here = k }

    go :
        (a b : Bool) → ltb e.number number ≡ a → eqb e.number number ≡ b →
        Placed number (at + (head_bytes + length e.job)) es (place_from number 0 (at + (head_bytes + length e.job)) (book_bytes es)) →
        Placed number at (e ∷ es) (place_from number 0 at (entry_of e ++ book_bytes es))
    go true b p q r =
        let k = ltb-true e.number number p in
        subst (λ (x : Result Place ℕ). Placed number at (e ∷ es) x)
        (sym (place_above e.number e.job (book_bytes es) f at number k))
        (record {
          lo = e ∷ r.lo;
          hi = r.hi;
          is = ap (λ (l : List Entry). e ∷ l) r.is;
          under = (k, r.under);
          place = omega (arith, r.place, length-append e.job (book_bytes r.lo));
          here = r.here;
        })
    go false true p q r =
        let k = eqb-true e.number number q in
        subst (λ (x : Result Place ℕ). Placed number at (e ∷ es) x)
        (sym (place_own e.number e.job (book_bytes es) f at number k))
        (stop (Ok (record { at = at; size = head_bytes + length e.job })) refl (inl (k, refl)))
    go false false p q r =
        let k = ltb-false e.number number p in
        let n = eqb-false e.number number q in
        let m : number < e.number = omega arith in
        subst (λ (x : Result Place ℕ). Placed number at (e ∷ es) x)
        (sym (place_below e.number e.job (book_bytes es) f at number m))
        (stop (Err at) refl (inr (m, refl)))

-- a job stands in the first entries, or in those after them; and the other way
pub has_append : (n : ℕ) (rec : List ℕ) (lo hi : List Entry) → Has n rec (lo ++ hi) → Has n rec lo ⊎ Has n rec hi
unfolding Has
has_append n rec [] hi h = inr h
has_append n rec (e ∷ lo) hi (inl h) = inl (inl h)
has_append n rec (e ∷ lo) hi (inr h) = go (has_append n rec lo hi h)
  where
    go : Has n rec lo ⊎ Has n rec hi → Has n rec (e ∷ lo) ⊎ Has n rec hi
    go (inl k) = inl (inr k)
    go (inr k) = inr k

-- what stands in the first entries, or in the last, stands in all
pub has_first : (n : ℕ) (rec : List ℕ) (lo hi : List Entry) → Has n rec lo → Has n rec (lo ++ hi)
unfolding Has
has_first n rec [] hi h = absurd h
has_first n rec (e ∷ lo) hi (inl h) = inl h
has_first n rec (e ∷ lo) hi (inr h) = inr (has_first n rec lo hi h)

pub has_last : (n : ℕ) (rec : List ℕ) (lo hi : List Entry) → Has n rec hi → Has n rec (lo ++ hi)
unfolding Has
has_last n rec [] hi h = h
has_last n rec (e ∷ lo) hi h = inr (has_last n rec lo hi h)

-- numbers that are all below one
pub has_below : (number n : ℕ) (rec : List ℕ) (es : List Entry) → Below number es → Has n rec es → n < number
unfolding Has Below
has_below number n rec [] h k = absurd k
has_below number n rec (e ∷ es) (l, h) (inl (a, b)) = omega arith
has_below number n rec (e ∷ es) (l, h) (inr k) = has_below number n rec es h k

-- the last of entries that rise
pub rises_rest : (low : ℕ) (lo hi : List Entry) → Rises low (lo ++ hi) → (next : ℕ) × Rises next hi
unfolding Rises
rises_rest low [] hi h = (low, h)
rises_rest low (e ∷ lo) hi (l, f, h) = rises_rest (e.number + 1) lo hi h

-- no size: the number stands nowhere
pub none_here :
    (number low size : ℕ) (rec : List ℕ) (hi : List Entry) → Rises low hi → Here number hi size → size ≡ 0 → Has number rec hi → ⊥
unfolding Rises Here Has
none_here number low size rec [] h k z m = m
none_here number low size rec (e ∷ hi) h (inl (a, b)) z m = absurd (omega arith)
none_here number low size rec (e ∷ hi) (l, f, h) (inr (a, b)) z (inl (c, d)) = absurd (omega arith)
none_here number low size rec (e ∷ hi) (l, f, h) (inr (a, b)) z (inr m) =
    let r = has_low (e.number + 1) number rec hi h m in absurd (omega arith)

-- and nowhere in the whole book
pub none_there :
    (number low size : ℕ) (rec : List ℕ) (lo hi : List Entry) → Rises low (lo ++ hi) → Below number lo → Here number hi size →
    size ≡ 0 → Has number rec (lo ++ hi) → ⊥
none_there number low size rec lo hi h u k z m = go (has_append number rec lo hi m)
  where
    go : Has number rec lo ⊎ Has number rec hi → ⊥
    go (inl a) = let r = has_below number number rec lo u a in absurd (omega arith)
    go (inr a) = let r = rises_rest low lo hi h in none_here number r.0 size rec hi r.1 k z a
