-- "write a book, with one new numbered job in its place": the entries that are written are the old ones with the new one among them.
use Rattle.std.specs.Prelude.{Ok}
use Prim.Native.Nat.{ℕ, zero, suc, ◌+◌, ◌≤◌}
use native.Mathlib.Omega.{arith}
use mathlib.Core.List.{List, [], ◌∷◌, ◌++◌}
use mathlib.Core.Logic.{◌⊎◌, inl, inr}
use mathlib.Core.Path.{◌≡◌, refl, ◌∙◌, sym, ap, subst}
use lib.Dec.{ltb}
use lib.ListN.{length, take, drop, length-append, take-append-drop}
use lib.Seq.{take_at, drop_at}
use borrow.Author.Tests.{ltb-false}
use Rattle.parts.specs.Told.{refuse_if}
use Rattle.parts.specs.declared.Refusal.TheVariants.{NotThere, Present}
use Rattle.parts.proofs.Order.{first_all, row_passes}
use Rattle.records.specs.Bytes.{AllBytes}
use Rattle.book.specs.Formed.{formed_told}
use Rattle.book.specs.Book.{head_bytes, book_told, place_of, place_at, place_size}
use Rattle.book.specs.Add.{last_number, entry_bytes, job_order, add_told, added_bytes}
use Rattle.book.specs.Books.{Holds, AddsTo}
use Rattle.book.proofs.Theory.Entries.{Entry, book_bytes, Rises, Has, bytes_append}
use Rattle.book.proofs.Theory.Reading.{Read, read, rises_good, bytes_before, bytes_after}
use Rattle.book.proofs.Theory.Holding.{holds_has, has_holds}
use Rattle.book.proofs.Theory.Placing.{Below, Here, Placed, has_append, has_first, has_last}
use Rattle.book.proofs.Theory.Seeking.{place_in}

-- entries still rise with one more among them, past those below it
rises_with :
    (low : ℕ) (lo hi : List Entry) (e : Entry) (size : ℕ) → Rises low (lo ++ hi) → Below e.number lo → Here e.number hi size →
    size ≡ 0 → low ≤ e.number → formed_told e.job ≡ Ok tt → Rises low (lo ++ e ∷ hi)
unfolding Rises Below Here
rises_with low [] [] e size h u k z l f = (l, f, record {})
rises_with low [] (g ∷ hi) e size h u (inl (a, b)) z l f = absurd (omega arith)
rises_with low [] (g ∷ hi) e size (d, i, h) u (inr (a, b)) z l f = (l, f, (omega arith, i, h))
rises_with low (g ∷ lo) hi e size (d, i, h) (a, u) k z l f = (d, i, rises_with (g.number + 1) lo hi e size h u k z (omega arith) f)

-- bytes of two lists; of an entry
bytes_both : (a t : List ℕ) → AllBytes a → AllBytes t → AllBytes (a ++ t)
bytes_both [] t h k j = k j
bytes_both (x ∷ a) t h k zero = h zero
bytes_both (x ∷ a) t h k (suc j) = bytes_both a t (λ i. h (suc i)) k j

entry_bytes_lem : (n : ℕ) (rec : List ℕ) → n ≤ last_number → AllBytes rec → AllBytes (entry_bytes n rec)
entry_bytes_lem n rec l b zero = omega arith
entry_bytes_lem n rec l b (suc zero) = omega arith
entry_bytes_lem n rec l b (suc (suc zero)) = omega arith
entry_bytes_lem n rec l b (suc (suc (suc zero))) = omega arith
entry_bytes_lem n rec l b (suc (suc (suc (suc zero)))) = omega arith
entry_bytes_lem n rec l b (suc (suc (suc (suc (suc zero))))) = omega arith
entry_bytes_lem n rec l b (suc (suc (suc (suc (suc (suc k)))))) = b k

-- a job that is written to a good book, which has no such number
module _
    (book : List ℕ) (number : ℕ) (rec : List ℕ) (b : AllBytes book) (c : AllBytes rec) (r : Read 0 book) (most : number ≤ last_number)
    (formed : formed_told rec ≡ Ok tt) (free : (place_size (place_of book number)) ≡ 0) where
  -- where the number belongs among the entries; its entry; and the entries with it
  place : Placed number 0 r.entries (place_of book number)
  place = place_in book number r

  abbrev new : Entry
  new = record { number = number; job = rec }

  abbrev after : List Entry
  after = place.lo ++ new ∷ place.hi

  -- the old entries rise, on both sides of the place, and so do those with the new one
  old_rise : Rises 0 (place.lo ++ place.hi)
  old_rise = subst (λ (l : List Entry). Rises 0 l) place.is r.rise

  rise : Rises 0 after
  rise = rises_with 0 place.lo place.hi new (place_size (place_of book number)) old_rise place.under place.here free (omega arith) formed

  -- the old book is the bytes of those before the place and of those after it
  halved : book ≡ book_bytes place.lo ++ book_bytes place.hi
  halved = r.are ∙ ap book_bytes place.is ∙ bytes_append place.lo place.hi

  -- what is written
  written : added_bytes book number rec ≡ book_bytes after
  unfolding added_bytes book_bytes
  written =
      let at = (place_at (place_of book number)) in
      let n : length (book_bytes place.lo) ≡ at = omega (arith, place.place) in
      let front = ap (take at) halved ∙ take_at (book_bytes place.lo) (book_bytes place.hi) at n in
      let back = ap (drop at) halved ∙ drop_at (book_bytes place.lo) (book_bytes place.hi) at n in
      ap (λ (s : List ℕ). s ++ (entry_bytes number rec ++ drop at book)) front ∙
      ap (λ (s : List ℕ). book_bytes place.lo ++ (entry_bytes number rec ++ s)) back ∙ sym (bytes_append place.lo (new ∷ place.hi))

  -- it is longer by the new entry
  size : length (added_bytes book number rec) ≡ length book + (head_bytes + length rec)
  unfolding added_bytes
  size =
      let at = (place_at (place_of book number)) in
      let whole = sym (length-append (take at book) (drop at book)) ∙ ap length (take-append-drop at book) in
      omega (
        arith,
        whole,
        length-append (take at book) (entry_bytes number rec ++ drop at book),
        length-append rec (drop at book),
      )

  -- it is made of bytes
  bytes : AllBytes (added_bytes book number rec)
  unfolding added_bytes
  bytes =
      let at = (place_at (place_of book number)) in
      let h = subst (λ (s : List ℕ). AllBytes s) (sym (take-append-drop at book)) b in
      bytes_both (take at book) (entry_bytes number rec ++ drop at book) (bytes_before (take at book) (drop at book) h)
      (bytes_both (entry_bytes number rec) (drop at book) (entry_bytes_lem number rec most c) (bytes_after (take at book) (drop at book) h))

  -- the new book holds what stands among the new entries
  has_then : (n : ℕ) (job : List ℕ) → Has n job after → Holds (added_bytes book number rec) n job
  has_then n job h = subst (λ (s : List ℕ). Holds s n job) (sym written) (has_holds n job after rise h)

  -- the jobs of the old book are there still
  kept_at :
      (n : ℕ) (job : List ℕ) → Has n job place.lo ⊎ Has n job place.hi → Holds (added_bytes book number rec) n job
  unfolding Has
  kept_at n job (inl h) = has_then n job (has_first n job place.lo (new ∷ place.hi) h)
  kept_at n job (inr h) = has_then n job (has_last n job place.lo (new ∷ place.hi) (inr h))

  kept : (n : ℕ) (job : List ℕ) → Holds book n job → Holds (added_bytes book number rec) n job
  kept n job h =
      kept_at n job
      (has_append n job place.lo place.hi (subst (λ (l : List Entry). Has n job l) place.is (holds_has book r n job b h)))

  -- the old book held what stands among the old entries
  had : (n : ℕ) (job : List ℕ) → Has n job (place.lo ++ place.hi) → Holds book n job
  had n job h =
      subst (λ (s : List ℕ). Holds s n job) (sym r.are)
      (has_holds n job r.entries r.rise (subst (λ (l : List Entry). Has n job l) (sym place.is) h))

  -- and no job came but the new one
  only_at :
      (n : ℕ) (job : List ℕ) → Has n job place.lo ⊎ Has n job (new ∷ place.hi) →
      Holds book n job ⊎ ((n ≡ number) × (job ≡ rec))
  unfolding Has
  only_at n job (inl h) = inl (had n job (has_first n job place.lo place.hi h))
  only_at n job (inr (inl (p, q))) = inr (sym p, sym q)
  only_at n job (inr (inr h)) = inl (had n job (has_last n job place.lo place.hi h))

  only : (n : ℕ) (job : List ℕ) → Holds (added_bytes book number rec) n job → Holds book n job ⊎ ((n ≡ number) × (job ≡ rec))
  only n job h =
      only_at n job
      (has_append n job place.lo (new ∷ place.hi)
      (holds_has (added_bytes book number rec) (record { entries = after; are = written; rise = rise }) n job bytes h))

  -- all that is promised of the writer
  adds_to : AddsTo book number rec
  unfolding Has
  adds_to = record {
    good = ap (λ (s : List ℕ). book_told s) written ∙ rises_good 0 0 after rise;
    size = size;
    bytes = bytes;
    added = has_then number rec (has_last number rec place.lo (new ∷ place.hi) (inl (refl, refl)));
    kept = kept;
    only = only;
  }

-- where the writer accepts: the book was good, the number is none of its own, the job has its form
pub adds :
    (book : List ℕ) (number : ℕ) (rec : List ℕ) (room : ℕ) → AllBytes book → AllBytes rec →
    add_told book number rec room ≡ Ok tt → AddsTo book number rec
unfolding add_told
adds book number rec room b c h =
    let row = first_all (book_told book ∷ refuse_if (ltb last_number number) NotThere ∷ job_order book number rec room) h in
    let free = ltb-false 0 (place_size (place_of book number)) (row_passes _ Present (row 3)) in
    adds_to book number rec b c (read book b (row 0)) (ltb-false last_number number (row_passes _ NotThere (row 1))) (row 2) (omega arith)
