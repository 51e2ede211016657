-- What the writer tells and writes, by what the callees told and wrote.
use Prim.Native.Nat.{ℕ, ◌+◌, ◌-◌, ◌/◌, ◌%◌, ◌≤◌}
use mathlib.Core.List.{List, [], ◌∷◌, ◌++◌}
use mathlib.Core.Path.{◌≡◌, ◌∙◌, sym, ap}
use native.Mathlib.Omega.{arith}
use lib.Dec.{ltb}
use lib.ListN.{length, take, drop}
use lib.Seq.{length-take-le}
use borrow.Author.Tests.{ltb-false}
use Rattle.parts.specs.Lay.{lay}
use Rattle.parts.specs.Told.{refuse_if}
use Rattle.parts.specs.declared.Refusal.TheVariants.{NotThere, Buffer}
use Rattle.parts.specs.Told.{Told}
use Rattle.parts.proofs.Lay.{length-lay, lay-append}
use Rattle.parts.proofs.Order.{first_all, row_passes}
use Rattle.records.proofs.Laws.{part_end}
use Rattle.book.specs.Book.{head_bytes, entry_kind, book_told, place_of, place_at}
use Rattle.book.specs.Add.{last_number, entry_bytes, with_entry, job_order, add_told, added_bytes}
use Rattle.book.specs.Inner.{Adds}
use Rattle.std.specs.Prelude.{Result, Ok}
use Rattle.book.proofs.Finds.{place_starts}
use Rattle.book.specs.declared.Place.{Place}
use Rattle.book.proofs.Turns.{part_length}

-- an entry, laid as its head and its job record
pub entry_laid :
    (at number : ℕ) (rec buf mid out : List ℕ) → number ≤ last_number →
    mid ≡
    lay at
    ((head_bytes + length rec) % 256 ∷ (head_bytes + length rec) / 256 % 256 ∷ entry_kind ∷ 0 ∷ number % 256 ∷ number / 256 % 256 ∷ []) buf →
    out ≡ lay (at + head_bytes) rec mid → out ≡ lay at (entry_bytes number rec) buf
entry_laid at number rec buf mid out h m o =
    let size = head_bytes + length rec in
    let head = size % 256 ∷ size / 256 % 256 ∷ entry_kind ∷ 0 ∷ number % 256 ∷ number / 256 ∷ [] in
    let z : number / 256 % 256 ≡ number / 256 = omega arith in
    o ∙ ap (lay (at + head_bytes) rec) (rw z at m) ∙ sym (lay-append at head rec buf)

-- the three parts of a book with an entry more, one after the other
pub book_laid :
    (book : List ℕ) (at number : ℕ) (rec buf first second out : List ℕ) → at ≤ length book →
    first ≡ lay 0 (take at book) buf → second ≡ lay at (entry_bytes number rec) first →
    out ≡ lay (at + (head_bytes + length rec)) (take (length book - at) (drop at book)) second →
    out ≡ lay 0 (with_entry book at number rec) buf
book_laid book at number rec buf first second out h f s o =
    let lo = take at book in
    let hi = drop at book in
    let new = entry_bytes number rec in
    let n : length lo ≡ at = length-take-le at book h in
    let all : lay 0 (lo ++ (new ++ hi)) buf ≡ lay (0 + length lo + length new) hi (lay (0 + length lo) new (lay 0 lo buf)) =
    lay-append 0 lo (new ++ hi) buf ∙ lay-append (0 + length lo) new hi (lay 0 lo buf) in
    let x : 0 + length lo ≡ at = omega arith in
    let y : 0 + length lo + length new ≡ at + (head_bytes + length rec) = omega arith in
    o ∙ simp (part_end at book, s, f) (sym (all ∙ (λ i. lay (y i) hi (lay (x i) new (lay 0 lo buf)))))

-- in the number's place
pub placed_by :
    (book : List ℕ) (number at : ℕ) (rec buf out : List ℕ) (p : Result Place ℕ) → p ≡ place_of book number → at ≡ place_at p →
    out ≡ lay 0 (with_entry book at number rec) buf → out ≡ lay 0 (added_bytes book number rec) buf
unfolding added_bytes
placed_by book number at rec buf out p e a o =
    o ∙ ap (λ (n : ℕ). lay 0 (with_entry book n number rec) buf) (a ∙ ap place_at e)

-- which lies in the book
pub placed_in :
    (book : List ℕ) (number at : ℕ) (p : Result Place ℕ) → book_told book ≡ Ok tt → p ≡ place_of book number → at ≡ place_at p →
    at ≤ length book
placed_in book number at p g e a = omega (arith, place_starts book number p g e)

-- the part before `at`
pub front_length : (at : ℕ) (book : List ℕ) → at ≤ length book → at ≡ length (take at book)
front_length at book h = sym (length-take-le at book h)

-- what was laid keeps the buffer's length: there is room for the entry, and for what comes after it
module _
    (book : List ℕ) (at : ℕ) (rec buf first xs : List ℕ) (h : at ≤ length book)
    (k : length book + (head_bytes + length rec) ≤ length buf) (e : first ≡ lay 0 xs buf) where
  pub entry_room : at + (head_bytes + length rec) ≤ length first
  entry_room = let z = ap length e ∙ length-lay 0 xs buf in omega arith

  pub rest_room :
      (second ys : List ℕ) → second ≡ lay at ys first →
      at + (head_bytes + length rec) + length (take (length book - at) (drop at book)) ≤ length second
  rest_room second ys d =
      let z : length first ≡ length buf = ap length e ∙ length-lay 0 xs buf in
      let y : length second ≡ length first = ap length d ∙ length-lay at ys first in
      simp (part_length at book) (omega arith)

-- where nothing is refused, every row accepts
pub adds_by :
    (book : List ℕ) (number : ℕ) (rec : List ℕ) (room : ℕ) (t : Told) → t ≡ add_told book number rec room → t ≡ Ok tt →
    Adds book number rec room
unfolding add_told
adds_by book number rec room t e h =
    let row =
    first_all (book_told book ∷ refuse_if (ltb last_number number) NotThere ∷ job_order book number rec room) (sym e ∙ h) in
    record {
      good = row 0;
      below = ltb-false last_number number (row_passes _ NotThere (row 1));
      formed = row 2;
      fits = ltb-false room (length book + (head_bytes + length rec)) (row_passes _ Buffer (row 4));
    }
