-- What the writer tells where the book, the number and the job are good, and what it leaves in the buffer.
use Rattle.std.specs.Prelude.{Err, Ok}
use Prim.Native.Nat.{ℕ, ◌+◌, ◌≤◌, ◌<◌}
use native.Mathlib.Omega.{arith}
use mathlib.Core.Bool.{false}
use mathlib.Core.List.{List, ◌++◌}
use mathlib.Core.Path.{◌≡◌, refl, ◌∙◌, sym, ap}
use lib.ListN.{length, drop}
use borrow.Author.Tests.{lt-ltb, le-ltb}
use Rattle.parts.specs.declared.Refusal.{Refusal}
use Rattle.parts.specs.declared.Refusal.TheVariants.{Present, Buffer}
use Rattle.parts.proofs.Lay.{lay_is}
use Rattle.records.specs.Bytes.{AllBytes}
use Rattle.book.specs.Formed.{formed_told}
use Rattle.book.specs.Book.{head_bytes, book_told, place_of, is_there}
use Rattle.book.specs.Add.{last_number, add_told, added_bytes, add_left}
use Rattle.book.specs.Books.{Holds, HasNot, Leaves}
use Rattle.book.proofs.Adds.{adds_by}
use Rattle.book.proofs.Theory.Adding.{adds}
use Rattle.book.proofs.Theory.Seeking.{Seek, there, gone, seek}

module _ (book : List ℕ) (number : ℕ) (rec buf : List ℕ) (b : AllBytes book) (c : AllBytes rec) where
  written :
      add_told book number rec (length buf) ≡ Ok tt →
      add_left book number rec buf ≡ added_bytes book number rec ++ drop (length (added_bytes book number rec)) buf
  unfolding add_left
  written h =
      let all = added_bytes book number rec in
      let n = (adds book number rec (length buf) b c h).size in
      let fits = (adds_by book number rec (length buf) (Ok tt) (sym h) refl).fits in
      let z : 0 + length all ≡ length all = omega arith in
      simp h (lay_is 0 all buf (omega arith) ∙ ap (λ (k : ℕ). all ++ drop k buf) z)

  nothing : (r : Refusal) → add_told book number rec (length buf) ≡ Err r → add_left book number rec buf ≡ buf
  unfolding add_left
  nothing r h = simp h

  -- the book, the number and the job are good
  module _ (g : book_told book ≡ Ok tt) (k : number ≤ last_number) (f : formed_told rec ≡ Ok tt) where
    present : (job : List ℕ) → Holds book number job → add_told book number rec (length buf) ≡ Err Present
    unfolding add_told
    present job h = go (seek book number b g)
      where
        go : Seek book number → add_told book number rec (length buf) ≡ Err Present
        go (there job t p q r) = simp (g, le-ltb last_number number k, f, t)
        go (gone t n) = absurd (n job h)

    module _ (n : HasNot book number) where
      absent : is_there (place_of book number) ≡ false
      absent = go (seek book number b g)
        where
          go : Seek book number → is_there (place_of book number) ≡ false
          go (there job t p q r) = absurd (n job q)
          go (gone t m) = t

      short : length buf < length book + (head_bytes + length rec) → add_told book number rec (length buf) ≡ Err Buffer
      unfolding add_told
      short h = let t = absent in simp (g, le-ltb last_number number k, f, t, lt-ltb (length buf) (length book + (head_bytes + length rec)) h)

      room : length book + (head_bytes + length rec) ≤ length buf → add_told book number rec (length buf) ≡ Ok tt
      unfolding add_told
      room h = let t = absent in simp (g, le-ltb last_number number k, f, t, le-ltb (length buf) (length book + (head_bytes + length rec)) h)

pub leaves : (book : List ℕ) (number : ℕ) (rec buf : List ℕ) → AllBytes book → AllBytes rec → Leaves book number rec buf
leaves book number rec buf b c =
    record {
      written = written book number rec buf b c;
      nothing = nothing book number rec buf b c;
      present = λ job g k f h. present book number rec buf b c g k f job h;
      short = λ g k f n h. short book number rec buf b c g k f n h;
      room = λ g k f n h. room book number rec buf b c g k f n h;
    }
