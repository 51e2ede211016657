-- What request 08 promises of lookups and of the writer, of books that are bytes.
mod Names
use Names.*
use Rattle.parts.specs.Told.{refusal_place}
use Rattle.records.specs.Bytes.{AllBytes}
use Rattle.records.specs.Job.{job_told}
use Rattle.book.specs.Formed.{formed_told}
use Rattle.book.specs.Book.{head_bytes, book_told, nowhere, told_of, which_of, from_of, length_of, find_of, lookup_of}
use Rattle.book.specs.Add.{last_number, entry_bytes, add_told, added_bytes, add_left}

-- a good book holds a job under a number: its entry stands there, after whole entries
pub record Holds (book : List ℕ) (number : ℕ) (rec : List ℕ) : Type 0 where
  pub front : List ℕ
  pub rest : List ℕ
  pub is : book ≡ front ++ (entry_bytes number rec ++ rest)
  pub entries : book_told front ≡ Ok tt
  -- without this, rec could run on 65,536 bytes past the job: its length field would say the same
  pub fits : head_bytes + length rec < 65536

abbrev pub HasNot : List ℕ → ℕ → Type 0
HasNot book number = (rec : List ℕ) → Holds book number rec → ⊥

-- "Looking up a number hands back the job record as it stands inside whichever book has it, the line book first. Prove which bytes the
-- returned part is and that "not there" is said exactly when neither holds the number."
pub record LooksUp (line factory : List ℕ) (number : ℕ) : Type 0 where
  pub book : told_of (find_of line factory number) ≡ Ok tt →
      (which_of (find_of line factory number) ≡ 1) ⊎ (which_of (find_of line factory number) ≡ 2)
  pub in_line :
      told_of (find_of line factory number) ≡ Ok tt → which_of (find_of line factory number) ≡ 1 →
      Holds line number (lookup_of line factory number)
  pub in_factory :
      told_of (find_of line factory number) ≡ Ok tt → which_of (find_of line factory number) ≡ 2 →
      Holds factory number (lookup_of line factory number) × HasNot line number
  pub not_there :
      told_of (find_of line factory number) ≡ Err NotThere →
      (book_told line ≡ Ok tt) × (book_told factory ≡ Ok tt) × HasNot line number × HasNot factory number
  pub only_then :
      book_told line ≡ Ok tt → book_told factory ≡ Ok tt → HasNot line number → HasNot factory number →
      told_of (find_of line factory number) ≡ Err NotThere
  -- "A refused lookup hands back an empty part", and no other does
  pub empty : (r : Refusal) → told_of (find_of line factory number) ≡ Err r → lookup_of line factory number ≡ []
  pub full : told_of (find_of line factory number) ≡ Ok tt → 0 < length (lookup_of line factory number)
  pub formed : told_of (find_of line factory number) ≡ Ok tt → formed_told (lookup_of line factory number) ≡ Ok tt

-- "A book is checked whole .. before any lookup"; 18 with "the offset of the first bad entry", of the line book before the factory book, and
-- "A call that tells why also tells which book"; what is held is found
pub record Told (line factory : List ℕ) (number : ℕ) : Type 0 where
  pub checked :
      told_of (find_of line factory number) ≡ Ok tt → (book_told line ≡ Ok tt) × (book_told factory ≡ Ok tt)
  pub bad_line : (r : Refusal) → book_told line ≡ Err r → find_of line factory number ≡ nowhere (Some Line) r
  pub bad_factory :
      (r : Refusal) → book_told line ≡ Ok tt → book_told factory ≡ Err r → find_of line factory number ≡ nowhere (Some Factory) r
  pub found_in_line :
      (rec : List ℕ) → book_told line ≡ Ok tt → book_told factory ≡ Ok tt → Holds line number rec →
      (told_of (find_of line factory number) ≡ Ok tt) × (which_of (find_of line factory number) ≡ 1) ×
      (lookup_of line factory number ≡ rec)
  pub found_in_factory :
      (rec : List ℕ) → book_told line ≡ Ok tt → book_told factory ≡ Ok tt → HasNot line number → Holds factory number rec →
      (told_of (find_of line factory number) ≡ Ok tt) × (which_of (find_of line factory number) ≡ 2) ×
      (lookup_of line factory number ≡ rec)

pub record Books : Type 0 where
  pub lookup :
      (line factory : List ℕ) (number : ℕ) → AllBytes line → AllBytes factory → LooksUp line factory number
  pub told : (line factory : List ℕ) (number : ℕ) → AllBytes line → AllBytes factory → Told line factory number
  -- what is told is below any bound of the books' lengths: C's 32 bits cut nothing of books below 4 GB
  pub small :
      (line factory : List ℕ) (number n : ℕ) → length line < n → length factory < n →
      (from_of (find_of line factory number) + length_of (find_of line factory number) < n) ×
      ((r : Refusal) → told_of (find_of line factory number) ≡ Err r → refusal_place r < n)
  -- of a book's job begin's rows 5 to 7 accept, and 8 may refuse
  pub begins :
      (rec : List ℕ) (l : ℕ) (guards : List ℕ) → formed_told rec ≡ Ok tt →
      (job_told rec l guards ≡ Ok tt) ⊎ ((p : ℕ) × (job_told rec l guards ≡ Err (Guard p)))
  -- "numbers strictly rise": a number names one job
  pub one :
      (book : List ℕ) (number : ℕ) (a b : List ℕ) → AllBytes book → book_told book ≡ Ok tt →
      Holds book number a → Holds book number b → a ≡ b

-- "write a book, with one new numbered job in its place": what is written is a book, it holds the new job and the old ones, and no other
pub record AddsTo (book : List ℕ) (number : ℕ) (rec : List ℕ) : Type 0 where
  pub good : book_told (added_bytes book number rec) ≡ Ok tt
  pub size : length (added_bytes book number rec) ≡ length book + (head_bytes + length rec)
  pub bytes : AllBytes (added_bytes book number rec)
  pub added : Holds (added_bytes book number rec) number rec
  pub kept : (n : ℕ) (job : List ℕ) → Holds book n job → Holds (added_bytes book number rec) n job
  pub only :
      (n : ℕ) (job : List ℕ) → Holds (added_bytes book number rec) n job → Holds book n job ⊎ ((n ≡ number) × (job ≡ rec))

-- "to the front of a lent buffer ..; later bytes stay"; a refusal alters nothing; where the book, the number and the job are good, 20 where the
-- book holds the number, else 13 where there is no room, else it is written
pub record Leaves (book : List ℕ) (number : ℕ) (rec buf : List ℕ) : Type 0 where
  pub written :
      add_told book number rec (length buf) ≡ Ok tt →
      add_left book number rec buf ≡ added_bytes book number rec ++ drop (length (added_bytes book number rec)) buf
  pub nothing : (r : Refusal) → add_told book number rec (length buf) ≡ Err r → add_left book number rec buf ≡ buf
  pub present :
      (job : List ℕ) → book_told book ≡ Ok tt → number ≤ last_number → formed_told rec ≡ Ok tt → Holds book number job →
      add_told book number rec (length buf) ≡ Err Present
  pub short :
      book_told book ≡ Ok tt → number ≤ last_number → formed_told rec ≡ Ok tt → HasNot book number →
      length buf < length book + (head_bytes + length rec) → add_told book number rec (length buf) ≡ Err Buffer
  pub room :
      book_told book ≡ Ok tt → number ≤ last_number → formed_told rec ≡ Ok tt → HasNot book number →
      length book + (head_bytes + length rec) ≤ length buf → add_told book number rec (length buf) ≡ Ok tt

pub record Writes : Type 0 where
  pub adds :
      (book : List ℕ) (number : ℕ) (rec : List ℕ) (room : ℕ) → AllBytes book → AllBytes rec →
      add_told book number rec room ≡ Ok tt → AddsTo book number rec
  pub leaves :
      (book : List ℕ) (number : ℕ) (rec buf : List ℕ) → AllBytes book → AllBytes rec → Leaves book number rec buf
