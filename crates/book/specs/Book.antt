-- Request 08: "A book is a slice of records of kind 5: a two-byte job number and then one whole job record; numbers strictly rise." As it
-- was decided: "An entry: bytes 0 and 1 its length (6 + the job record's length), 2 and 3 kind 5, 4 and 5 the job number, then the job
-- record. A book is entries end to end; no bytes at all is a book without jobs."
mod Names
use Names.*
use Rattle.parts.specs.Pick.{pick, ◌or◌, ◌isnt◌}
use Rattle.parts.specs.Told.{on_told}
use Rattle.records.specs.Bytes.{u16_of, length_field, kind_field}
use Rattle.book.specs.Formed.{formed_told}

abbrev pub entry_kind : ℕ
entry_kind = 5

-- the bytes of an entry before its job record
abbrev pub head_bytes : ℕ
head_bytes = 6

-- of the entry at the front of s: its number, and its job record
abbrev pub number_field : List ℕ → ℕ
number_field s = u16_of (get_or s 4 0) (get_or s 5 0)

abbrev pub job_part : List ℕ → List ℕ
job_part s = take (length_field s - head_bytes) (drop head_bytes s)

abbrev pub refuses : Told → Bool
refuses t = on_told t false (λ r. true)

-- "Any fault of an entry, its length, kind, number not above the one before it, or its job's 5, 6 or 7": of the entry at the front of s,
-- where `low` is the lowest number that may come
abbrev pub bad_head : ℕ → List ℕ → Bool
bad_head low s =
    ltb (length s) head_bytes or ltb (length_field s) head_bytes or ltb (length s) (length_field s) or
    kind_field s isnt entry_kind or ltb (number_field s) low

unfoldable pub bad_entry : ℕ → List ℕ → Bool
bad_entry low s = bad_head low s or refuses (formed_told (job_part s))

-- "makes the book malformed: 18, at the offset of the first byte of the first bad entry in its book": of a book from its byte `at` on, once
-- n more bytes are passed over
unfoldable pub book_from : ℕ → ℕ → ℕ → List ℕ → Told
book_from n at low [] = Ok tt
book_from (suc n) at low (b ∷ s) = book_from n (at + 1) low s
book_from zero at low (b ∷ s) =
    pick (bad_entry low (b ∷ s)) (Err (Malformed at))
    (book_from (length_field (b ∷ s) - 1) (at + 1) (number_field (b ∷ s) + 1) s)

abbrev pub book_told : List ℕ → Told
book_told book = book_from 0 0 0 book

-- the place of a number in a good book: where the entry begins that has it, and how long it is; or where it would begin, which is before the
-- first entry whose number is above it, or at the book's end where there is none
unfoldable pub place_from : ℕ → ℕ → ℕ → List ℕ → Result Place ℕ
place_from number n at [] = Err at
place_from number (suc n) at (b ∷ s) = place_from number n (at + 1) s
place_from number zero at (b ∷ s) =
    pick (ltb (number_field (b ∷ s)) number) (place_from number (length_field (b ∷ s) - 1) (at + 1) s)
    (pick (eqb (number_field (b ∷ s)) number) (Ok (record { at = at; size = length_field (b ∷ s) })) (Err at))

abbrev pub place_of : List ℕ → ℕ → Result Place ℕ
place_of book number = place_from number 0 0 book

-- where that is, and how long the entry there is, 0 where there is none
abbrev pub place_at : Result Place ℕ → ℕ
place_at (Ok p) = p.at
place_at (Err at) = at

abbrev pub place_size : Result Place ℕ → ℕ
place_size (Ok p) = p.size
place_size (Err at) = 0

abbrev pub is_there : Result Place ℕ → Bool
is_there p = ltb 0 (place_size p)

-- the number that C knows a book by, and 0 where it is none
abbrev pub book_number : Book → ℕ
book_number Line = 1
book_number Factory = 2

abbrev pub some_number : Option Book → ℕ
some_number (Some book) = book_number book
some_number None = 0

-- what a search tells: in which book, where the job record begins there and how long it is; or why not, and under 18 which one is malformed
abbrev pub Search : Type 0
Search = Result Found NotFound

abbrev pub found_in : Book → ℕ → ℕ → Search
found_in book at size = Ok (record { book = book; from = at + head_bytes; length = size - head_bytes })

abbrev pub nowhere : Option Book → Refusal → Search
nowhere book r = Err (record { book = book; refusal = r })

-- the same, number by number: 0 and 0 of a search that is refused
abbrev pub told_of : Search → Told
told_of (Ok f) = Ok tt
told_of (Err n) = Err n.refusal

abbrev pub which_of : Search → ℕ
which_of (Ok f) = book_number f.book
which_of (Err n) = some_number n.book

abbrev pub from_of : Search → ℕ
from_of (Ok f) = f.from
from_of (Err n) = 0

abbrev pub length_of : Search → ℕ
length_of (Ok f) = f.length
length_of (Err n) = 0

-- "the line book first"; 19: "number not there"
abbrev pub found_at : Book → Result Place ℕ → Search
found_at book p = found_in book (place_at p) (place_size p)

abbrev pub in_books : List ℕ → List ℕ → ℕ → Search
in_books line factory number =
    pick (is_there (place_of line number)) (found_at Line (place_of line number))
    (pick (is_there (place_of factory number)) (found_at Factory (place_of factory number)) (nowhere None NotThere))

-- "A book is checked whole .. before any lookup." 18: "book malformed, line book before factory book, with the offset of the first bad entry"
unfoldable pub find_of : List ℕ → List ℕ → ℕ → Search
find_of line factory number =
    on_told (book_told line) (on_told (book_told factory) (in_books line factory number) (nowhere (Some Factory))) (nowhere (Some Line))

-- "Looking up a number hands back the job record as it stands inside whichever book has it"; "A refused lookup hands back an empty part":
-- its bytes, and where they stand: of the books' addresses a and b, so many bytes further
abbrev pub part_of : Search → List ℕ → List ℕ → List ℕ
part_of f line factory = take (length_of f) (drop (from_of f) (pick (eqb (which_of f) 2) factory line))

unfoldable pub lookup_of : List ℕ → List ℕ → ℕ → List ℕ
lookup_of line factory number = part_of (find_of line factory number) line factory

abbrev pub further : ℕ × ℕ → ℕ → ℕ × ℕ
further a n = (a.0, n + a.1)

unfoldable pub lookup_at : List ℕ → List ℕ → ℕ → ℕ × ℕ → ℕ × ℕ → ℕ × ℕ
lookup_at line factory number a b =
    further (pick (eqb (which_of (find_of line factory number)) 2) b a) (from_of (find_of line factory number))
