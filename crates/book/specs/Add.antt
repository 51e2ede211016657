-- Request 08: "write a book, with one new numbered job in its place, to the front of a lent buffer and tell the length; later bytes stay."
mod Names
use Names.*
use Rattle.parts.specs.Lay.{lay}
use Rattle.parts.specs.Told.{on_told, refuse_if, first_of}
use Rattle.records.specs.Bytes.{header}
use Rattle.book.specs.Formed.{formed_told}
use Rattle.book.specs.Book.{entry_kind, head_bytes, book_told, place_of, place_at, is_there}

-- "Job numbers run from 0 to 65,535"
abbrev pub last_number : ℕ
last_number = 65535

abbrev pub entry_bytes : ℕ → List ℕ → List ℕ
entry_bytes number rec = header (head_bytes + length rec) entry_kind (number % 256 ∷ number / 256 ∷ rec)

-- "18, then 5, 6 and 7 of the new job, 20 number present already, 13"; a number above the last "is 19, in the writer too, there after 18".
-- The rows from 20 on, for an entry of so many bytes; from 5 on; and all
abbrev pub place_order : List ℕ → ℕ → ℕ → ℕ → List Told
place_order book number entry room =
    refuse_if (is_there (place_of book number)) Present ∷ refuse_if (ltb room (length book + entry)) Buffer ∷ []

abbrev pub job_order : List ℕ → ℕ → List ℕ → ℕ → List Told
job_order book number rec room = formed_told rec ∷ place_order book number (head_bytes + length rec) room

unfoldable pub add_told : List ℕ → ℕ → List ℕ → ℕ → Told
add_told book number rec room =
    first_of (book_told book ∷ refuse_if (ltb last_number number) NotThere ∷ job_order book number rec room)

-- a book with one entry more, before its byte `at`; "with one new numbered job in its place"
abbrev pub with_entry : List ℕ → ℕ → ℕ → List ℕ → List ℕ
with_entry book at number rec = take at book ++ (entry_bytes number rec ++ drop at book)

unfoldable pub added_bytes : List ℕ → ℕ → List ℕ → List ℕ
added_bytes book number rec = with_entry book (place_at (place_of book number)) number rec

-- the length of the book that was written, or why none was; and what is left in the buffer
unfoldable pub add_of : List ℕ → ℕ → List ℕ → ℕ → Result ℕ Refusal
add_of book number rec room =
    on_told (add_told book number rec room) (Ok (length book + (head_bytes + length rec))) (λ r. Err r)

unfoldable pub add_left : List ℕ → ℕ → List ℕ → List ℕ → List ℕ
add_left book number rec buf =
    on_told (add_told book number rec (length buf)) (lay 0 (added_bytes book number rec) buf) (λ r. buf)
