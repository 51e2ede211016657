-- Where the state stands in a list of numbers, the state that any such numbers say, and the numbers with one piece written.
mod Names
use Names.*
use Rattle.parts.specs.Lay.{lay}
use Rattle.parts.specs.Numbers.{workers, most_locks, most_words, sheets, entries}
use Rattle.cells.specs.Codes.{byte_of, at_tag, at_lock, at_own, at_steps, at_filled, idle_tag, run_in, reading_in, seen_in, worker_in, worker_numbers, lock_in, lock_numbers, word_in, word_numbers, sheet_in, sheet_numbers, instr_in, instr_numbers, entry_in, entry_numbers}
use Rattle.cells.specs.Pieces.{Part, reads, place_of, pieces_of, put_piece}

-- from one piece to the next; the head has L and W
abbrev pub head_width : ℕ
head_width = 4

abbrev pub worker_width : ℕ
worker_width = 16

abbrev pub lock_width : ℕ
lock_width = 4

abbrev pub word_width : ℕ
word_width = 4

abbrev pub sheet_width : ℕ
sheet_width = 4

abbrev pub instr_width : ℕ
instr_width = 2

abbrev pub entry_width : ℕ
entry_width = 4

-- where the pieces of each kind begin, one kind after the other
abbrev pub worker_base : ℕ
worker_base = head_width

abbrev pub lock_base : ℕ
lock_base = worker_base + workers * worker_width

abbrev pub word_base : ℕ
word_base = lock_base + most_locks * lock_width

abbrev pub sheet_base : ℕ
sheet_base = word_base + most_words * word_width

abbrev pub instr_base : ℕ
instr_base = sheet_base + sheets * sheet_width

abbrev pub entry_base : ℕ
entry_base = instr_base + entries * instr_width

-- how many numbers a state takes
abbrev pub numbers : ℕ
numbers = entry_base + entries * entry_width

-- how many numbers of a worker are used
abbrev pub worker_used : ℕ
worker_used = 16

abbrev pub worker_part : Part Worker
worker_part =
    record {
      reading = worker_in;
      writing = worker_numbers;
      base = worker_base;
      width = worker_width;
      used = worker_used;
      count = workers;
    }

abbrev pub lock_part : Part LockWord
lock_part =
    record { reading = lock_in; writing = lock_numbers; base = lock_base; width = lock_width; used = 2; count = most_locks }

abbrev pub word_part : Part Word
word_part =
    record { reading = word_in; writing = word_numbers; base = word_base; width = word_width; used = 3; count = most_words }

abbrev pub sheet_part : Part Sheet
sheet_part =
    record {
      reading = sheet_in;
      writing = sheet_numbers;
      base = sheet_base;
      width = sheet_width;
      used = 2;
      count = sheets;
    }

abbrev pub instr_part : Part Instr
instr_part =
    record { reading = instr_in; writing = instr_numbers; base = instr_base; width = instr_width; used = 1; count = entries }

abbrev pub entry_part : Part Entry
entry_part =
    record { reading = entry_in; writing = entry_numbers; base = entry_base; width = entry_width; used = 3; count = entries }

-- the whole state
unfoldable pub unpack : List ℕ → Engine
unpack s =
    record {
      locks = byte_of (get_or s 0 0);
      words = byte_of (get_or s 1 0);
      word = pieces_of word_part s;
      lock = pieces_of lock_part s;
      sheet = pieces_of sheet_part s;
      program = pieces_of instr_part s;
      entry = pieces_of entry_part s;
      worker = pieces_of worker_part s;
    }

-- worker w's numbers, and number j of them
abbrev pub row_of : List ℕ → ℕ → List ℕ
row_of s w = reads s (place_of worker_part w) 0 worker_used

unfoldable pub number_at : List ℕ → ℕ → ℕ → ℕ
number_at s w j = get_or s (place_of worker_part w + j) 0

-- what they say, whatever the tag: the run, the reading that it goes by, the lock word seen
unfoldable pub run_now : List ℕ → ℕ → Run
run_now s w = run_in (row_of s w)

unfoldable pub read_now : List ℕ → ℕ → Reading
read_now s w = reading_in (row_of s w)

unfoldable pub seen_now : List ℕ → ℕ → LockWord
seen_now s w = seen_in (row_of s w)

-- all numbers with number j of worker w written
unfoldable pub put_number : List ℕ → ℕ → ℕ → ℕ → List ℕ
put_number s w j x = set s (place_of worker_part w + j) x

-- worker w idle: no lock, no own sheet, no steps, no entries filled; the numbers of its run stay, and say nothing
unfoldable pub put_idle : List ℕ → ℕ → List ℕ
put_idle s w =
    put_number (put_number (put_number (put_number (put_number s w at_tag idle_tag) w at_lock 0) w at_own 0) w at_steps 0) w at_filled 0

unfoldable pub put_sizes : List ℕ → ℕ → ℕ → List ℕ
put_sizes s l w = lay 0 (l ∷ w ∷ []) s

abbrev pub put_worker : List ℕ → ℕ → Worker → List ℕ
put_worker s i x = put_piece worker_part s i x

abbrev pub put_lock : List ℕ → ℕ → LockWord → List ℕ
put_lock s i x = put_piece lock_part s i x

abbrev pub put_word : List ℕ → ℕ → Word → List ℕ
put_word s i x = put_piece word_part s i x

abbrev pub put_sheet : List ℕ → ℕ → Sheet → List ℕ
put_sheet s i x = put_piece sheet_part s i x

abbrev pub put_instr : List ℕ → ℕ → Instr → List ℕ
put_instr s i x = put_piece instr_part s i x

abbrev pub put_entry : List ℕ → ℕ → Entry → List ℕ
put_entry s i x = put_piece entry_part s i x

-- the first numbers 0, those past them as they were
unfoldable pub blanked : List ℕ → List ℕ
blanked s = lay 0 (replicate numbers 0) s
