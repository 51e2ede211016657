-- What a step looks at, read off the numbers.
mod Names
use Names.*
use Rattle.steps.specs.Places.{run_spot}
use Rattle.steps.specs.Try.{answer_of}
use Rattle.engine.specs.State.{sheet0, worker_at, lock_at, word_at}
use Rattle.engine.specs.Step.{instr_at, entry_at}
use Rattle.cells.specs.Codes.{flag_of, at_new}
use Rattle.cells.specs.Layout.{unpack, number_at, run_now}

-- What worker w looks at: its own sheet, where its lock stands and the lock word there, what its halt said; of its run, the registers,
-- the instruction, that one's word, and the log entry; and a sheet
abbrev pub own_now : List ℕ → ℕ → ℕ
own_now s w = (worker_at (unpack s) w).own

abbrev pub lock_place : List ℕ → ℕ → ℕ
lock_place s w = (worker_at (unpack s) w).lock % most_locks

abbrev pub lock_now : List ℕ → ℕ → LockWord
lock_now s w = lock_at (unpack s) (lock_place s w)

abbrev pub said_now : List ℕ → ℕ → Bool
said_now s w = flag_of (number_at s w at_new)

abbrev pub registers_now : List ℕ → ℕ → Registers
registers_now s w = (run_now s w).registers

unfoldable pub instr_now : List ℕ → ℕ → Instr
instr_now s w = get_or (unpack s).program (instr_at (run_spot (run_now s w))) instr0

abbrev pub word_place : Instr → ℕ
word_place i = word_of i % most_words

abbrev pub word_now : List ℕ → Instr → Word
word_now s i = word_at (unpack s) (word_place i)

abbrev pub entry_place : List ℕ → ℕ → ℕ
entry_place s w = entry_at (run_spot (run_now s w))

abbrev pub entry_now : List ℕ → ℕ → Entry
entry_now s w = get_or (unpack s).entry (entry_place s w) entry0

abbrev pub sheet_now : List ℕ → ℕ → Sheet
sheet_now s i = get_or (unpack s).sheet (i % sheets) sheet0

-- the sum and the difference of registers a and b
abbrev pub sum_now : List ℕ → ℕ → Instr → ℕ
sum_now s w i = (register_of (registers_now s w) i.a + register_of (registers_now s w) i.b) % 2 ^ 32

abbrev pub difference_now : List ℕ → ℕ → Instr → ℕ
difference_now s w i = (register_of (registers_now s w) i.a + 2 ^ 32 - register_of (registers_now s w) i.b) % 2 ^ 32

-- what the end of the run tells
abbrev pub answer_now : List ℕ → ℕ → Answer
answer_now s w = answer_of (run_now s w) (own_now s w) (said_now s w)
