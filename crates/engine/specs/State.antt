-- "A state machine of workers, locks, words and sheets." A remainder here keeps an index in its range whatever the state; in a
-- state that the calls gave none ever changes a number.
mod Names
use Names.*
use Rattle.arrays.specs.Fresh.{guards_of, values_of, turns_of}
use Rattle.parts.specs.Numbers.{workers, most_locks, most_words, sheets, instructions, entries}
use Rattle.parts.specs.Parts.{word0, lock0, instr0, entry0}
use Rattle.records.specs.Job.{job_record}
use Rattle.records.specs.Setup.{setup_record}
use Rattle.sheets.specs.Sheets.{in_use_of, free_sheet_of}
use Rattle.steps.specs.Worker.{worker0}

abbrev pub sheet0 : Sheet
sheet0 = record { length = 0; done = false }

-- "the blank state: no locks, no words, idle workers, free sheets"; "All sheets' entries stand together
-- .., all empty at the start."
unfoldable pub blank_of : Engine
blank_of =
    record {
      locks = 0;
      words = 0;
      word = replicate most_words word0;
      lock = replicate most_locks lock0;
      sheet = replicate sheets sheet0;
      program = replicate entries instr0;
      entry = replicate entries entry0;
      worker = replicate workers worker0;
    }

-- the numbers L and W
abbrev pub lock_count : Engine → ℕ
lock_count e = e.locks % (most_locks + 1)

abbrev pub word_count : Engine → ℕ
word_count e = e.words % (most_words + 1)

abbrev pub worker_at : Engine → ℕ → Worker
worker_at e w = get_or e.worker w worker0

abbrev pub lock_at : Engine → ℕ → LockWord
lock_at e l = get_or e.lock l lock0

abbrev pub word_at : Engine → ℕ → Word
word_at e i = get_or e.word i word0

-- the locks and the words that there are
abbrev pub locks_of : Engine → List LockWord
locks_of e = take (lock_count e) e.lock

abbrev pub words_of : Engine → List Word
words_of e = take (word_count e) e.word

-- "It is in use while a held lock names it, or a worker under way has it as its own or as the one it helps."
abbrev pub in_use : Engine → ℕ → Bool
in_use e s = in_use_of e.lock e.worker s

abbrev pub free_sheet : Engine → ℕ
free_sheet e = free_sheet_of e.lock e.worker

-- where a sheet's instructions and entries begin
abbrev pub base_of : ℕ → ℕ
base_of s = s * instructions

-- the program on a sheet, and its record
abbrev pub program_length : Engine → ℕ → ℕ
program_length e s = (get_or e.sheet s sheet0).length % (instructions + 1)

abbrev pub program_of : Engine → ℕ → List Instr
program_of e s = take (program_length e s) (drop (base_of s) e.program)

abbrev pub sheet_record : Engine → ℕ → List ℕ
sheet_record e s = job_record (program_of e s)

-- the setup record of words and locks, and that of the present values and turns
abbrev pub record_of : List Word → List LockWord → List ℕ
record_of words locks = setup_record (guards_of words) (values_of words) (turns_of locks)

abbrev pub state_record : Engine → List ℕ
state_record e = record_of (words_of e) (locks_of e)

-- the state with one worker changed
abbrev pub with_worker : Engine → ℕ → Worker → Engine
with_worker e w k =
    record {
      locks = e.locks;
      words = e.words;
      word = e.word;
      lock = e.lock;
      sheet = e.sheet;
      program = e.program;
      entry = e.entry;
      worker = set e.worker w k;
    }
