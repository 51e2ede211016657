-- The nine calls: each call's order of refusals, as document 01 and the requests list it, and what an accepted call does and tells.
mod Names
use Names.*
use Rattle.arrays.specs.Fresh.{words_from, free_at, guards_of}
use Rattle.arrays.specs.Held.{held_told}
use Rattle.records.specs.Job.{job_of, job_told}
use Rattle.records.specs.Setup.{locks_field, words_field, guards_field, values_field, turns_field, setup_told, setup_length}
use Rattle.steps.specs.Worker.{on_state, began_of, collected_of, dropped_of, begin_by_state, step_by_state, collect_by_state, drop_by_state}
use Rattle.engine.specs.State.{blank_of, lock_count, word_count, words_of, worker_at, lock_at, word_at, in_use, free_sheet, base_of, program_length, sheet_record, state_record, with_worker}
use Rattle.engine.specs.Step.{stepped_of}

-- "A refusal returns its number and place, the state as it came": what was told of a call on state e, and the state where it
-- was accepted
abbrev pub outcome_of : Engine → Told → Engine → Outcome
outcome_of e told next =
    on_told told (record { engine = next; told = Ok tt }) (λ r. record { engine = e; told = Err r })

-- "Setup makes a fresh state; a refused one gives the blank state"
unfoldable pub fresh_of : List ℕ → Engine
fresh_of rec =
    record {
      locks = locks_field rec;
      words = words_field rec;
      word = lay 0 (words_from (guards_field rec) (values_field rec)) (replicate most_words word0);
      lock = lay 0 (map free_at (turns_field rec)) (replicate most_locks lock0);
      sheet = blank_of.sheet;
      program = blank_of.program;
      entry = blank_of.entry;
      worker = blank_of.worker;
    }

unfoldable pub setup_of : List ℕ → Outcome
setup_of rec = outcome_of blank_of (setup_told rec) (fresh_of rec)

-- "Order for begin: 1, 3 or 4, 2, 5 .., 6, 5 .., then the lowest faulty instruction .., 9, 10."; request 06: "10 removed". The rows from 2
-- on, and all
abbrev pub lock_order : Engine → ℕ → List ℕ → List Told
lock_order e l rec =
    refuse_if (leb (lock_count e) l) NoLock ∷
    job_told rec l (guards_of (words_of e)) ∷
    refuse_if (worn_of (lock_at e l)) LastTurn ∷
    []

abbrev pub begin_order : Engine → ℕ → ℕ → List ℕ → List Told
begin_order e w l rec = refuse_if (leb workers w) NoWorker ∷ begin_by_state (worker_at e w) ∷ lock_order e l rec

unfoldable pub begin_told : Engine → ℕ → ℕ → List ℕ → Told
begin_told e w l rec = first_of (begin_order e w l rec)

-- "Begin (worker, lock, job record) takes a sheet, copies the job, empties the log, clears the mark."
unfoldable pub begun_of : Engine → ℕ → ℕ → List ℕ → ℕ → Engine
begun_of e w l rec s =
    record {
      locks = e.locks;
      words = e.words;
      word = e.word;
      lock = e.lock;
      sheet = set e.sheet s (record { length = length (job_of rec); done = false });
      program = lay (base_of s) (job_of rec) (lay (base_of s) (replicate instructions instr0) e.program);
      entry = lay (base_of s) (replicate instructions entry0) e.entry;
      worker = set e.worker w (began_of (worker_at e w) l s);
    }

-- "Begin takes the free sheet with the lowest number."
abbrev pub taken_of : Engine → ℕ → ℕ → List ℕ → Engine
taken_of e w l rec = begun_of e w l rec (free_sheet e)

unfoldable pub begin_of : Engine → ℕ → ℕ → List ℕ → Outcome
begin_of e w l rec = outcome_of e (begin_told e w l rec) (taken_of e w l rec)

-- "Step: 1, 11, 4." "Step (worker) does one step below."
abbrev pub step_order : Engine → ℕ → List Told
step_order e w = refuse_if (leb workers w) NoWorker ∷ step_by_state (worker_at e w) ∷ []

abbrev pub step_told : Engine → ℕ → Told
step_told e w = first_of (step_order e w)

abbrev pub onward_of : Engine → ℕ → Engine
onward_of e w = on_state (worker_at e w).state e (λ p. stepped_of e w p) (λ x. e)

unfoldable pub step_of : Engine → ℕ → Outcome
step_of e w = outcome_of e (step_told e w) (onward_of e w)

-- "Collect: 1, 11, 3." "Collect (worker) hands out the answer and the number of accepted steps since begin, and makes the worker
-- idle." Request 02: "Collect then reports a third number"
abbrev pub collect_order : Engine → ℕ → List Told
collect_order e w = refuse_if (leb workers w) NoWorker ∷ collect_by_state (worker_at e w) ∷ []

abbrev pub collect_told : Engine → ℕ → Told
collect_told e w = first_of (collect_order e w)

-- what collect gives: the next state, and what it tells, which is an answer, the steps and the entries filled
pub record Collected : Type 0 where
  pub engine : Engine
  pub told : Result Answered Refusal

abbrev pub answered : Answer → ℕ → ℕ → Answered
answered x steps filled = record { answer = x; steps = steps; filled = filled }

-- of a finished worker
abbrev pub last_answer : Worker → Answer
last_answer k = on_state k.state NotTaken (λ p. NotTaken) (λ answer. answer)

unfoldable pub collect_of : Engine → ℕ → Collected
collect_of e w =
    on_told (collect_told e w)
    (record {
      engine = with_worker e w (collected_of (worker_at e w));
      told = Ok (answered (last_answer (worker_at e w)) (worker_at e w).steps (worker_at e w).filled);
    })
    (λ r. record { engine = e; told = Err r })

-- "Drop: 1, 11." "Drop (worker) makes a worker that isn't idle idle at any point; a held lock stays held."
abbrev pub drop_order : Engine → ℕ → List Told
drop_order e w = refuse_if (leb workers w) NoWorker ∷ drop_by_state (worker_at e w) ∷ []

abbrev pub drop_told : Engine → ℕ → Told
drop_told e w = first_of (drop_order e w)

unfoldable pub drop_of : Engine → ℕ → Outcome
drop_of e w = outcome_of e (drop_told e w) (with_worker e w (dropped_of (worker_at e w)))

-- "Read word tells value, count and guard"; 16: "word not below W"
unfoldable pub read_word_of : Engine → ℕ → Result Word Refusal
read_word_of e i = on_told (refuse_if (leb (word_count e) i) NoWord) (Ok (word_at e i)) (λ r. Err r)

-- "read lock tells the turn and the holding sheet, if any"; 2: "lock not below L"
unfoldable pub read_lock_of : Engine → ℕ → Result LockWord Refusal
read_lock_of e l = on_told (refuse_if (leb (lock_count e) l) NoLock) (Ok (lock_at e l)) (λ r. Err r)

-- "Both writers fill the first bytes only and tell how many; the bytes after them don't change." A refusal alters "not one byte
-- of the buffer"
abbrev pub write_of : Told → List ℕ → Result ℕ Refusal
write_of told bytes = on_told told (Ok (length bytes)) (λ r. Err r)

abbrev pub buffer_of : Told → List ℕ → List ℕ → List ℕ
buffer_of told bytes buf = on_told told (lay 0 bytes buf) (λ r. buf)

-- "Show: 14, 13." "Show sheet writes the job record of a sheet in use into a lent buffer." 14: "sheet above 31 or free"
abbrev pub is_free : Engine → ℕ → Bool
is_free e s = leb sheets s or pick (in_use e s) false true

abbrev pub show_order : Engine → ℕ → ℕ → List Told
show_order e s room =
    refuse_if (is_free e s) SheetFree ∷ refuse_if (ltb room (4 + 4 * program_length e s)) Buffer ∷ []

unfoldable pub show_told : Engine → ℕ → ℕ → Told
show_told e s room = first_of (show_order e s room)

unfoldable pub show_of : Engine → ℕ → ℕ → Result ℕ Refusal
show_of e s room = write_of (show_told e s room) (sheet_record e s)

unfoldable pub shown_of : Engine → ℕ → List ℕ → List ℕ
shown_of e s buf = buffer_of (show_told e s (length buf)) (sheet_record e s) buf

-- "Park: 12, 15, 13." "Park writes the setup record of the present values and turns." 12: "park: blank state", at 4. Of the
-- first l locks, with w words
abbrev pub park_order : List LockWord → ℕ → ℕ → ℕ → List Told
park_order locks l w room =
    refuse_if (eqb l 0) (Range 4) ∷
    held_told (take l locks) 0 ∷
    refuse_if (ltb room (setup_length l w)) Buffer ∷
    []

unfoldable pub park_told : Engine → ℕ → Told
park_told e room = first_of (park_order e.lock (lock_count e) (word_count e) room)

unfoldable pub park_of : Engine → ℕ → Result ℕ Refusal
park_of e room = write_of (park_told e room) (state_record e)

unfoldable pub parked_of : Engine → List ℕ → List ℕ
parked_of e buf = buffer_of (park_told e (length buf)) (state_record e) buf
