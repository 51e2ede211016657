-- Setup and begin on lent numbers: the numbers after the call exactly, and the state half-way.
mod Names
use Names.*
use Rattle.records.specs.Job.{job_of}
use Rattle.records.specs.Setup.{locks_field, words_field, guards_field, values_field, turns_field, setup_told}
use Rattle.steps.specs.Worker.{began_of}
use Rattle.engine.specs.State.{worker_at, free_sheet, base_of}
use Rattle.engine.specs.Calls.{begin_told}
use Rattle.cells.specs.Layout.{word_part, lock_part, instr_part, entry_part, unpack, put_sizes, put_sheet, put_worker, blanked}
use Rattle.cells.specs.State.{with_sizes}
use Rattle.lent_in.specs.Laid.{put_all, lay_words, lay_locks, lay_program, lay_log}

-- L and W, the words and the locks of a record: the numbers, and the state
unfoldable pub filled_numbers : List ℕ → List ℕ → List ℕ
filled_numbers s rec =
    put_all lock_part
    (put_all word_part (put_sizes s (locks_field rec) (words_field rec)) 0 (words_from (guards_field rec) (values_field rec))) 0
    (map free_at (turns_field rec))

unfoldable pub filled_of : Engine → List ℕ → Engine
filled_of e rec =
    lay_locks
    (lay_words (with_sizes e (locks_field rec) (words_field rec)) 0 (words_from (guards_field rec) (values_field rec))) 0
    (map free_at (turns_field rec))

-- "Setup makes a fresh state; a refused one gives the blank state"
unfoldable pub setup_numbers : List ℕ → List ℕ → List ℕ
setup_numbers s rec = on_told (setup_told rec) (filled_numbers (blanked s) rec) (λ r. blanked s)

-- "copies the job, empties the log": on a sheet, the numbers and the state
unfoldable pub copied_numbers : List ℕ → List ℕ → ℕ → List ℕ
copied_numbers s rec sheet =
    put_all entry_part
    (put_all instr_part (put_all instr_part s (base_of sheet) (replicate instructions instr0)) (base_of sheet) (job_of rec))
    (base_of sheet) (replicate instructions entry0)

unfoldable pub copied_of : Engine → List ℕ → ℕ → Engine
copied_of e rec sheet =
    lay_log (lay_program (lay_program e (base_of sheet) (replicate instructions instr0)) (base_of sheet) (job_of rec))
    (base_of sheet) (replicate instructions entry0)

-- a sheet with the job of a record, "clears the mark"
abbrev pub sheet_for : List ℕ → Sheet
sheet_for rec = record { length = length (job_of rec); done = false }

unfoldable pub begun_numbers : List ℕ → ℕ → ℕ → List ℕ → ℕ → List ℕ
begun_numbers s w l rec sheet =
    put_worker (put_sheet (copied_numbers s rec sheet) sheet (sheet_for rec)) w (began_of (worker_at (unpack s) w) l sheet)

-- "Begin takes the free sheet with the lowest number."
unfoldable pub begin_numbers : List ℕ → ℕ → ℕ → List ℕ → List ℕ
begin_numbers s w l rec =
    on_told (begin_told (unpack s) w l rec) (begun_numbers s w l rec (free_sheet (unpack s))) (λ r. s)
