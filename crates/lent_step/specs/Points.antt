-- The numbers after a step, by the worker's tag: what each point looks at is read off the numbers, and what it changes is written.
mod Names
use Names.*
use Rattle.engine.specs.Calls.{step_told}
use Rattle.cells.specs.Codes.{at_tag, at_turn, at_new, look_tag, grab_tag, look_again_tag, read_mark_tag, read_tag, commit_tag, swap_tag, mark_tag}
use Rattle.cells.specs.Layout.{unpack, number_at, run_now, read_now, seen_now, put_lock, put_word, put_sheet, put_entry}
use Rattle.lent_moves.specs.Looks.{own_now, lock_place, lock_now, registers_now, instr_now, word_place, word_now, entry_place, entry_now, sheet_now, sum_now, difference_now, answer_now}
use Rattle.lent_moves.specs.Moves.{to_grab, to_look_again, to_read_mark, started, passed, went, to_mark, to_commit, logged, loaded, to_swap, to_release, finished, counted}

-- 1. Look, by the lock word that it finds; worn where that is free at the last turn
unfoldable pub looked : List ℕ → ℕ → LockWord → List ℕ
looked s w l =
    on_option l.holder (pick (eqb l.turn last_turn) (finished s w Worn) (to_grab s w l.turn))
    (λ sheet. started s w sheet l.turn)

unfoldable pub look_numbers : List ℕ → ℕ → List ℕ
look_numbers s w = looked s w (lock_now s w)

-- 2. Grab
unfoldable pub grab_numbers : List ℕ → ℕ → List ℕ
grab_numbers s w =
    put_lock (to_look_again s w (next32 (number_at s w at_turn))) (lock_place s w) (grab_of (lock_now s w) (number_at s w at_turn) (own_now s w))

-- 3. Look again
unfoldable pub look_again_numbers : List ℕ → ℕ → List ℕ
look_again_numbers s w = to_read_mark s w (lock_now s w)

-- 4. Read own done mark, by the mark and the lock word that Look again saw
unfoldable pub started_own : List ℕ → ℕ → List ℕ
started_own s w = started s w (own_now s w) (number_at s w at_turn)

-- not marked, by the own sheet
unfoldable pub started_seen : List ℕ → ℕ → LockWord → ℕ → List ℕ
started_seen s w l own =
    on_option l.holder (finished s w NotTaken) (λ sheet. pick (eqb sheet own) (started_own s w) (started s w sheet l.turn))

unfoldable pub mark_read : List ℕ → ℕ → Bool → LockWord → List ℕ
mark_read s w done l = pick done (started_own s w) (started_seen s w l (own_now s w))

unfoldable pub read_mark_numbers : List ℕ → ℕ → List ℕ
read_mark_numbers s w = mark_read s w (sheet_now s (own_now s w)).done (seen_now s w)

-- 5. Run: the first step of instruction i; no job that was checked has an op above 7
unfoldable pub first_numbers : List ℕ → ℕ → Instr → List ℕ
first_numbers s w i =
    pick (eqb i.op 0) (to_mark s w (eqb i.a 1))
    (pick (eqb i.op 1) (went s w i.a (i.b + 256 * i.c))
    (pick (eqb i.op 2) (to_commit s w (reading_of (word_now s i)))
    (pick (eqb i.op 3) (to_commit s w (reading_of (word_now s i)))
    (pick (eqb i.op 4) (to_commit s w (reading_of (word_now s i)))
    (pick (eqb i.op 5) (went s w i.a (sum_now s w i))
    (pick (eqb i.op 6) (went s w i.a (difference_now s w i))
    (pick (eqb i.op 7) (passed s w (over_of i (registers_now s w))) (to_mark s w false))))))))

unfoldable pub read_numbers : List ℕ → ℕ → List ℕ
read_numbers s w = first_numbers s w (instr_now s w)

-- what follows of the value that the entry holds
unfoldable pub follow_numbers : List ℕ → ℕ → Instr → Reading → List ℕ
follow_numbers s w i held =
    pick (eqb i.op 2) (loaded s w i.a held.value)
    (pick (eqb i.op 3) (to_swap s w held (register_of (registers_now s w) i.a))
    (pick (eqb (register_of (registers_now s w) i.a) held.value)
    (to_swap s w held (register_of (registers_now s w) i.b)) (logged s w)))

-- commit: an entry that is empty takes what was read; either way the worker goes on with what the entry holds; the worker that fills the
-- entry counts it
unfoldable pub entry_filled : List ℕ → ℕ → ℕ → Entry → Reading → List ℕ
entry_filled s w j e read = on_option e.fill (put_entry (counted s w) j (record { fill = Some read })) (λ held. s)

unfoldable pub committed : List ℕ → ℕ → Instr → ℕ → Entry → List ℕ
committed s w i j e = entry_filled (follow_numbers s w i (holds_of e (read_now s w))) w j e (read_now s w)

unfoldable pub commit_numbers : List ℕ → ℕ → List ℕ
commit_numbers s w = committed s w (instr_now s w) (entry_place s w) (entry_now s w)

-- swap
unfoldable pub swap_numbers : List ℕ → ℕ → List ℕ
swap_numbers s w =
    put_word (passed s w 0) (word_place (instr_now s w)) (swap_of (word_now s (instr_now s w)) (read_now s w) (number_at s w at_new))

-- 6. Mark; the sheet's length stays
unfoldable pub mark_numbers : List ℕ → ℕ → List ℕ
mark_numbers s w =
    put_sheet (to_release s w) ((run_now s w).sheet % sheets) (record { length = (sheet_now s (run_now s w).sheet).length; done = true })

-- 7. Release
unfoldable pub release_numbers : List ℕ → ℕ → List ℕ
release_numbers s w =
    put_lock (finished s w (answer_now s w)) (lock_place s w) (release_of (lock_now s w) (run_now s w).won (run_now s w).sheet)

-- a step of a worker under way that has this tag
unfoldable pub onward_numbers : List ℕ → ℕ → ℕ → List ℕ
onward_numbers s w tag =
    pick (eqb tag look_tag) (look_numbers s w)
    (pick (eqb tag grab_tag) (grab_numbers s w)
    (pick (eqb tag look_again_tag) (look_again_numbers s w)
    (pick (eqb tag read_mark_tag) (read_mark_numbers s w)
    (pick (eqb tag read_tag) (read_numbers s w)
    (pick (eqb tag commit_tag) (commit_numbers s w)
    (pick (eqb tag swap_tag) (swap_numbers s w)
    (pick (eqb tag mark_tag) (mark_numbers s w) (release_numbers s w))))))))

-- the whole call: refused, "the state as it came"
unfoldable pub step_numbers : List ℕ → ℕ → List ℕ
step_numbers s w = on_told (step_told (unpack s) w) (onward_numbers s w (number_at s w at_tag)) (λ r. s)
