-- One try, step by step: what each line of document 01's list does to the pieces that a step can touch.
mod Names
use Names.*
use Rattle.parts.specs.Instr.{asks_of, follows_of, on_asks, on_follows}
use Rattle.parts.specs.Numbers.{last_turn}
use Rattle.parts.specs.Parts.{next32, registers0, reading_of, swap_of, committed_of, holds_of, is_first, grab_of, release_of}
use Rattle.parts.specs.Pick.{pick, on_option}
use Rattle.steps.specs.Worker.{moved_of, counted_of}

-- the pieces with one of them changed
abbrev pub view_with_lock : View → LockWord → View
view_with_lock v l =
    record { worker = v.worker; lock = l; word = v.word; entry = v.entry; instr = v.instr; done = v.done }

abbrev pub view_with_word : View → Word → View
view_with_word v w =
    record { worker = v.worker; lock = v.lock; word = w; entry = v.entry; instr = v.instr; done = v.done }

-- an entry together with the worker that committed to it
abbrev pub view_with_entry : View → Entry → Worker → View
view_with_entry v e k =
    record { worker = k; lock = v.lock; word = v.word; entry = e; instr = v.instr; done = v.done }

abbrev pub view_with_done : View → View
view_with_done v =
    record { worker = v.worker; lock = v.lock; word = v.word; entry = v.entry; instr = v.instr; done = true }

-- the step is made, and the worker is in this state; at this point
abbrev pub to_of : View → State → View
to_of v s =
    record {
      worker = moved_of v.worker s;
      lock = v.lock;
      word = v.word;
      entry = v.entry;
      instr = v.instr;
      done = v.done;
    }

abbrev pub at_of : View → Point → View
at_of v p = to_of v (UnderWay p)

-- "from instruction 0 with registers 0 and log place 0"
abbrev pub start_of : ℕ → ℕ → Run
start_of sheet won = record { sheet = sheet; won = won; next = 0; place = 0; registers = registers0 }

-- on to the next instruction, some passed over
abbrev pub onto_of : Run → ℕ → Registers → Run
onto_of r over registers =
    record {
      sheet = r.sheet;
      won = r.won;
      next = (r.next + 1 + over) % 2 ^ 8;
      place = r.place;
      registers = registers;
    }

-- "the place rises by one"
abbrev pub logged_of : Run → Run
logged_of r =
    record {
      sheet = r.sheet;
      won = r.won;
      next = r.next;
      place = (r.place + 1) % 2 ^ 8;
      registers = r.registers;
    }

-- "1. Look. Remember the lock word. Held: help that sheet, go to 5. Free at turn 67,108,864: finish, not taken. Free otherwise:
-- go to 2." Request 03, in place of this "not taken": "Answer 4, worn, is given exactly when Look finds the lock free at the last turn."
unfoldable pub look_step : View → View
look_step v =
    on_option v.lock.holder
    (pick (eqb v.lock.turn last_turn) (to_of v (Finished Worn)) (at_of v (Grab v.lock.turn)))
    (λ s. at_of v (Point.Run (start_of s v.lock.turn) Read))

-- "2. Grab. If the lock word is still what was remembered, it becomes turn + 1, held by the worker's own sheet. Otherwise
-- nothing changes."
unfoldable pub grab_step : View → ℕ → View
grab_step v seen = at_of (view_with_lock v (grab_of v.lock seen v.worker.own)) (LookAgain (next32 seen))

-- "3. Look again. Remember the lock word. If another sheet holds it, that sheet counts as helped from now."
unfoldable pub look_again_step : View → ℕ → View
look_again_step v won = at_of v (ReadMark v.lock won)

-- "4. Read own done mark. Marked, or step 3 saw the own sheet: run the own sheet, and a sheet seen at 3 no longer counts as
-- helped. Otherwise, if step 3 saw another sheet: help it. Otherwise finish, not taken."
unfoldable pub read_mark_step : View → LockWord → ℕ → View
read_mark_step v seen won =
    pick v.done (at_of v (Point.Run (start_of v.worker.own won) Read))
    (on_option seen.holder (to_of v (Finished NotTaken))
    (λ s.
    pick (eqb s v.worker.own) (at_of v (Point.Run (start_of v.worker.own won) Read))
    (at_of v (Point.Run (start_of s seen.turn) Read))))

-- "5. Run .. Set, add, sub, skip and halt: one step each. Load: read the word; .. Store: read; .. Cam: read; .."
unfoldable pub read_step : View → Run → View
read_step v r =
    on_asks (asks_of v.instr r.registers) (λ said. at_of v (Point.Run r (Mark said)))
    (λ registers over. at_of v (Point.Run (onto_of r over registers) Read))
    (λ w. at_of v (Point.Run r (Commit (reading_of v.word))))

-- "Load: .. commit. Store: .. commit; swap. Cam: .. commit; swap, the last only if the committed value equals register a." What
-- follows of the entry's value: the next instruction, or the swap
unfoldable pub follow_step : View → Run → Reading → View
follow_step v r held =
    on_follows (follows_of v.instr r.registers held.value) (λ registers. at_of v (Point.Run (onto_of r 0 registers) Read))
    (λ new. at_of v (Point.Run r (Swap held new)))

-- "Commit: if the log entry at the place is empty it takes the value and count read; either way the worker goes on with what
-- the entry holds, and the place rises by one." Request 02: the worker counts an entry that it filled
unfoldable pub commit_step : View → Run → Reading → View
commit_step v r read =
    follow_step (view_with_entry v (committed_of v.entry read) (counted_of v.worker (is_first v.entry))) (logged_of r)
    (holds_of v.entry read)

-- "Swap: if the word's value and count equal the entry's, the word takes the new value and its count rises by one"
unfoldable pub swap_step : View → Run → Reading → ℕ → View
swap_step v r entry new =
    at_of (view_with_word v (swap_of v.word entry new)) (Point.Run (onto_of r 0 r.registers) Read)

-- "6. Mark the sheet done."
unfoldable pub mark_step : View → Run → Bool → View
mark_step v r said = at_of (view_with_done v) (Point.Run r (Release said))

-- "own sheet, ran with the halt's answer; helped sheet, not taken"
unfoldable pub answer_of : Run → ℕ → Bool → Answer
answer_of r own said = pick (eqb r.sheet own) (pick said RanYes RanNo) NotTaken

-- "7. Release. If the lock word is held by that sheet at the turn under which it won, it becomes free with the same turn. Finish
-- in this step"
unfoldable pub release_step : View → Run → Bool → View
release_step v r said =
    to_of (view_with_lock v (release_of v.lock r.won r.sheet))
    (Finished (answer_of r v.worker.own said))

-- a step of a run, by its stage
abbrev pub run_step : Stage → Run → View → View
run_step Read r v = read_step v r
run_step (Commit read) r v = commit_step v r read
run_step (Swap entry new) r v = swap_step v r entry new
run_step (Mark said) r v = mark_step v r said
run_step (Release said) r v = release_step v r said

-- "Each line but 5 is one step."
unfoldable pub effect_of : Point → View → View
effect_of Look v = look_step v
effect_of (Grab seen) v = grab_step v seen
effect_of (LookAgain won) v = look_again_step v won
effect_of (ReadMark seen won) v = read_mark_step v seen won
effect_of (Point.Run r at) v = run_step at r v
