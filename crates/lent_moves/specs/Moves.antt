-- A worker's moves, straight on its numbers: which of them become what. What the numbers say then is proved in lent_step (proofs/Moved.antt).
use Rattle.std.specs.Prelude.{ℕ, ◌+◌, ◌%◌, ◌^◌, Bool, List}
use Rattle.parts.specs.Parts.{next32}
use Rattle.parts.specs.Told.{answer_number}
use Rattle.parts.specs.declared.Answer.{Answer}
use Rattle.parts.specs.declared.LockWord.{LockWord}
use Rattle.parts.specs.declared.Reading.{Reading}
use Rattle.cells.specs.Codes.{flag_number, holder_number, at_tag, at_steps, at_sheet, at_turn, at_next, at_place, at_register, at_value, at_count, at_new, at_filled, grab_tag, look_again_tag, read_mark_tag, read_tag, commit_tag, swap_tag, mark_tag, release_tag, finished_tag}
use Rattle.cells.specs.Layout.{number_at, run_now, put_number}

-- one accepted step more, and the tag that it leads to: every move
unfoldable pub stepped_to : List ℕ → ℕ → ℕ → List ℕ
stepped_to s w tag = put_number (put_number s w at_tag tag) w at_steps (next32 (number_at s w at_steps))

-- Before a run: on to Grab, with the turn that Look saw; to Look again, with the turn under which the own sheet won if it did; to Read
-- mark, with the lock word
unfoldable pub to_grab : List ℕ → ℕ → ℕ → List ℕ
to_grab s w turn = put_number (stepped_to s w grab_tag) w at_turn turn

unfoldable pub to_look_again : List ℕ → ℕ → ℕ → List ℕ
to_look_again s w won = put_number (stepped_to s w look_again_tag) w at_turn won

unfoldable pub to_read_mark : List ℕ → ℕ → LockWord → List ℕ
to_read_mark s w l =
    put_number (put_number (stepped_to s w read_mark_tag) w at_sheet (holder_number l.holder)) w at_value l.turn

-- the four registers are 0
unfoldable pub cleared : List ℕ → ℕ → List ℕ
cleared s w =
    put_number (put_number (put_number (put_number s w (at_register 0) 0) w (at_register 1) 0) w (at_register 2) 0) w (at_register 3) 0

-- "Run from instruction 0 with registers 0 and log place 0"
unfoldable pub started : List ℕ → ℕ → ℕ → ℕ → List ℕ
started s w sheet won =
    put_number (put_number (put_number (put_number (cleared (stepped_to s w read_tag) w) w at_sheet sheet) w at_turn won) w at_next 0) w at_place 0

-- on to the next instruction, some passed over; and with a register
unfoldable pub passed : List ℕ → ℕ → ℕ → List ℕ
passed s w over = put_number (stepped_to s w read_tag) w at_next (((run_now s w).next + 1 + over) % 2 ^ 8)

unfoldable pub went : List ℕ → ℕ → ℕ → ℕ → List ℕ
went s w a x = put_number (passed s w 0) w (at_register a) x

-- a halt's answer, on to Mark
unfoldable pub to_mark : List ℕ → ℕ → Bool → List ℕ
to_mark s w said = put_number (stepped_to s w mark_tag) w at_new (flag_number said)

-- a reading kept; a word read, on to Commit
unfoldable pub holding : List ℕ → ℕ → ℕ → Reading → List ℕ
holding s w tag r = put_number (put_number (stepped_to s w tag) w at_value r.value) w at_count r.count

abbrev pub to_commit : List ℕ → ℕ → Reading → List ℕ
to_commit s w r = holding s w commit_tag r

-- a log entry passed: "the place rises by one"
abbrev pub place_after : List ℕ → ℕ → ℕ
place_after s w = ((run_now s w).place + 1) % 2 ^ 8

-- and on to the next instruction, with a register, or to Swap
unfoldable pub logged : List ℕ → ℕ → List ℕ
logged s w = put_number (passed s w 0) w at_place (place_after s w)

unfoldable pub loaded : List ℕ → ℕ → ℕ → ℕ → List ℕ
loaded s w a x = put_number (logged s w) w (at_register a) x

unfoldable pub to_swap : List ℕ → ℕ → Reading → ℕ → List ℕ
to_swap s w held new = put_number (put_number (holding s w swap_tag held) w at_place (place_after s w)) w at_new new

-- on to Release; the end
abbrev pub to_release : List ℕ → ℕ → List ℕ
to_release s w = stepped_to s w release_tag

unfoldable pub finished : List ℕ → ℕ → Answer → List ℕ
finished s w answer = put_number (stepped_to s w finished_tag) w at_new (answer_number answer)

-- request 02: one entry more that the worker was first to fill
unfoldable pub counted : List ℕ → ℕ → List ℕ
counted s w = put_number s w at_filled (next32 (number_at s w at_filled))
