-- Request 01: "A file is one setup record, as long as its length field says, then call records. It is walked by a reader that holds the
-- recorded bytes and its place; a program over it prints, for each call, its index from 0, the refusal number (0 if accepted) and, for
-- collect, answer and steps (0 and 0 otherwise), in decimal with single spaces, a line each." Request 02: "Req 01's line for an
-- accepted collect gains it at its end", the number of entries that the worker was first to fill.
mod Names
use Names.*
use Rattle.parts.specs.Pick.{pick, ◌or◌}
use Rattle.parts.specs.Told.{on_told, answer_number, refusal_number}
use Rattle.records.specs.Bytes.{length_field}
use Rattle.engine.specs.Calls.{setup_of, begin_of, step_of, collect_of, drop_of}
use Rattle.engine.specs.State.{blank_of}
use Rattle.past.specs.Past.{Call, Begin, Step, Collect, Drop, ReadWord, ReadLock, Show, Park, after}
use Rattle.calls.specs.Record.{record_told, call_in}
use Rattle.text.specs.Text.{newline, decimal_of, number_text, three_text}

infixr 20 ◌before◌
-- "the refusal number (0 if accepted) and, for collect, answer and steps (0 and 0 otherwise)"
abbrev pub refused_line : Refusal → Line
refused_line r = Number (refusal_number r)

abbrev pub accepted_line : Line
accepted_line = Number 0

abbrev pub told_line : Told → Line
told_line told = on_told told accepted_line refused_line

abbrev pub collect_line : Result Answered Refusal → Line
collect_line (Ok x) = Answer (answer_number x.answer) x.steps x.filled
collect_line (Err r) = refused_line r

-- what is told of a call made on state e; those that read or write are in no file, and any line will do
unfoldable pub call_line : Engine → Call → Line
call_line e (Begin w l rec) = told_line (begin_of e w l rec).told
call_line e (Step w) = told_line (step_of e w).told
call_line e (Collect w) = collect_line (collect_of e w).told
call_line e (Drop w) = told_line (drop_of e w).told
call_line e (ReadWord i) = accepted_line
call_line e (ReadLock l) = accepted_line
call_line e (Show s room) = accepted_line
call_line e (Park room) = accepted_line

-- what a walk comes to: the lines, and the state after the last call
pub record Walked : Type 0 where
  pub lines : List Line
  pub engine : Engine

abbrev pub ◌before◌ : Line → Walked → Walked
line before walked = record { lines = line ∷ walked.lines; engine = walked.engine }

-- The call records of s, on state e. The recursion is on the bytes: n of them are passed over first, which is what is left of a record
-- that was read. "Each ends the walk after its line, ending 0 0": 5, 6 and 17 of a record
unfoldable pub walk_from : ℕ → Engine → List ℕ → Walked
walk_from n e [] = record { lines = []; engine = e }
walk_from (suc n) e (b ∷ s) = walk_from n e s
walk_from zero e (b ∷ s) =
    on_told (record_told (b ∷ s))
    (call_line e (call_in (b ∷ s)) before walk_from (length_field (b ∷ s) - 1) (after e (call_in (b ∷ s))) s)
    (λ r. record { lines = refused_line r ∷ []; engine = e })

-- "in decimal with single spaces, a line each": what is told after the index, and the line
unfoldable pub told_of : Line → List ℕ
told_of (Number number) = three_text number 0 0
told_of (Answer answer steps filled) = number_text 0 ++ three_text answer steps filled

abbrev pub line_text : ℕ → Line → List ℕ
line_text index line = decimal_of index ++ (told_of line ++ (newline ∷ []))

-- of which the first has this index
unfoldable pub lines_text : ℕ → List Line → List ℕ
lines_text index [] = []
lines_text index (line ∷ lines) = line_text index line ++ lines_text (index + 1) lines

-- a refusal's number, alone on a line
unfoldable pub number_line : Refusal → List ℕ
number_line r = decimal_of (refusal_number r) ++ (newline ∷ [])

-- a file whose first n bytes are its setup record: the records after them, on the state that setup gives
abbrev pub walked_from : List ℕ → ℕ → Walked
walked_from file n = walk_from zero (setup_of (take n file)).engine (drop n file)

-- what is printed, and the state that is left: they are walked only where setup accepts
unfoldable pub setup_text : List ℕ → ℕ → List ℕ
setup_text file n = on_told (setup_of (take n file)).told (lines_text 0 (walked_from file n).lines) number_line

unfoldable pub setup_state : List ℕ → ℕ → Engine
setup_state file n = on_told (setup_of (take n file)).told (walked_from file n).engine (λ r. blank_of)

-- "Standard input above 65,536 bytes, or else a setup cut short": fewer than the 2 bytes of its length field, or fewer than it says
abbrev pub most_file : ℕ
most_file = 65536

abbrev pub no_setup : List ℕ → Bool
no_setup file = ltb most_file (length file) or ltb (length file) 2 or ltb (length file) (length_field file)

-- ".. prints 5 and stops; a refused setup its number."
unfoldable pub printed_of : List ℕ → List ℕ
printed_of file = pick (no_setup file) (number_line Length) (setup_text file (length_field file))

-- the state after the last call; the blank one where there is no setup
unfoldable pub replayed_state : List ℕ → Engine
replayed_state file = pick (no_setup file) blank_of (setup_state file (length_field file))

-- the most bytes of a line, five numbers of at most 20 digits, four spaces and its end; and of a text: a file has fewer than 8,192
-- records that are accepted, of at least 8 bytes each, and at most one that is refused
abbrev pub most_line : ℕ
most_line = 105

abbrev pub most_text : ℕ
most_text = most_line * 8192
