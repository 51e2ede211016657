-- What the numbers of each piece say, whatever they are, and the numbers that are written for it. A byte is a number's remainder
-- by 256; a flag is set where the number isn't 0.
mod Names
use Names.*
use Rattle.parts.specs.Parts.{registers0}
use Rattle.parts.specs.Pick.{pick, ◌isnt◌}
use Rattle.parts.specs.Told.{answer_number}

abbrev pub byte_of : ℕ → ℕ
byte_of x = x % 256

abbrev pub flag_of : ℕ → Bool
flag_of x = x isnt 0

abbrev pub flag_number : Bool → ℕ
flag_number b = pick b 1 0

-- 0: free; s + 1: held by sheet s
abbrev pub holder_of : ℕ → Option ℕ
holder_of x = pick (eqb x 0) None (Some (byte_of (x - 1)))

abbrev pub holder_number : Option ℕ → ℕ
holder_number None = 0
holder_number (Some s) = s + 1

-- turn, holder
abbrev pub lock_word_of : ℕ → ℕ → LockWord
lock_word_of turn holder = record { turn = turn; holder = holder_of holder }

abbrev pub lock_in : List ℕ → LockWord
lock_in l = lock_word_of (get_or l 0 0) (get_or l 1 0)

abbrev pub lock_numbers : LockWord → List ℕ
lock_numbers x = x.turn ∷ holder_number x.holder ∷ []

-- value, count, guard
abbrev pub word_in : List ℕ → Word
word_in l = record { value = get_or l 0 0; count = get_or l 1 0; guard = byte_of (get_or l 2 0) }

abbrev pub word_numbers : Word → List ℕ
word_numbers x = x.value ∷ x.count ∷ x.guard ∷ []

-- length, done
abbrev pub sheet_in : List ℕ → Sheet
sheet_in l = record { length = byte_of (get_or l 0 0); done = flag_of (get_or l 1 0) }

abbrev pub sheet_numbers : Sheet → List ℕ
sheet_numbers x = x.length ∷ flag_number x.done ∷ []

-- the four bytes of an instruction in one number
abbrev pub packed_instr : ℕ → Instr
packed_instr x =
    record { op = byte_of x; a = byte_of (x / 256); b = byte_of (x / 65536); c = byte_of (x / 16777216) }

abbrev pub instr_number : Instr → ℕ
instr_number x = x.op + 256 * x.a + 65536 * x.b + 16777216 * x.c

abbrev pub instr_in : List ℕ → Instr
instr_in l = packed_instr (get_or l 0 0)

abbrev pub instr_numbers : Instr → List ℕ
instr_numbers x = instr_number x ∷ []

-- 0: empty, any other: filled, and written as 1; value, count
abbrev pub fill_of : ℕ → ℕ → ℕ → Option Reading
fill_of filled value count = pick (eqb filled 0) None (Some (record { value = value; count = count }))

abbrev pub fill_numbers : Option Reading → List ℕ
fill_numbers None = 0 ∷ 0 ∷ 0 ∷ []
fill_numbers (Some r) = 1 ∷ r.value ∷ r.count ∷ []

abbrev pub entry_in : List ℕ → Entry
entry_in l = record { fill = fill_of (get_or l 0 0) (get_or l 1 0) (get_or l 2 0) }

abbrev pub entry_numbers : Entry → List ℕ
entry_numbers x = fill_numbers x.fill

-- A worker's tag: idle, at the point or stage of this name, finished
abbrev pub idle_tag : ℕ
idle_tag = 0

abbrev pub look_tag : ℕ
look_tag = 1

abbrev pub grab_tag : ℕ
grab_tag = 2

abbrev pub look_again_tag : ℕ
look_again_tag = 3

abbrev pub read_mark_tag : ℕ
read_mark_tag = 4

abbrev pub read_tag : ℕ
read_tag = 5

abbrev pub commit_tag : ℕ
commit_tag = 6

abbrev pub swap_tag : ℕ
swap_tag = 7

abbrev pub mark_tag : ℕ
mark_tag = 8

abbrev pub release_tag : ℕ
release_tag = 9

abbrev pub finished_tag : ℕ
finished_tag = 10

-- Which of a worker's 16 numbers is which: the tag, the lock, the own sheet, the accepted steps; the sheet of a run (before it, the
-- holder that Look again saw); a turn, at Grab the one that Look saw, later the one under which the sheet won; the run's next
-- instruction, log place and four registers; a value and a count read (before a run, the turn that Look again saw); the word's new value
-- (or what a halt said, or the answer); the entries that the worker was first to fill
abbrev pub at_tag : ℕ
at_tag = 0

abbrev pub at_lock : ℕ
at_lock = 1

abbrev pub at_own : ℕ
at_own = 2

abbrev pub at_steps : ℕ
at_steps = 3

abbrev pub at_sheet : ℕ
at_sheet = 4

abbrev pub at_turn : ℕ
at_turn = 5

abbrev pub at_next : ℕ
at_next = 6

abbrev pub at_place : ℕ
at_place = 7

-- register i; any above 3 is the last
unfoldable pub at_register : ℕ → ℕ
at_register i = pick (eqb i 0) 8 (pick (eqb i 1) 9 (pick (eqb i 2) 10 11))

abbrev pub at_value : ℕ
at_value = 12

abbrev pub at_count : ℕ
at_count = 13

abbrev pub at_new : ℕ
at_new = 14

abbrev pub at_filled : ℕ
at_filled = 15

abbrev pub registers_in : List ℕ → Registers
registers_in l = record { r0 = get_or l 8 0; r1 = get_or l 9 0; r2 = get_or l 10 0; r3 = get_or l 11 0 }

abbrev pub run_in : List ℕ → Run
run_in l =
    record {
      sheet = byte_of (get_or l at_sheet 0);
      won = get_or l at_turn 0;
      next = byte_of (get_or l at_next 0);
      place = byte_of (get_or l at_place 0);
      registers = registers_in l;
    }

abbrev pub reading_in : List ℕ → Reading
reading_in l = record { value = get_or l at_value 0; count = get_or l at_count 0 }

-- the lock word that Look again saw: its turn stands where a value does, its holder where a sheet does
abbrev pub seen_in : List ℕ → LockWord
seen_in l = lock_word_of (get_or l at_value 0) (get_or l at_sheet 0)

-- the answers' numbers; any other number says not taken too
unfoldable pub answer_in : ℕ → Answer
answer_in x = pick (eqb x 1) RanYes (pick (eqb x 2) RanNo (pick (eqb x 4) Worn NotTaken))

-- by the tag; any other than 0 to 9 says finished
unfoldable pub state_in : List ℕ → State
state_in l =
    pick (eqb (get_or l at_tag 0) idle_tag) Idle
    (pick (eqb (get_or l at_tag 0) look_tag) (UnderWay Look)
    (pick (eqb (get_or l at_tag 0) grab_tag) (UnderWay (Grab (get_or l at_turn 0)))
    (pick (eqb (get_or l at_tag 0) look_again_tag) (UnderWay (LookAgain (get_or l at_turn 0)))
    (pick (eqb (get_or l at_tag 0) read_mark_tag) (UnderWay (ReadMark (seen_in l) (get_or l at_turn 0)))
    (pick (eqb (get_or l at_tag 0) read_tag) (UnderWay (Point.Run (run_in l) Read))
    (pick (eqb (get_or l at_tag 0) commit_tag) (UnderWay (Point.Run (run_in l) (Commit (reading_in l))))
    (pick (eqb (get_or l at_tag 0) swap_tag) (UnderWay (Point.Run (run_in l) (Swap (reading_in l) (get_or l at_new 0))))
    (pick (eqb (get_or l at_tag 0) mark_tag) (UnderWay (Point.Run (run_in l) (Mark (flag_of (get_or l at_new 0)))))
    (pick (eqb (get_or l at_tag 0) release_tag) (UnderWay (Point.Run (run_in l) (Release (flag_of (get_or l at_new 0)))))
    (Finished (answer_in (get_or l at_new 0))))))))))))

abbrev pub worker_in : List ℕ → Worker
worker_in l =
    record {
      state = state_in l;
      lock = byte_of (get_or l at_lock 0);
      own = byte_of (get_or l at_own 0);
      steps = get_or l at_steps 0;
      filled = get_or l at_filled 0;
    }

abbrev pub run_numbers : Worker → ℕ → Run → ℕ → ℕ → ℕ → List ℕ
run_numbers k tag r value count new =
    tag ∷ k.lock ∷ k.own ∷ k.steps ∷ r.sheet ∷ r.won ∷ r.next ∷ r.place ∷ r.registers.r0 ∷ r.registers.r1 ∷
    r.registers.r2 ∷ r.registers.r3 ∷ value ∷ count ∷ new ∷ k.filled ∷ []

-- of a worker that is in no run
abbrev pub seen_numbers : Worker → ℕ → ℕ → ℕ → ℕ → ℕ → List ℕ
seen_numbers k tag sheet turn value new =
    run_numbers k tag (record { sheet = sheet; won = turn; next = 0; place = 0; registers = registers0 }) value 0 new

abbrev pub stage_numbers : Stage → Run → Worker → List ℕ
stage_numbers Read r k = run_numbers k read_tag r 0 0 0
stage_numbers (Commit x) r k = run_numbers k commit_tag r x.value x.count 0
stage_numbers (Swap x new) r k = run_numbers k swap_tag r x.value x.count new
stage_numbers (Mark b) r k = run_numbers k mark_tag r 0 0 (flag_number b)
stage_numbers (Release b) r k = run_numbers k release_tag r 0 0 (flag_number b)

abbrev pub point_numbers : Point → Worker → List ℕ
point_numbers Look k = seen_numbers k look_tag 0 0 0 0
point_numbers (Grab seen) k = seen_numbers k grab_tag 0 seen 0 0
point_numbers (LookAgain won) k = seen_numbers k look_again_tag 0 won 0 0
point_numbers (ReadMark l won) k = seen_numbers k read_mark_tag (holder_number l.holder) won l.turn 0
point_numbers (Point.Run r at) k = stage_numbers at r k

abbrev pub state_numbers : State → Worker → List ℕ
state_numbers Idle k = seen_numbers k idle_tag 0 0 0 0
state_numbers (UnderWay p) k = point_numbers p k
state_numbers (Finished a) k = seen_numbers k finished_tag 0 0 0 (answer_number a)

unfoldable pub worker_numbers : Worker → List ℕ
worker_numbers k = state_numbers k.state k

-- The bytes of a piece are bytes: a function that takes the piece by value knows it.
abbrev pub HolderFits : Option ℕ → Type 0
HolderFits None = Unit {0}
HolderFits (Some s) = s < 256

pub record TryFits (k : Worker) : Type 0 where
  pub lock : k.lock < 256
  pub own : k.own < 256

pub record RunFits (r : Run) : Type 0 where
  pub sheet : r.sheet < 256
  pub next : r.next < 256
  pub place : r.place < 256

abbrev pub PointFits : Point → Type 0
PointFits Look = Unit {0}
PointFits (Grab seen) = Unit {0}
PointFits (LookAgain won) = Unit {0}
PointFits (ReadMark l won) = HolderFits l.holder
PointFits (Point.Run r at) = RunFits r

abbrev pub StateFits : State → Type 0
StateFits Idle = Unit {0}
StateFits (UnderWay p) = PointFits p
StateFits (Finished a) = Unit {0}
