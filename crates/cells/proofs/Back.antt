-- What is written reads back, of pieces whose bytes are bytes.
use Rattle.std.specs.Prelude.{None, Option, Some}
use Prim.Native.Nat.{ℕ, ◌+◌, ◌*◌, ◌/◌, ◌<◌}
use mathlib.Core.Bool.{Bool, true, false}
use mathlib.Core.List.{List}
use mathlib.Core.Path.{◌≡◌, refl, ◌∙◌, ap}
use native.Mathlib.Omega.{arith}
use borrow.Author.Tests.{ne_eqb}
use lib.ListN.{get_or, length}
use Rattle.parts.specs.Told.{answer_number}
use Rattle.parts.specs.declared.Answer.TheVariants.{RanYes, RanNo, NotTaken, Worn}
use Rattle.parts.specs.declared.Answer.{Answer}
use Rattle.parts.specs.declared.Entry.{Entry}
use Rattle.parts.specs.declared.Instr.{Instr}
use Rattle.parts.specs.declared.LockWord.{LockWord}
use Rattle.parts.specs.declared.Word.{Word}
use Rattle.steps.specs.declared.Point.TheVariants.{Look, Grab, LookAgain, ReadMark}
use Rattle.steps.specs.declared.Point.{Point}
use Rattle.steps.specs.declared.Run.{Run}
use Rattle.steps.specs.declared.Stage.TheVariants.{Read, Commit, Swap, Mark, Release}
use Rattle.steps.specs.declared.State.TheVariants.{Idle, UnderWay, Finished}
use Rattle.steps.specs.declared.State.{State}
use Rattle.steps.specs.declared.Worker.{Worker}
use Rattle.engine.specs.declared.Sheet.{Sheet}
use Rattle.cells.specs.Codes.{byte_of, flag_of, flag_number, holder_of, holder_number, lock_in, lock_numbers, word_in, word_numbers, sheet_in, sheet_numbers, packed_instr, instr_number, entry_in, entry_numbers, fill_numbers, run_in, answer_in, state_in, worker_in, run_numbers, point_numbers, state_numbers, worker_numbers, HolderFits, TryFits, RunFits, PointFits, StateFits}
use Rattle.cells.specs.Layout.{worker_used}
use Rattle.parts.specs.declared.Reading.{Reading}

pub byte_back : (x : ℕ) → x < 256 → byte_of x ≡ x
byte_back x h = omega arith

pub flag_back : (b : Bool) → flag_of (flag_number b) ≡ b
flag_back true = refl
flag_back false = refl

holder_back : (h : Option ℕ) → HolderFits h → holder_of (holder_number h) ≡ h
holder_back None o = refl
holder_back (Some s) o = simp (ne_eqb (s + 1) 0 (λ e. omega arith)) (ap Some (omega arith))

pub answer_back : (a : Answer) → answer_in (answer_number a) ≡ a
unfolding answer_in answer_number
answer_back RanYes = refl
answer_back RanNo = refl
answer_back NotTaken = refl
answer_back Worn = refl

pub lock_back : (x : LockWord) → HolderFits x.holder → lock_in (lock_numbers x) ≡ x
lock_back x o = λ t. record { turn = x.turn; holder = holder_back x.holder o t }

pub word_back : (x : Word) → x.guard < 256 → word_in (word_numbers x) ≡ x
word_back x o = λ t. record { value = x.value; count = x.count; guard = byte_back x.guard o t }

pub sheet_back : (x : Sheet) → x.length < 256 → sheet_in (sheet_numbers x) ≡ x
sheet_back x o = λ t. record { length = byte_back x.length o t; done = flag_back x.done t }

pub instr_back : (x : Instr) → x.op < 256 → x.a < 256 → x.b < 256 → x.c < 256 → packed_instr (instr_number x) ≡ x
instr_back x p q r s =
    let n = instr_number x in
    let h : n / 256 ≡ x.a + 256 * x.b + 65536 * x.c = omega arith in
    let k : n / 65536 ≡ x.b + 256 * x.c = omega arith in
    let l : n / 16777216 ≡ x.c = omega arith in
    let d : byte_of n ≡ x.op = low x.op (x.a + 256 * x.b + 65536 * x.c) n p (omega arith) in
    let e : byte_of (n / 256) ≡ x.a = low x.a (x.b + 256 * x.c) (n / 256) q (omega arith) in
    let f : byte_of (n / 65536) ≡ x.b = low x.b x.c (n / 65536) r (omega arith) in
    let g : byte_of (n / 16777216) ≡ x.c = low x.c 0 (n / 16777216) s (omega arith) in
    λ t. record { op = d t; a = e t; b = f t; c = g t }
  where
    low : (a m n : ℕ) → a < 256 → n ≡ a + 256 * m → byte_of n ≡ a
    low a m n h e = omega arith

pub entry_back : (x : Entry) → entry_in (entry_numbers x) ≡ x
entry_back x = go x.fill
  where
    go : (h : Option Reading) → entry_in (fill_numbers h) ≡ record { fill = h }
    go None = refl
    go (Some r) = refl

run_back : (k : Worker) (tag value count new : ℕ) (r : Run) → RunFits r → run_in (run_numbers k tag r value count new) ≡ r
run_back k tag value count new r o =
    λ t.
    record {
      sheet = byte_back r.sheet o.sheet t;
      won = r.won;
      next = byte_back r.next o.next t;
      place = byte_back r.place o.place t;
      registers = r.registers;
    }

point_back : (p : Point) (k : Worker) → PointFits p → state_in (point_numbers p k) ≡ UnderWay p
unfolding state_in
point_back Look k o = refl
point_back (Grab won) k o = refl
point_back (LookAgain won) k o = refl
point_back (ReadMark l won) k o = λ t. UnderWay (ReadMark (lock_back l o t) won)
point_back (Point.Run r Read) k o = λ t. UnderWay (Point.Run (run_back k 5 0 0 0 r o t) Read)
point_back (Point.Run r (Commit x)) k o = λ t. UnderWay (Point.Run (run_back k 6 x.value x.count 0 r o t) (Commit x))
point_back (Point.Run r (Swap x new)) k o = λ t. UnderWay (Point.Run (run_back k 7 x.value x.count new r o t) (Swap x new))
point_back (Point.Run r (Mark b)) k o = λ t. UnderWay (Point.Run (run_back k 8 0 0 (flag_number b) r o t) (Mark (flag_back b t)))
point_back (Point.Run r (Release b)) k o = λ t. UnderWay (Point.Run (run_back k 9 0 0 (flag_number b) r o t) (Release (flag_back b t)))

state_back : (s : State) (k : Worker) → StateFits s → state_in (state_numbers s k) ≡ s
unfolding state_in
state_back Idle k o = refl
state_back (UnderWay p) k o = point_back p k o
state_back (Finished a) k o = ap Finished (answer_back a)

-- what the numbers of every state have in common
record Common (l : List ℕ) (k : Worker) : Type 0 where
  lock : get_or l 1 0 ≡ k.lock
  own : get_or l 2 0 ≡ k.own
  steps : get_or l 3 0 ≡ k.steps
  filled : get_or l 15 0 ≡ k.filled
  long : length l ≡ worker_used

run_common : (k : Worker) (tag : ℕ) (r : Run) (value count new : ℕ) → Common (run_numbers k tag r value count new) k
run_common k tag r value count new = record { lock = refl; own = refl; steps = refl; filled = refl; long = refl }

point_common : (p : Point) (k : Worker) → Common (point_numbers p k) k
point_common Look k = run_common k _ _ _ _ _
point_common (Grab won) k = run_common k _ _ _ _ _
point_common (LookAgain won) k = run_common k _ _ _ _ _
point_common (ReadMark l won) k = run_common k _ _ _ _ _
point_common (Point.Run r Read) k = run_common k _ _ _ _ _
point_common (Point.Run r (Commit x)) k = run_common k _ _ _ _ _
point_common (Point.Run r (Swap x new)) k = run_common k _ _ _ _ _
point_common (Point.Run r (Mark b)) k = run_common k _ _ _ _ _
point_common (Point.Run r (Release b)) k = run_common k _ _ _ _ _

state_common : (s : State) (k : Worker) → Common (state_numbers s k) k
state_common Idle k = run_common k _ _ _ _ _
state_common (UnderWay p) k = point_common p k
state_common (Finished a) k = run_common k _ _ _ _ _

pub length_worker : (k : Worker) → length (worker_numbers k) ≡ worker_used
unfolding worker_numbers
length_worker k = (state_common k.state k).long

pub length_entry : (x : Entry) → length (entry_numbers x) ≡ 3
length_entry x = go x.fill
  where
    go : (h : Option Reading) → length (fill_numbers h) ≡ 3
    go None = refl
    go (Some r) = refl

pub worker_back : (k : Worker) → TryFits k → StateFits k.state → worker_in (worker_numbers k) ≡ k
unfolding worker_numbers
worker_back k o f =
    let c = state_common k.state k in
    λ t.
    record {
      state = state_back k.state k f t;
      lock = (ap byte_of c.lock ∙ byte_back k.lock o.lock) t;
      own = (ap byte_of c.own ∙ byte_back k.own o.own) t;
      steps = c.steps t;
      filled = c.filled t;
    }
