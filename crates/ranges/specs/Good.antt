-- Turns at most 67,108,864, values of 32 bits, every index in its range: the ranges that hold in every state that the calls gave.
-- What is said of an element is said at every place, past the end too, where the array has its first values.
use Rattle.std.specs.Prelude.{ℕ, ◌-◌, ◌^◌, ◌≤◌, ◌<◌, ◌≡◌, ◌⊎◌, length, get_or, None, Option, Some}
use Rattle.parts.specs.Numbers.{workers, most_locks, most_words, sheets, instructions, entries, last_turn}
use Rattle.parts.specs.Parts.{instr0, entry0, lock0, word0}
use Rattle.parts.specs.declared.Entry.{Entry}
use Rattle.parts.specs.declared.Instr.{Instr}
use Rattle.parts.specs.declared.LockWord.{LockWord}
use Rattle.parts.specs.declared.Reading.{Reading}
use Rattle.parts.specs.declared.Registers.{Registers}
use Rattle.parts.specs.declared.Word.{Word}
use Rattle.steps.specs.Worker.{worker0}
use Rattle.steps.specs.declared.Point.{Point}
use Rattle.steps.specs.declared.Point.TheVariants.{Look, Grab, LookAgain, ReadMark}
use Rattle.steps.specs.declared.Run.{Run}
use Rattle.steps.specs.declared.Stage.{Stage}
use Rattle.steps.specs.declared.Stage.TheVariants.{Read, Commit, Swap, Mark, Release}
use Rattle.steps.specs.declared.State.{State}
use Rattle.steps.specs.declared.State.TheVariants.{Idle, UnderWay, Finished}
use Rattle.steps.specs.declared.Worker.{Worker}
use Rattle.engine.specs.State.{sheet0}
use Rattle.engine.specs.declared.Engine.{Engine}
use Rattle.engine.specs.declared.Sheet.{Sheet}

-- a number of 32 bits
abbrev pub Fits32 : ℕ → Type 0
Fits32 n = n < 2 ^ 32

-- a byte
abbrev pub Byte : ℕ → Type 0
Byte n = n < 256

-- "either free or held by a named sheet"
abbrev pub GoodHolder : Option ℕ → Type 0
GoodHolder None = Unit {0}
GoodHolder (Some s) = s < sheets

-- "Turns run from 0 to 67,108,864"
pub record GoodLock (l : LockWord) : Type 0 where
  pub turn : l.turn ≤ last_turn
  pub holder : GoodHolder l.holder

-- a word of a state with L locks: "a 32-bit value, a 32-bit count of changes .. and one guarding lock". The guard is below L;
-- of a word that there is not, in the blank state too, it is 0
pub record GoodWord (locks : ℕ) (w : Word) : Type 0 where
  pub value : Fits32 w.value
  pub count : Fits32 w.count
  pub guard : w.guard ≤ locks - 1

pub record GoodReading (r : Reading) : Type 0 where
  pub value : Fits32 r.value
  pub count : Fits32 r.count

pub record GoodRegisters (r : Registers) : Type 0 where
  pub r0 : Fits32 r.r0
  pub r1 : Fits32 r.r1
  pub r2 : Fits32 r.r2
  pub r3 : Fits32 r.r3

pub record GoodInstr (i : Instr) : Type 0 where
  pub op : Byte i.op
  pub a : Byte i.a
  pub b : Byte i.b
  pub c : Byte i.c

abbrev pub GoodFill : Option Reading → Type 0
GoodFill None = Unit {0}
GoodFill (Some r) = GoodReading r

abbrev pub GoodEntry : Entry → Type 0
GoodEntry e = GoodFill e.fill

-- 1 to 64 instructions in a job; a sheet that no job was copied to has none
abbrev pub GoodSheet : Sheet → Type 0
GoodSheet s = s.length ≤ instructions

pub record GoodRun (r : Run) : Type 0 where
  pub sheet : r.sheet < sheets
  pub won : r.won ≤ last_turn
  pub next : Byte r.next
  pub place : Byte r.place
  pub registers : GoodRegisters r.registers

-- what a run remembers at a stage
abbrev pub GoodStage : Stage → Type 0
GoodStage Read = Unit {0}
GoodStage (Commit read) = GoodReading read
GoodStage (Swap entry new) = GoodReading entry × Fits32 new
GoodStage (Mark said) = Unit {0}
GoodStage (Release said) = Unit {0}

-- what a worker remembers at a point of its try. Look goes on to Grab only where the lock's turn is not the last.
abbrev pub GoodPoint : Point → Type 0
GoodPoint Look = Unit {0}
GoodPoint (Grab seen) = seen < last_turn
GoodPoint (LookAgain won) = won ≤ last_turn
GoodPoint (ReadMark seen won) = GoodLock seen × (won ≤ last_turn)
GoodPoint (Point.Run r at) = GoodRun r × GoodStage at

-- of a state with L locks: where a worker is under way there is a lock
abbrev pub GoodState : ℕ → State → Type 0
GoodState locks Idle = Unit {0}
GoodState locks (UnderWay p) = (1 ≤ locks) × GoodPoint p
GoodState locks (Finished x) = Unit {0}

-- a worker of a state with L locks. Its lock is below L; where it never began, in the blank state too, it is 0
pub record GoodWorker (locks : ℕ) (k : Worker) : Type 0 where
  pub lock : k.lock ≤ locks - 1
  pub own : k.own < sheets
  pub steps : Fits32 k.steps
  pub filled : Fits32 k.filled
  pub state : GoodState locks k.state

-- the length of each array
pub record GoodLengths (e : Engine) : Type 0 where
  pub word : length e.word ≡ most_words
  pub lock : length e.lock ≡ most_locks
  pub sheet : length e.sheet ≡ sheets
  pub program : length e.program ≡ entries
  pub entry : length e.entry ≡ entries
  pub worker : length e.worker ≡ workers

-- "1 to 16 locks, 1 to 64 words", or "the blank state: no locks, no words"
pub record GoodNumbers (l w : ℕ) : Type 0 where
  pub locks : l ≤ most_locks
  pub words : w ≤ most_words
  pub both : ((l ≡ 0) × (w ≡ 0)) ⊎ ((1 ≤ l) × (1 ≤ w))

pub record Good (e : Engine) : Type 0 where
  pub numbers : GoodNumbers e.locks e.words
  pub lengths : GoodLengths e
  pub word : (k : ℕ) → GoodWord e.locks (get_or e.word k word0)
  pub lock : (k : ℕ) → GoodLock (get_or e.lock k lock0)
  pub sheet : (k : ℕ) → GoodSheet (get_or e.sheet k sheet0)
  pub program : (k : ℕ) → GoodInstr (get_or e.program k instr0)
  pub entry : (k : ℕ) → GoodEntry (get_or e.entry k entry0)
  pub worker : (k : ℕ) → GoodWorker e.locks (get_or e.worker k worker0)
