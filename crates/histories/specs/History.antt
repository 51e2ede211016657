-- Demand 3, over all histories: what the calls that were made come to (the calls and the state after them: past/specs), and what is
-- promised of every cut of every history. A job alone, a first part of one and a list of them: alone/specs (`alone_of`, `part_of`, `gives_of`, `times`).
mod Names
use Names.*
use Rattle.arrays.specs.Fresh.{guards_of, values_of}
use Rattle.records.specs.Bytes.{AllBytes}
use Rattle.records.specs.Job.{job_of, job_told}
use Rattle.alone.specs.Alone.{alone_of}
use Rattle.alone.specs.Jobs.{Try, gives_of, times, part_of}
use Rattle.engine.specs.State.{sheet0, lock_count, word_count, worker_at, lock_at, word_at, words_of, base_of, program_length, program_of}
use Rattle.engine.specs.Calls.{setup_of, begin_of, step_of, collect_of, drop_of}
use Rattle.histories.specs.Filling.{Filling, new_from, latest, runs_sheet, runs_at}
use Rattle.past.specs.Past.{Call, Begin, Step, Collect, Drop, ReadWord, ReadLock, Show, Park, steps, AllRecords, Past, state_after}

-- 1. WHAT A HISTORY COMES TO: the state; how many begins were accepted; the try of each worker's last accepted begin, and the
-- accepted steps of that worker since; the tries that won each lock, the latest first. For request 02: the tries that took each sheet,
-- the latest first; every filling of a log entry, the latest first; and of each try, by its number, whether it made a step in a run of the
-- job of a try, its own or another, by that one's number. For request 03: what the Look of each worker's try, its first step, found;
-- before it, `lock0`.
pub record Sofar : Type 0 where
  pub state : Engine
  pub begins : ℕ
  pub tries : ℕ → Try
  pub steps : ℕ → ℕ
  pub won : ℕ → List Try
  pub owners : ℕ → List Try
  pub fillings : List Filling
  pub ran : ℕ → ℕ → Bool
  pub found : ℕ → LockWord

abbrev pub start : Engine → Sofar
start e =
    record {
      state = e;
      begins = 0;
      tries = λ w. record { number = 0; lock = 0; program = [] };
      steps = λ w. 0;
      won = λ l. [];
      owners = λ s. [];
      fillings = [];
      ran = λ n j. false;
      found = λ w. lock0;
    }

-- a begin that is accepted and gives state e is the worker's try from now on, and takes the worker's own sheet; its number is how many
-- went before it
abbrev pub new_try : Sofar → ℕ → List ℕ → Try
new_try x l rec = record { number = x.begins; lock = l; program = job_of rec }

abbrev pub began : Sofar → ℕ → ℕ → List ℕ → Engine → Sofar
began x w l rec e =
    record {
      state = e;
      begins = suc x.begins;
      tries = λ v. pick (eqb v w) (new_try x l rec) (x.tries v);
      steps = λ v. pick (eqb v w) 0 (x.steps v);
      won = x.won;
      owners = λ s. pick (eqb s (worker_at e w).own) (new_try x l rec ∷ x.owners s) (x.owners s);
      fillings = x.fillings;
      ran = x.ran;
      found = λ v. pick (eqb v w) lock0 (x.found v);
    }

-- "Grab. .. it becomes turn + 1, held by the worker's own sheet": a lock that was free before a step and is held after it, was won
-- by the try of the worker that made the step
abbrev pub won_by : LockWord → LockWord → Bool
won_by before now = on_option before.holder (on_option now.holder false (λ s. true)) (λ s. false)

-- what worker w's step to state e filled: an entry's number tells its sheet, whose last owner's job it is
abbrev pub filled_by : Sofar → ℕ → Engine → List Filling
filled_by x w e =
    new_from
    (λ k what.
    record {
      job = latest (x.owners (k / instructions));
      by = (x.tries w).number;
      instruction = runs_at (worker_at x.state w).state;
      what = what;
    })
    0 x.state.entry e.entry

-- worker w's next step is one of a run of job j
abbrev pub runs_job : Sofar → ℕ → ℕ → Bool
runs_job x w j = on_option (runs_sheet (worker_at x.state w).state) false (λ s. eqb (latest (x.owners s)) j)

-- what the Look of worker w's try found once its next step is made: the lock word before it where that is the first, else what it was
abbrev pub found_by : Sofar → ℕ → LockWord
found_by x w = pick (eqb (x.steps w) 0) (lock_at x.state (x.tries w).lock) (x.found w)

-- a step that is accepted and gives state e
abbrev pub stepped : Sofar → ℕ → Engine → Sofar
stepped x w e =
    record {
      state = e;
      begins = x.begins;
      tries = x.tries;
      steps = λ v. pick (eqb v w) (suc (x.steps w)) (x.steps v);
      won = λ l. pick (won_by (lock_at x.state l) (lock_at e l)) (x.tries w ∷ x.won l) (x.won l);
      owners = x.owners;
      fillings = filled_by x w e ++ x.fillings;
      ran = λ n j. pick (eqb n (x.tries w).number) (x.ran n j or runs_job x w j) (x.ran n j);
      found = λ v. pick (eqb v w) (found_by x w) (x.found v);
    }

-- no other call begins, steps, wins or fills
abbrev pub and_now : Sofar → Engine → Sofar
and_now x e =
    record {
      state = e;
      begins = x.begins;
      tries = x.tries;
      steps = x.steps;
      won = x.won;
      owners = x.owners;
      fillings = x.fillings;
      ran = x.ran;
      found = x.found;
    }

-- an accepted call comes to this, by the state that it gave; a refused one to nothing new
abbrev pub if_accepted : Sofar → Outcome → (Engine → Sofar) → Sofar
if_accepted x o to = on_told o.told (to o.engine) (λ r. x)

unfoldable pub then_of : Sofar → Call → Sofar
then_of x (Begin w l rec) = if_accepted x (begin_of x.state w l rec) (began x w l rec)
then_of x (Step w) = if_accepted x (step_of x.state w) (stepped x w)
then_of x (Collect w) = and_now x (collect_of x.state w).engine
then_of x (Drop w) = and_now x (drop_of x.state w).engine
then_of x (ReadWord i) = x
then_of x (ReadLock l) = x
then_of x (Show s room) = x
then_of x (Park room) = x

unfoldable pub follow : Sofar → List Call → Sofar
follow x [] = x
follow x (c ∷ cs) = follow (then_of x c) cs

abbrev pub sofar : Past → Sofar
sofar p = follow (start (setup_of p.setup).engine) p.calls

-- 2. WHAT IS PROMISED, of what a history x comes to, from the state e₀ that its setup gave. Word q is one of the W words, and lock l
-- guards it.
abbrev pub Guards : Engine → ℕ → ℕ → Type 0
Guards e₀ l q = (q < word_count e₀) × ((word_at e₀ q).guard ≡ l)

-- in state e, the words that lock l guards hold these values
abbrev pub Hold : Engine → Engine → ℕ → List ℕ → Type 0
Hold e₀ e l values = (q : ℕ) → Guards e₀ l q → (word_at e q).value ≡ get_or values q 0

-- what the jobs of a list of tries give in the history that comes to x, from the setup's values
abbrev pub given : Engine → Sofar → List Try → List ℕ
given e₀ x tries = gives_of tries (values_of (words_of e₀))

-- a lock that sheet s holds: the last try of its list, which stands first, has its program there; its words hold what all but the
-- last give, then some first part of the last
pub record HeldWords (e₀ : Engine) (x : Sofar) (l s : ℕ) : Type 0 where
  pub last : Try
  pub earlier : List Try
  pub list : x.won l ≡ last ∷ earlier
  pub sheet : program_of x.state s ≡ last.program
  pub k : ℕ
  pub words : Hold e₀ x.state l (part_of k last.program (given e₀ x earlier))

-- worker w begins on lock l and is stepped alone, 193 times: what the history comes to then
abbrev pub helped : Sofar → ℕ → ℕ → List ℕ → Sofar
helped x w l rec = follow x (Begin w l rec ∷ steps 193 w)

-- the begin is accepted; then the worker has finished, not taken, the lock is free at the same turn, and its words hold what all
-- its jobs give
pub record Completed (e₀ : Engine) (x : Sofar) (w l : ℕ) (rec : List ℕ) : Type 0 where
  pub begun : (begin_of x.state w l rec).told ≡ Ok tt
  pub answer : (worker_at (helped x w l rec).state w).state ≡ Finished NotTaken
  pub lock : lock_at (helped x w l rec).state l ≡ record { turn = (lock_at x.state l).turn; holder = None }
  pub words : Hold e₀ (helped x w l rec).state l (given e₀ (helped x w l rec) (x.won l))

-- try t stands in its lock's list, once, and in no other; alone, after those before it, its job answers this
pub record RanOnce (e₀ : Engine) (x : Sofar) (t : Try) (said : Bool) : Type 0 where
  pub later : List Try
  pub earlier : List Try
  pub list : x.won t.lock ≡ later ++ (t ∷ earlier)
  pub once : times t.number (x.won t.lock) ≡ 1
  pub nowhere : (l : ℕ) → l ≢ t.lock → times t.number (x.won l) ≡ 0
  pub answer : (alone_of t.program (given e₀ x earlier)).yes ≡ said

-- a worker under way: its next step is accepted, and leads on or to an answer
pub record GoesOn (e : Engine) (w : ℕ) : Type 0 where
  pub told : (step_of e w).told ≡ Ok tt
  pub on : (worker_at (step_of e w).engine w).state ≢ Idle

-- No remainder and no wrap of the definitions changes a number that is used. Of a run: its sheet, its instruction, its log place, where
-- it goes on, the word that its instruction names (where it names none, the step puts the word back as it was), its registers.
abbrev pub instr_of : Engine → Run → Instr
instr_of e r = get_or e.program (base_of r.sheet + r.next) instr0

pub record RunUncut (e : Engine) (r : Run) : Type 0 where
  pub sheet : r.sheet % sheets ≡ r.sheet
  pub next : r.next % instructions ≡ r.next
  pub place : r.place % instructions ≡ r.place
  pub onto : (r.next + 1) % 2 ^ 8 ≡ r.next + 1
  pub over :
      (rs : Registers) (n : ℕ) → asks_of (instr_of e r) r.registers ≡ Go rs n → (r.next + 1 + n) % 2 ^ 8 ≡ r.next + 1 + n
  pub logged : (r.place + 1) % 2 ^ 8 ≡ r.place + 1
  pub word :
      (v : ℕ) → asks_of (instr_of e r) r.registers ≡ Touch v → (word_of (instr_of e r) % most_words ≡ v) × (v < e.words)
  pub registers : (i : ℕ) → register_of r.registers i < 2 ^ 32

abbrev pub PointUncut : Engine → Point → Type 0
PointUncut e Look = Unit {0}
PointUncut e (Grab seen) = next32 seen ≡ seen + 1
PointUncut e (LookAgain won) = Unit {0}
PointUncut e (ReadMark seen won) = Unit {0}
PointUncut e (Point.Run r at) = RunUncut e r

-- of worker w, under way at p: its lock is one of the L locks, its own sheet is a sheet, its count of steps rises by one (so does that of
-- the entries filled: `kept` of Filled.antt)
pub record WorkerUncut (e : Engine) (w : ℕ) (p : Point) : Type 0 where
  pub below : (worker_at e w).lock < e.locks
  pub lock : (worker_at e w).lock % most_locks ≡ (worker_at e w).lock
  pub own : (worker_at e w).own % sheets ≡ (worker_at e w).own
  pub steps : next32 (worker_at e w).steps ≡ (worker_at e w).steps + 1
  pub point : PointUncut e p

-- of a state: L and W, and a sheet's number of instructions, are what it has; every word is guarded by one of the L locks, its value
-- has 32 bits, and its count stays below 2 to the 32nd, once more raised too
pub record Uncut (e : Engine) : Type 0 where
  pub locks : lock_count e ≡ e.locks
  pub words : word_count e ≡ e.words
  pub guard : (q : ℕ) → q < e.words → (word_at e q).guard < e.locks
  pub program : (s : ℕ) → program_length e s ≡ (get_or e.sheet s sheet0).length
  pub turn : (l : ℕ) → (lock_at e l).turn ≤ last_turn
  pub value : (q : ℕ) → (word_at e q).value < 2 ^ 32
  pub count : (q : ℕ) → q < e.words → (word_at e q).count + 1 < 2 ^ 32
  pub worker : (w : ℕ) (p : Point) → (worker_at e w).state ≡ UnderWay p → WorkerUncut e w p

-- "Cut any sequence of calls from a valid setup anywhere, drops included.": what holds at the end of every history
pub record Promised (e₀ : Engine) (x : Sofar) : Type 0 where
  -- "If it is free, its words are what those jobs give, run once each, alone, in that order."
  pub free : (l : ℕ) → (lock_at x.state l).holder ≡ None → Hold e₀ x.state l (given e₀ x (x.won l))
  -- "If it is held, they are what all but the last give and then some first part of the last"
  pub held : (l s : ℕ) → (lock_at x.state l).holder ≡ Some s → HeldWords e₀ x l s
  -- "any worker that then begins a valid job there and is stepped alone completes the last one within 97 steps", 193 since request 04:
  -- every idle worker
  pub helping :
      (l s : ℕ) → (lock_at x.state l).holder ≡ Some s → (w : ℕ) (rec : List ℕ) → w < workers →
      (worker_at x.state w).state ≡ Idle → AllBytes rec →
      job_told rec l (guards_of (words_of x.state)) ≡ Ok tt → Completed e₀ x w l rec
  -- ""Ran" tells the yes or no of that one run."
  pub ran :
      (w n m : ℕ) (said : Bool) → (collect_of x.state w).told ≡ Ok (answered (pick said RanYes RanNo) n m) →
      RanOnce e₀ x (x.tries w) said
  -- ""Not taken" is only told of a job outside the list.", and by request 03 so is "worn"; now and at every later cut
  pub not_taken :
      (w n m : ℕ) (worn : Bool) → (collect_of x.state w).told ≡ Ok (answered (pick worn Worn NotTaken) n m) →
      (more : List Call) → AllRecords more →
      (l : ℕ) → times (x.tries w).number ((follow x more).won l) ≡ 0
  -- the tries of a lock's list began on that lock; a try stands in the lists once at most; and a lock's turn is its starting turn and one
  -- for each try of its list
  pub listed :
      (l : ℕ) (later : List Try) (t : Try) (earlier : List Try) → x.won l ≡ later ++ (t ∷ earlier) → t.lock ≡ l
  pub once : (n l : ℕ) → times n (x.won l) ≤ 1
  pub only : (n l m : ℕ) → 1 ≤ times n (x.won l) → 1 ≤ times n (x.won m) → l ≡ m
  pub turn : (l : ℕ) → (lock_at x.state l).turn ≡ (lock_at e₀ l).turn + length (x.won l)
  -- "Every try ends within 100 of its own steps", 196 since request 04: while it is under way it has made fewer, and can make the next
  pub ends :
      (w : ℕ) (p : Point) → w < workers → (worker_at x.state w).state ≡ UnderWay p →
      (x.steps w < 196) × GoesOn x.state w
  -- document 01's "one that helps from step 1 at most 97", 193 since request 04: a try whose Look found its lock held, whoever steps in
  -- between
  pub ends_helping :
      (w s : ℕ) → (x.found w).holder ≡ Some s →
      ((p : Point) → (worker_at x.state w).state ≡ UnderWay p → x.steps w < 193) ×
      ((a : Answer) (n m : ℕ) → (collect_of x.state w).told ≡ Ok (answered a n m) → n ≤ 193)
  -- "Collect (worker) hands out .. the number of accepted steps since begin"
  pub counted :
      (w : ℕ) (a : Answer) (n m : ℕ) → (collect_of x.state w).told ≡ Ok (answered a n m) →
      (n ≡ x.steps w) × (n ≤ 196)
  -- turns at most 67,108,864, counts below 2 to the 32nd, and nothing is cut
  pub uncut : Uncut x.state

-- the state is the state after the calls, and all of the above holds of it
pub record Demand3 (p : Past) : Type 0 where
  pub state : (sofar p).state ≡ state_after p
  pub promised : Promised (setup_of p.setup).engine (sofar p)
