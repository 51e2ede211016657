-- The machine of the theory: the engine of document 01 with any number of workers, locks, words and sheets, of which nothing has
-- an end: no array, no remainder, no wrap. A worker, its point and its run are the engine's own; what it filled is not counted here.
use Rattle.std.specs.Prelude.{ℕ, suc, ◌+◌, ◌≡◌, ◌≢◌, Bool, true, false, List, ◌∷◌, eqb, get_or, None, Option, Some}
use Rattle.parts.specs.Instr.{asks_of, follows_of, on_asks, on_follows}
use Rattle.parts.specs.Parts.{instr0}
use Rattle.parts.specs.Pick.{pick, on_option}
use Rattle.parts.specs.declared.Answer.TheVariants.{NotTaken, Worn}
use Rattle.parts.specs.declared.Follows.{Follows}
use Rattle.parts.specs.declared.Instr.{Instr}
use Rattle.parts.specs.declared.LockWord.{LockWord}
use Rattle.parts.specs.declared.Reading.{Reading}
use Rattle.parts.specs.declared.Registers.{Registers}
use Rattle.steps.specs.Places.{helped_of}
use Rattle.steps.specs.Try.{start_of, answer_of}
use Rattle.steps.specs.Worker.{worker0, looking_of}
use Rattle.steps.specs.declared.Point.{Point}
use Rattle.steps.specs.declared.Point.TheVariants.{Look, Grab, LookAgain, ReadMark}
use Rattle.steps.specs.declared.Run.{Run}
use Rattle.steps.specs.declared.Stage.{Stage}
use Rattle.steps.specs.declared.Stage.TheVariants.{Read, Commit, Swap, Mark, Release}
use Rattle.steps.specs.declared.State.{State}
use Rattle.steps.specs.declared.State.TheVariants.{UnderWay, Finished}
use Rattle.steps.specs.declared.Worker.{Worker}
use Rattle.alone.specs.Jobs.{Try}

-- what a setup fixes: the guard and the value of each word; and two of the engine's numbers, the most instructions in a job and
-- the last turn
pub record Rules : Type 0 where
  pub guard : ℕ → ℕ
  pub values : List ℕ
  pub most : ℕ
  pub last : ℕ

-- the words (value and count), the lock words, the program, the mark and the log of each sheet, the workers
pub record Scene : Type 0 where
  pub word : ℕ → Reading
  pub lock : ℕ → LockWord
  pub program : ℕ → List Instr
  pub done : ℕ → Bool
  pub log : ℕ → ℕ → Option Reading
  pub worker : ℕ → Worker

-- f, but x at k
abbrev pub put : {A : Type 0} → (ℕ → A) → ℕ → A → ℕ → A
put f k x i = pick (eqb i k) x (f i)

abbrev pub set_worker : Scene → ℕ → Worker → Scene
set_worker E i k =
    record {
      word = E.word;
      lock = E.lock;
      program = E.program;
      done = E.done;
      log = E.log;
      worker = put E.worker i k;
    }

abbrev pub set_lock : Scene → ℕ → LockWord → Scene
set_lock E l x =
    record {
      word = E.word;
      lock = put E.lock l x;
      program = E.program;
      done = E.done;
      log = E.log;
      worker = E.worker;
    }

abbrev pub set_done : Scene → ℕ → Scene
set_done E s =
    record {
      word = E.word;
      lock = E.lock;
      program = E.program;
      done = put E.done s true;
      log = E.log;
      worker = E.worker;
    }

-- what a run of a sheet shares with the others of that sheet: the words, and the sheet's log
pub record Shared : Type 0 where
  pub word : ℕ → Reading
  pub log : ℕ → Option Reading

abbrev pub shared_of : Scene → ℕ → Shared
shared_of E s = record { word = E.word; log = E.log s }

abbrev pub set_shared : Scene → ℕ → Shared → Scene
set_shared E s x =
    record {
      word = x.word;
      lock = E.lock;
      program = E.program;
      done = E.done;
      log = put E.log s x.log;
      worker = E.worker;
    }

-- What an instruction asks for: the end, with the job's answer; new registers, and how many instructions to pass over; a word,
-- with what follows from its value. The eight instructions enter here, and nowhere else.
pub data Act : Type 0 where
  fin : Bool → Act
  go : Registers → ℕ → Act
  touch : ℕ → (ℕ → Follows) → Act

unfoldable pub act_of : Instr → Registers → Act
act_of i r = on_asks (asks_of i r) (λ said. fin said) (λ next n. go next n) (λ w. touch w (follows_of i r))

abbrev pub act_at : List Instr → ℕ → Registers → Act
act_at code next r = act_of (get_or code next instr0) r

abbrev pub target : Act → ℕ
target (fin said) = 0
target (go r n) = 0
target (touch w f) = w

-- a run at its next instruction, some passed over; and with one entry more behind it
abbrev pub machine_onto : Run → ℕ → Registers → Run
machine_onto r over rs =
    record { sheet = r.sheet; won = r.won; next = suc (r.next + over); place = r.place; registers = rs }

abbrev pub machine_logged : Run → Run
machine_logged r =
    record { sheet = r.sheet; won = r.won; next = r.next; place = suc r.place; registers = r.registers }

-- "Commit: if the log entry at the place is empty it takes the value and count read; either way the worker goes on with what the
-- entry holds"
abbrev pub held_of : Option Reading → Reading → Reading
held_of fill u = on_option fill u (λ first. first)

-- "Swap: if the word's value and count equal the entry's, the word takes the new value and its count rises by one"
unfoldable pub machine_swap : Reading → Reading → ℕ → Reading
machine_swap u e new =
    pick (eqb u.value e.value)
    (pick (eqb u.count e.count) (record { value = new; count = suc u.count }) u) u

-- one step of a run: what it shares, the run after it, and the stage that it comes to
pub record Pace : Type 0 where
  pub shared : Shared
  pub run : Run
  pub stage : Stage

abbrev pub point_of : Pace → Point
point_of b = Point.Run b.run b.stage

abbrev pub machine_read : Act → Shared → Run → Pace
machine_read (fin said) x r = record { shared = x; run = r; stage = Mark said }
machine_read (go rs n) x r = record { shared = x; run = machine_onto r n rs; stage = Read }
machine_read (touch w f) x r = record { shared = x; run = r; stage = Commit (x.word w) }

abbrev pub machine_follow : Follows → Shared → Run → Reading → Pace
machine_follow f x r e =
    record {
      shared = x;
      run = on_follows f (λ rs. machine_onto r 0 rs) (λ new. r);
      stage = on_follows f (λ rs. Read) (λ new. Swap e new);
    }

abbrev pub machine_commit : Act → Shared → Run → Reading → Pace
machine_commit (fin said) x r u = record { shared = x; run = r; stage = Commit u }
machine_commit (go rs n) x r u = record { shared = x; run = r; stage = Commit u }
machine_commit (touch w f) x r u =
    let e = held_of (x.log r.place) u in
    machine_follow (f e.value) (record { word = x.word; log = put x.log r.place (Some e) }) (machine_logged r) e

unfoldable pub pace_of : List Instr → Shared → Run → Stage → Pace
pace_of code x r Read = machine_read (act_at code r.next r.registers) x r
pace_of code x r (Commit u) = machine_commit (act_at code r.next r.registers) x r u
pace_of code x r (Swap e new) =
    let w = target (act_at code r.next r.registers) in
    record {
      shared = record { word = put x.word w (machine_swap (x.word w) e new); log = x.log };
      run = machine_onto r 0 r.registers;
      stage = Read;
    }
pace_of code x r (Mark said) = record { shared = x; run = r; stage = Mark said }
pace_of code x r (Release said) = record { shared = x; run = r; stage = Release said }

-- one accepted step more
abbrev pub machine_moved : Worker → State → Worker
machine_moved k s = record { state = s; lock = k.lock; own = k.own; steps = suc k.steps; filled = 0 }

-- "2. Grab", "7. Release"
unfoldable pub machine_grab : LockWord → ℕ → ℕ → LockWord
machine_grab l seen own =
    on_option l.holder (pick (eqb l.turn seen) (record { turn = suc seen; holder = Some own }) l) (λ s. l)

unfoldable pub machine_release : LockWord → ℕ → ℕ → LockWord
machine_release l won sheet =
    on_option l.holder l
    (λ s. pick (eqb s sheet) (pick (eqb l.turn won) (record { turn = l.turn; holder = None }) l) l)

-- "1. Look": where it leads; "4. Read own done mark": where it leads
unfoldable pub look_to : ℕ → LockWord → State
look_to last l =
    on_option l.holder (pick (eqb l.turn last) (Finished Worn) (UnderWay (Grab l.turn)))
    (λ s. UnderWay (Point.Run (start_of s l.turn) Read))

unfoldable pub mark_to : Bool → LockWord → ℕ → ℕ → State
mark_to done seen won own =
    pick done (UnderWay (Point.Run (start_of own won) Read))
    (on_option seen.holder (Finished NotTaken)
    (λ s. pick (eqb s own) (UnderWay (Point.Run (start_of own won) Read)) (UnderWay (Point.Run (start_of s seen.turn) Read))))

-- worker i, which is k, goes on in this state
abbrev pub on_to : Scene → ℕ → Worker → State → Scene
on_to E i k s = set_worker E i (machine_moved k s)

-- a step of a run
abbrev pub paced_of : Scene → ℕ → Worker → Run → Stage → Scene
paced_of E i k r at =
    let after = pace_of (E.program r.sheet) (shared_of E r.sheet) r at in
    on_to (set_shared E r.sheet after.shared) i k (UnderWay (point_of after))

-- one step of worker i, which is k, under way at a point
unfoldable pub step_at : Rules → Scene → ℕ → Worker → Point → Scene
step_at K E i k Look = on_to E i k (look_to K.last (E.lock k.lock))
step_at K E i k (Grab seen) =
    on_to (set_lock E k.lock (machine_grab (E.lock k.lock) seen k.own)) i k (UnderWay (LookAgain (suc seen)))
step_at K E i k (LookAgain won) = on_to E i k (UnderWay (ReadMark (E.lock k.lock) won))
step_at K E i k (ReadMark seen won) = on_to E i k (mark_to (E.done k.own) seen won k.own)
step_at K E i k (Point.Run r Read) = paced_of E i k r Read
step_at K E i k (Point.Run r (Commit u)) = paced_of E i k r (Commit u)
step_at K E i k (Point.Run r (Swap e new)) = paced_of E i k r (Swap e new)
step_at K E i k (Point.Run r (Mark said)) = on_to (set_done E r.sheet) i k (UnderWay (Point.Run r (Release said)))
step_at K E i k (Point.Run r (Release said)) =
    on_to (set_lock E k.lock (machine_release (E.lock k.lock) r.won r.sheet)) i k
    (Finished (answer_of r k.own said))

-- a sheet that begin may take: "It is in use while a held lock names it, or a worker under way has it as its own or as the one it
-- helps."
pub record Unused (E : Scene) (s : ℕ) : Type 0 where
  pub named : (l : ℕ) → (E.lock l).holder ≢ Some s
  pub owned : (i : ℕ) (p : Point) → (E.worker i).state ≡ UnderWay p → (E.worker i).own ≢ s
  pub helped : (i : ℕ) (p : Point) → (E.worker i).state ≡ UnderWay p → helped_of p ≢ Some s

-- "Begin (worker, lock, job record) takes a sheet, copies the job, empties the log, clears the mark."
abbrev pub machine_begun : Scene → ℕ → ℕ → List Instr → ℕ → Scene
machine_begun E i l code s =
    record {
      word = E.word;
      lock = E.lock;
      program = put E.program s code;
      done = put E.done s false;
      log = put E.log s (λ p. None);
      worker = put E.worker i (looking_of l s);
    }

-- collect and drop make a worker idle
abbrev pub idled_of : Scene → ℕ → Scene
idled_of E i = set_worker E i worker0

-- what a history tells: how many begins were accepted, the try of each worker's last one, and the tries that won each lock, the
-- latest first
pub record Tale : Type 0 where
  pub begins : ℕ
  pub tries : ℕ → Try
  pub won : ℕ → List Try

abbrev pub begin_tale : Tale → ℕ → ℕ → List Instr → Tale
begin_tale T i l code =
    record {
      begins = suc T.begins;
      tries = put T.tries i (record { number = T.begins; lock = l; program = code });
      won = T.won;
    }

-- the tale with these lists
abbrev pub with_won : Tale → (ℕ → List Try) → Tale
with_won T won = record { begins = T.begins; tries = T.tries; won = won }

abbrev pub win_tale : Tale → ℕ → ℕ → Tale
win_tale T i l = with_won T (put T.won l (T.tries i ∷ T.won l))

-- a grab that takes the lock wins it
unfoldable pub grab_tale : Tale → ℕ → ℕ → LockWord → ℕ → Tale
grab_tale T i l x seen = on_option x.holder (pick (eqb x.turn seen) (win_tale T i l) T) (λ s. T)

unfoldable pub step_tale : Tale → Scene → ℕ → Worker → Point → Tale
step_tale T E i k Look = T
step_tale T E i k (Grab seen) = grab_tale T i k.lock (E.lock k.lock) seen
step_tale T E i k (LookAgain won) = T
step_tale T E i k (ReadMark seen won) = T
step_tale T E i k (Point.Run r at) = T
