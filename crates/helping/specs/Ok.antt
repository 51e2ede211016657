-- The invariant of the machine, over all histories.
use Rattle.std.specs.Prelude.{ℕ, zero, suc, ◌+◌, ◌*◌, ◌-◌, ◌≤◌, ◌<◌, ◌≡◌, ◌⊎◌, ◌≢◌, Bool, true, false, List, [], ◌∷◌, ◌++◌, length, get_or, None, Option, Some}
use Rattle.parts.specs.Numbers.{longest_run, try_steps}
use Rattle.parts.specs.declared.Answer.{Answer}
use Rattle.parts.specs.declared.Answer.TheVariants.{RanYes, RanNo, NotTaken, Worn}
use Rattle.parts.specs.declared.Instr.{Instr}
use Rattle.parts.specs.declared.LockWord.{LockWord}
use Rattle.parts.specs.declared.Reading.{Reading}
use Rattle.steps.specs.Worker.{worker0}
use Rattle.steps.specs.declared.Point.{Point}
use Rattle.steps.specs.declared.Point.TheVariants.{Look, Grab, LookAgain, ReadMark}
use Rattle.steps.specs.declared.Run.{Run}
use Rattle.steps.specs.declared.Stage.{Stage}
use Rattle.steps.specs.declared.Stage.TheVariants.{Read, Commit, Swap, Mark, Release}
use Rattle.steps.specs.declared.State.{State}
use Rattle.steps.specs.declared.State.TheVariants.{Idle, UnderWay, Finished}
use Rattle.steps.specs.declared.Worker.{Worker}
use Rattle.alone.specs.Alone.{alone_of}
use Rattle.alone.specs.Jobs.{Try, gives_of, times}
use Rattle.helping.specs.Machine.{Rules, Scene, Shared, Act, Tale, act_at, target, step_at}
use Rattle.helping.specs.Ideal.{Job, Logs, Touches, far_of, Guarded, Fine, FineJob, Inv, Old, RunStands, left_at}

-- what is known of a sheet: it has not won its lock yet, it holds it, or it has let go of it; the turn under which it won, and
-- the frontier of its ideal run
pub data Kind : Type 0 where
  unwon : Kind
  current : Kind
  past : Kind

pub record Status : Type 0 where
  pub kind : Kind
  pub job : Job
  pub turn : ℕ
  pub front : ℕ

-- what the invariant of a sheet and of a worker looks at: the scene without its lock words and its workers
pub record View : Type 0 where
  pub st : ℕ → Status
  pub word : ℕ → Reading
  pub program : ℕ → List Instr
  pub done : ℕ → Bool
  pub log : ℕ → ℕ → Option Reading

abbrev pub view_of : Scene → (ℕ → Status) → View
view_of E st = record { st = st; word = E.word; program = E.program; done = E.done; log = E.log }

abbrev pub shared_at : View → ℕ → Shared
shared_at v s = record { word = v.word; log = v.log s }

pub record OnSheet (K : Rules) (v : View) (s : ℕ) : Type 0 where
  pub code : (v.st s).job.code ≡ v.program s
  pub fine : FineJob K (v.st s).job

abbrev pub SheetOk : Rules → View → (ℕ → LockWord) → ℕ → Kind → Type 0
SheetOk K v lock s unwon = (v.done s ≡ false) × ((p : ℕ) → v.log s p ≡ None)
SheetOk K v lock s current =
    OnSheet K v s × (lock (v.st s).job.lock ≡ record { turn = (v.st s).turn; holder = Some s }) ×
    Inv K (v.st s).job (v.st s).front (shared_at v s)
SheetOk K v lock s past =
    OnSheet K v s × Old K (v.st s).job (v.st s).front (shared_at v s) × (v.done s ≡ true)

-- the sheet has won lock l at turn t; it has not, or has let go of it since
pub record Won (σ : Status) (l t : ℕ) : Type 0 where
  pub is : σ.kind ≢ unwon
  pub lock : σ.job.lock ≡ l
  pub turn : σ.turn ≡ t

abbrev pub Lost : Status → ℕ → ℕ → Type 0
Lost σ l t = (σ.kind ≡ unwon) ⊎ ((σ.kind ≡ past) × Won σ l t)

-- a run, by a worker with this own sheet and lock: of a sheet that won; where it is another's, the own sheet has not
pub record RunOk (v : View) (own l : ℕ) (r : Run) : Type 0 where
  pub help : r.sheet ≢ own → (v.st own).kind ≡ unwon
  pub won : Won (v.st r.sheet) l r.won

-- between looking again, which saw this lock word, and reading the own mark
pub record MarkOk (v : View) (own l : ℕ) (seen : LockWord) (won : ℕ) : Type 0 where
  pub holder : (s : ℕ) → seen.holder ≡ Some s → Won (v.st s) l seen.turn
  pub itself : seen.holder ≡ Some own → Won (v.st own) l won
  pub other : seen.holder ≢ Some own → Lost (v.st own) l won

abbrev pub RunsAt : View → ℕ → ℕ → Run → Stage → Type 0
RunsAt v own l r at =
    RunOk v own l r × RunStands (v.st r.sheet).job (v.st r.sheet).front (shared_at v r.sheet) r at

-- it is to release its lock
abbrev pub Releasing : Stage → Type 0
Releasing Read = ⊥
Releasing (Commit u) = ⊥
Releasing (Swap e new) = ⊥
Releasing (Mark said) = ⊥
Releasing (Release said) = Unit {0}

abbrev pub PointOk : Rules → View → ℕ → ℕ → Point → Type 0
PointOk K v own l Look = ((v.st own).kind ≡ unwon) × Fine K l (v.program own)
PointOk K v own l (Grab seen) = ((v.st own).kind ≡ unwon) × Fine K l (v.program own) × (seen < K.last)
PointOk K v own l (LookAgain won) = ((v.st own).kind ≡ unwon) ⊎ Won (v.st own) l won
PointOk K v own l (ReadMark seen won) = MarkOk v own l seen won
PointOk K v own l (Point.Run r at) = RunsAt v own l r at × (Releasing at → v.done r.sheet ≡ true)

-- the steps that a try has left, at most, at a point
abbrev pub todo_at : ℕ → Point → ℕ
todo_at most Look = try_steps most
todo_at most (Grab seen) = 3 + longest_run most + 2
todo_at most (LookAgain won) = 2 + longest_run most + 2
todo_at most (ReadMark seen won) = 1 + longest_run most + 2
todo_at most (Point.Run r at) = left_at most r at

-- a worker, by its state
abbrev pub StateOk : Rules → View → Worker → State → Type 0
StateOk K v k Idle = k.steps ≤ try_steps K.most
StateOk K v k (UnderWay p) = (k.steps + todo_at K.most p ≤ try_steps K.most) × PointOk K v k.own k.lock p
StateOk K v k (Finished x) = k.steps ≤ try_steps K.most

-- what the jobs give, or gave, is where this job began
abbrev pub JobBegins : Rules → Job → List Try → Type 0
JobBegins K J earlier = (q : ℕ) → (J.words q).value ≡ get_or (gives_of earlier K.values) q 0

-- a free lock: its words hold what its jobs give, and their counts are low
pub record FreeOk (K : Rules) (word : ℕ → Reading) (T : Tale) (l turn : ℕ) : Type 0 where
  pub early : turn ≤ K.last
  pub values : (q : ℕ) → Guarded K l q → (word q).value ≡ get_or (gives_of (T.won l) K.values) q 0
  pub counts : (q : ℕ) → Guarded K l q → (word q).count ≤ (K.most - 1) * turn

-- a held lock: its sheet has won it, and is the last of its list
pub record HeldOk (K : Rules) (T : Tale) (σ : Status) (l turn : ℕ) : Type 0 where
  pub kind : σ.kind ≡ current
  pub lock : σ.job.lock ≡ l
  pub turned : σ.turn ≡ turn
  pub early : turn ≤ K.last
  pub last : Try
  pub earlier : List Try
  pub list : T.won l ≡ last ∷ earlier
  pub code : last.program ≡ σ.job.code
  pub from : JobBegins K σ.job earlier
  pub counts : (q : ℕ) → Guarded K l q → (σ.job.words q).count + (K.most - 1) ≤ (K.most - 1) * turn

abbrev pub LockOk : Rules → (ℕ → Reading) → Tale → (ℕ → Status) → ℕ → ℕ → Option ℕ → Type 0
LockOk K word T st l turn None = FreeOk K word T l turn
LockOk K word T st l turn (Some s) = HeldOk K T (st s) l turn

-- a try stands in a list, and what is said of those before it
pub record Listed (P : List Try → Type 0) (t : Try) (ts : List Try) : Type 0 where
  pub later : List Try
  pub earlier : List Try
  pub list : ts ≡ later ++ (t ∷ earlier)
  pub holds : P earlier

abbrev pub Absent : Tale → ℕ → Type 0
Absent T n = (l : ℕ) → times n (T.won l) ≡ 0

-- the try's job, alone, after those before it, answers this
abbrev pub Says : Rules → Try → Bool → List Try → Type 0
Says K t said earlier = (alone_of t.program (gives_of earlier K.values)).yes ≡ said

abbrev pub AnswerOk : Rules → Tale → Try → Answer → Type 0
AnswerOk K T t RanYes = Listed (Says K t true) t (T.won t.lock)
AnswerOk K T t RanNo = Listed (Says K t false) t (T.won t.lock)
AnswerOk K T t NotTaken = Absent T t.number
AnswerOk K T t Worn = Absent T t.number

-- the last try of a worker that is k: its lock and program are the worker's; it stands in its lock's list once its sheet has won
pub record TryOk (K : Rules) (T : Tale) (v : View) (t : Try) (k : Worker) : Type 0 where
  pub lock : t.lock ≡ k.lock
  pub program : v.program k.own ≡ t.program
  pub absent : (v.st k.own).kind ≡ unwon → Absent T t.number
  pub listed : (v.st k.own).kind ≢ unwon → Listed (JobBegins K (v.st k.own).job) t (T.won t.lock)

abbrev pub Named : Rules → Tale → View → Try → Worker → State → Type 0
Named K T v t k Idle = Unit {0}
Named K T v t k (UnderWay p) = TryOk K T v t k
Named K T v t k (Finished x) = (t.lock ≡ k.lock) × AnswerOk K T t x

abbrev pub NotIdle : State → Type 0
NotIdle Idle = ⊥
NotIdle (UnderWay p) = Unit {0}
NotIdle (Finished x) = Unit {0}

pub record Ok (K : Rules) (E : Scene) (T : Tale) (st : ℕ → Status) : Type 0 where
  pub sheet : (s : ℕ) → SheetOk K (view_of E st) E.lock s (st s).kind
  pub lock : (l : ℕ) → LockOk K E.word T st l (E.lock l).turn (E.lock l).holder
  pub worker : (i : ℕ) → StateOk K (view_of E st) (E.worker i) (E.worker i).state
  pub named : (i : ℕ) → Named K T (view_of E st) (T.tries i) (E.worker i) (E.worker i).state
  -- no two workers under way have one own sheet, and no two tries one number
  pub apart :
      (i k : ℕ) (p q : Point) → (E.worker i).state ≡ UnderWay p → (E.worker k).state ≡ UnderWay q →
      (E.worker i).own ≡ (E.worker k).own → i ≡ k
  pub ids :
      (i k : ℕ) → NotIdle (E.worker i).state → NotIdle (E.worker k).state → (T.tries i).number ≡ (T.tries k).number → i ≡ k
  pub begun : (i : ℕ) → NotIdle (E.worker i).state → (T.tries i).number < T.begins
  -- a number stands in the lists once at most, and only once its begin was made
  pub unborn : (n l : ℕ) → T.begins ≤ n → times n (T.won l) ≡ 0
  pub once : (n l : ℕ) → times n (T.won l) ≤ 1
  pub only : (n l m : ℕ) → 1 ≤ times n (T.won l) → 1 ≤ times n (T.won m) → l ≡ m

-- the machine and its tale have the invariant
pub record Next (K : Rules) (E : Scene) (T : Tale) : Type 0 where
  pub st : ℕ → Status
  pub ok : Ok K E T st

-- a fresh setup
pub record Fresh (K : Rules) (E : Scene) : Type 0 where
  pub idle : (i : ℕ) → E.worker i ≡ worker0
  pub free : (l : ℕ) → ((E.lock l).holder ≡ None) × ((E.lock l).turn ≤ K.last)
  pub value : (q : ℕ) → (E.word q).value ≡ get_or K.values q 0
  pub count : (q : ℕ) → (E.word q).count ≡ 0
  pub unmarked : (s : ℕ) → E.done s ≡ false
  pub empty : (s p : ℕ) → E.log s p ≡ None

abbrev pub untold : Tale
untold = record { begins = 0; tries = λ i. record { number = 0; lock = 0; program = [] }; won = λ l. [] }

-- What keeps every number of the engine in its range. Of a run: its instruction is one of the program's, its log place one of
-- the sheet's, it goes on inside the program, and the word that it names is one of the words.
pub record RunIn (K : Rules) (E : Scene) (r : Run) : Type 0 where
  pub next : r.next < length (E.program r.sheet)
  pub short : length (E.program r.sheet) ≤ K.most
  pub place : r.place < K.most
  pub far : r.next + far_of (act_at (E.program r.sheet) r.next r.registers) < length (E.program r.sheet)
  pub names :
      Touches (act_at (E.program r.sheet) r.next r.registers) →
      target (act_at (E.program r.sheet) r.next r.registers) < length K.values

-- at a commit the instruction has an entry, and at a swap it asks for a word
abbrev pub StageIn : Act → Stage → Type 0
StageIn a Read = Unit {0}
StageIn a (Commit u) = Logs a
StageIn a (Swap e new) = Touches a
StageIn a (Mark said) = Unit {0}
StageIn a (Release said) = Unit {0}

abbrev pub PointIn : Rules → Scene → Point → Type 0
PointIn K E Look = Unit {0}
PointIn K E (Grab seen) = seen < K.last
PointIn K E (LookAgain won) = Unit {0}
PointIn K E (ReadMark seen won) = Unit {0}
PointIn K E (Point.Run r at) = RunIn K E r × StageIn (act_at (E.program r.sheet) r.next r.registers) at

pub record Ranged (K : Rules) (E : Scene) : Type 0 where
  pub point : (i : ℕ) (p : Point) → (E.worker i).state ≡ UnderWay p → PointIn K E p
  pub steps : (i : ℕ) → (E.worker i).steps ≤ try_steps K.most
  pub count : (q : ℕ) → q < length K.values → (E.word q).count ≤ (K.most - 1) * K.last

-- the try of this number is over, and won nothing
pub record Over (E : Scene) (T : Tale) (n : ℕ) : Type 0 where
  pub begun : n < T.begins
  pub none : Absent T n
  pub gone : (i : ℕ) (p : Point) → (E.worker i).state ≡ UnderWay p → (T.tries i).number ≢ n

-- one worker stepped alone, n times; where it has finished nothing changes
abbrev pub onward : Rules → ℕ → Scene → State → Scene
onward K i E Idle = E
onward K i E (UnderWay p) = step_at K E i (E.worker i) p
onward K i E (Finished x) = E

unfoldable pub alone_steps : Rules → ℕ → ℕ → Scene → Scene
alone_steps K i zero E = E
alone_steps K i (suc n) E = alone_steps K i n (onward K i E (E.worker i).state)
