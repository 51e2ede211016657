-- Request 05, over all histories: the plain engine is "equal to the step engine whenever one worker is stepped from begin to its end on a
-- free lock below the last turn, step counts aside". So a try stepped alone on such a lock wins.
mod Names
use Names.*
use Rattle.arrays.specs.Fresh.{guards_of, values_of}
use Rattle.parts.specs.Numbers.{workers, last_turn}
use Rattle.parts.specs.Pick.{pick}
use Rattle.records.specs.Bytes.{AllBytes}
use Rattle.records.specs.Job.{job_told}
use Rattle.engine.specs.State.{lock_count, worker_at, lock_at, word_at, words_of}
use Rattle.engine.specs.Calls.{begin_of, collect_of}
use Rattle.plain.specs.Plain.{ran, plain_of, plain_left}
use Rattle.past.specs.Past.{Begin, steps}
use Rattle.histories.specs.History.{Sofar, follow, Guards}

-- what the plain engine tells of a job on the words of state e, with their guards, and the values that it leaves
abbrev pub plain_on : Engine → ℕ → List ℕ → Result Ran Refusal
plain_on e l rec = plain_of (values_of (words_of e)) (guards_of (words_of e)) l rec

abbrev pub plainly_left : Engine → ℕ → List ℕ → List ℕ
plainly_left e l rec = plain_left (values_of (words_of e)) (guards_of (words_of e)) l rec

-- the state once worker w has begun a job on lock l and is stepped alone, 196 times: it has its answer by then, and the steps after that
-- are refused
abbrev pub alone_then : Sofar → ℕ → ℕ → List ℕ → Engine
alone_then x w l rec = (follow x (Begin w l rec ∷ steps 196 w)).state

pub record RunsPlainly (x : Sofar) (w l : ℕ) (rec : List ℕ) : Type 0 where
  pub begun : (begin_of x.state w l rec).told ≡ Ok tt
  -- the plain engine runs the job, and the worker has its answer, which collect tells
  pub yes : Bool
  pub executed : ℕ
  pub steps : ℕ
  pub filled : ℕ
  pub plain : plain_on x.state l rec ≡ Ok (ran yes executed)
  pub answer : (collect_of (alone_then x w l rec) w).told ≡ Ok (answered (pick yes RanYes RanNo) steps filled)
  -- every word has the value that the plain engine leaves it, and the guard that it had
  pub values : values_of (words_of (alone_then x w l rec)) ≡ plainly_left x.state l rec
  pub guards : guards_of (words_of (alone_then x w l rec)) ≡ guards_of (words_of x.state)
  -- the lock is free at the next turn
  pub lock : lock_at (alone_then x w l rec) l ≡ record { turn = suc (lock_at x.state l).turn; holder = None }
  -- every word that it doesn't guard, every other lock and every other worker is as it was
  pub words : (q : ℕ) → (Guards x.state l q → ⊥) → word_at (alone_then x w l rec) q ≡ word_at x.state q
  pub locks : (m : ℕ) → m ≢ l → lock_at (alone_then x w l rec) m ≡ lock_at x.state m
  pub workers : (v : ℕ) → v ≢ w → worker_at (alone_then x w l rec) v ≡ worker_at x.state v

-- every idle worker, every lock that is free below its last turn, every job that is valid there
pub record Plainly (x : Sofar) : Type 0 where
  pub alone :
      (w l : ℕ) (rec : List ℕ) → w < workers → (worker_at x.state w).state ≡ Idle → l < lock_count x.state →
      (lock_at x.state l).holder ≡ None → (lock_at x.state l).turn < last_turn → AllBytes rec →
      job_told rec l (guards_of (words_of x.state)) ≡ Ok tt → RunsPlainly x w l rec
