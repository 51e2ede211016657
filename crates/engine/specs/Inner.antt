-- What only contracts of inner functions and proofs ask for: nothing here has to be believed.
use Rattle.std.specs.Prelude.{ℕ, ◌<◌, ◌≡◌, false, length, List, Ok}
use Rattle.arrays.specs.Fresh.{guards_of}
use Rattle.parts.specs.Numbers.{workers, most_locks, most_words, sheets, entries}
use Rattle.parts.specs.Parts.{worn_of}
use Rattle.records.specs.Job.{job_told}
use Rattle.steps.specs.Worker.{begin_by_state}
use Rattle.engine.specs.State.{lock_count, words_of, worker_at, lock_at}
use Rattle.engine.specs.declared.Engine.{Engine}
use Rattle.engine.specs.declared.Places.{Places}

-- every place is one of its array
pub record Within (at : Places) : Type 0 where
  pub worker : at.worker < workers
  pub lock : at.lock < most_locks
  pub word : at.word < most_words
  pub entry : at.entry < entries
  pub instr : at.instr < entries
  pub sheet : at.sheet < sheets

-- what a begin finds that is accepted
pub record Begins (e : Engine) (w l : ℕ) (rec : List ℕ) : Type 0 where
  pub worker : w < workers
  pub idle : begin_by_state (worker_at e w) ≡ Ok tt
  pub lock : l < lock_count e
  pub job : job_told rec l (guards_of (words_of e)) ≡ Ok tt
  pub worn : worn_of (lock_at e l) ≡ false

-- the arrays that a reader walks are as long as in the code
pub record Walked (e : Engine) : Type 0 where
  pub word : length e.word ≡ most_words
  pub lock : length e.lock ≡ most_locks
  pub program : length e.program ≡ entries
