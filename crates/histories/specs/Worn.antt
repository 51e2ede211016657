-- Request 03, over all histories: worn is told exactly of a try whose only step was a Look that found its lock free at the last turn; such
-- a lock stays so, and no begin on it is accepted any more. "Not taken" promises nothing of a retry.
use Rattle.std.specs.Prelude.{ℕ, true, List, ◌↔◌, ◌≢◌, ◌≡◌, Ok}
use Rattle.parts.specs.Parts.{worn_of}
use Rattle.parts.specs.declared.Answer.{Answer}
use Rattle.parts.specs.declared.Answer.TheVariants.{Worn}
use Rattle.engine.specs.Calls.{begin_of, collect_of}
use Rattle.engine.specs.State.{lock_at}
use Rattle.past.specs.Past.{Call, AllRecords}
use Rattle.histories.specs.History.{Sofar, follow}
use Rattle.engine.specs.Calls.{answered}

pub record Wears (x : Sofar) : Type 0 where
  -- "Answer 4, worn, is given exactly when Look finds the lock free at the last turn"
  pub exactly :
      (w : ℕ) (a : Answer) (n m : ℕ) → (collect_of x.state w).told ≡ Ok (answered a n m) →
      (a ≡ Worn) ↔ (worn_of (x.found w) ≡ true)
  -- that Look was the try's only step, and the lock still is so
  pub once : (w n m : ℕ) → (collect_of x.state w).told ≡ Ok (answered Worn n m) → n ≡ 1
  pub lock :
      (w n m : ℕ) → (collect_of x.state w).told ≡ Ok (answered Worn n m) →
      worn_of (lock_at x.state (x.tries w).lock) ≡ true
  -- a worn lock stays worn, whatever calls follow
  pub stays :
      (l : ℕ) → worn_of (lock_at x.state l) ≡ true → (more : List Call) → AllRecords more →
      worn_of (lock_at (follow x more).state l) ≡ true
  -- and no later begin on it is accepted
  pub never :
      (l : ℕ) → worn_of (lock_at x.state l) ≡ true → (more : List Call) → AllRecords more → (w : ℕ) (rec : List ℕ) →
      (begin_of (follow x more).state w l rec).told ≢ Ok tt
