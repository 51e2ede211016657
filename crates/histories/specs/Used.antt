-- Request 06, over all histories: how many sheets can be in use at a begin, which one it takes, and that it looks at none to tell what it
-- tells. "At a begin at most 16 sheets are named by held locks, and each of the other 7 workers has one own and one helped: 30."
mod Names
use Names.*
use Rattle.arrays.specs.Fresh.{guards_of}
use Rattle.parts.specs.Numbers.{workers, most_locks, sheets}
use Rattle.parts.specs.Parts.{worn_of}
use Rattle.sheets.specs.Counted.{used_of, most_used}
use Rattle.sheets.specs.Sheets.{lowest_of}
use Rattle.steps.specs.Worker.{begin_by_state}
use Rattle.engine.specs.Calls.{begin_of}
use Rattle.engine.specs.State.{lock_count, worker_at, lock_at, words_of, in_use}

-- a sheet that is free, and every one below it is in use
pub record LowestFree (e : Engine) (s : ℕ) : Type 0 where
  pub sheet : s < sheets
  pub free : in_use e s ≡ false
  pub below : (j : ℕ) → j < s → in_use e j ≡ true

-- of a state that calls gave (`used` has it of every history): where a worker is idle, as at every begin that 1, 3 and 4 do not refuse
pub record Used (e : Engine) : Type 0 where
  pub most :
      (w : ℕ) → w < workers → (worker_at e w).state ≡ Idle → used_of (in_use e) sheets ≤ most_used (lock_count e) workers
  pub thirty : most_used most_locks workers ≡ 30
  pub at_begin : (w l : ℕ) (rec : List ℕ) → (begin_of e w l rec).told ≡ Ok tt → used_of (in_use e) sheets ≤ 30
  pub free : (w : ℕ) → w < workers → (worker_at e w).state ≡ Idle → lowest_of (in_use e) 0 sheets < sheets
  -- "Begin takes the free sheet with the lowest number": it is the worker's own then
  pub takes :
      (w l : ℕ) (rec : List ℕ) → (begin_of e w l rec).told ≡ Ok tt → LowestFree e (worker_at (begin_of e w l rec).engine w).own

-- of any two states: where L, the words' guards, whether the worker may begin and whether the lock is worn are the same, begin tells the
-- same, whatever stands on the sheets, and whatever sheets the locks name and the workers have
pub record Unseen : Type 0 where
  pub told :
      (e e' : Engine) (w l : ℕ) (rec : List ℕ) →
      lock_count e ≡ lock_count e' → guards_of (words_of e) ≡ guards_of (words_of e') →
      begin_by_state (worker_at e w) ≡ begin_by_state (worker_at e' w) → worn_of (lock_at e l) ≡ worn_of (lock_at e' l) →
      (begin_of e w l rec).told ≡ (begin_of e' w l rec).told
