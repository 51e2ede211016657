-- Request 06, over any numbers of locks, workers and sheets: how many sheets can be in use where a worker is idle. "At a begin at most 16
-- sheets are named by held locks, and each of the other 7 workers has one own and one helped: 30."
use Rattle.std.specs.Prelude.{ℕ, zero, suc, ◌+◌, ◌*◌, ◌-◌, ◌<◌, ◌≤◌, Bool, List, ◌≡◌, length, get_or}
use Rattle.parts.specs.Pick.{pick}
use Rattle.parts.specs.declared.LockWord.{LockWord}
use Rattle.steps.specs.Worker.{worker0}
use Rattle.steps.specs.declared.State.TheVariants.{Idle}
use Rattle.steps.specs.declared.Worker.{Worker}
use Rattle.sheets.specs.Sheets.{in_use_of, lowest_of}

-- of the first n sheets, how many are in use
unfoldable pub used_of : (ℕ → Bool) → ℕ → ℕ
used_of used zero = 0
used_of used (suc n) = pick (used n) 1 0 + used_of used n

-- a lock names one sheet at most; a worker that is under way has one own and at most one helped, and one worker is idle
abbrev pub most_used : ℕ → ℕ → ℕ
most_used locks workers = locks + 2 * (workers - 1)

-- at most so many are in use, and so of more sheets than that one is free
pub record Counted : Type 0 where
  pub most :
      (locks : List LockWord) (ks : List Worker) (n w : ℕ) → w < length ks → (get_or ks w worker0).state ≡ Idle →
      used_of (in_use_of locks ks) n ≤ most_used (length locks) (length ks)
  pub free :
      (locks : List LockWord) (ks : List Worker) (n w : ℕ) → w < length ks → (get_or ks w worker0).state ≡ Idle →
      most_used (length locks) (length ks) < n → lowest_of (in_use_of locks ks) 0 n < n
