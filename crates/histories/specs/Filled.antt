-- Request 02, over all histories: how many entries each try filled, and that the fillings of a sheet since the begin that took it are the
-- filled entries of its log. What a step fills, and the history's list of fillings: Filling.antt and History.antt.
mod Names
use Names.*
use Rattle.parts.specs.Numbers.{instructions}
use Rattle.parts.specs.Parts.{entry0}
use Rattle.parts.specs.Pick.{pick, on_option}
use Rattle.alone.specs.Jobs.{Try}
use Rattle.engine.specs.Calls.{collect_of}
use Rattle.engine.specs.State.{worker_at, base_of}
use Rattle.histories.specs.Filling.{Filling}
use Rattle.histories.specs.History.{Sofar, then_of, follow}
use Rattle.past.specs.Past.{Call, Drop, AllRecords}

-- of these fillings, how many try n made; how many stand in the log of job j
unfoldable pub made_by : ℕ → List Filling → ℕ
made_by n [] = 0
made_by n (f ∷ fs) = pick (eqb f.by n) 1 0 + made_by n fs

unfoldable pub made_for : ℕ → List Filling → ℕ
made_for j [] = 0
made_for j (f ∷ fs) = pick (eqb f.job j) 1 0 + made_for j fs

-- f 0 + .. + f (n - 1)
unfoldable pub sum_of : ℕ → (ℕ → ℕ) → ℕ
sum_of zero f = 0
sum_of (suc n) f = f n + sum_of n f

-- the filled entries of sheet s's log
abbrev pub filled_entries : Engine → ℕ → ℕ
filled_entries e s = sum_of instructions (λ p. on_option (get_or e.entry (base_of s + p) entry0).fill 0 (λ what. 1))

-- how many entries try n filled
abbrev pub number_of : Sofar → ℕ → ℕ
number_of x n = made_by n x.fillings

pub record Shares (x : Sofar) : Type 0 where
  -- "Prove it equal to that worker's fillings in the history since its begin": by the try, which every begin makes anew; now and at
  -- every later cut
  pub told :
      (w : ℕ) (a : Answer) (n m : ℕ) → (collect_of x.state w).told ≡ Ok (answered a n m) → (more : List Call) → AllRecords more →
      m ≡ number_of (follow x more) (x.tries w).number
  -- the worker's own count at every cut of its try; and what a drop now loses, at every later cut
  pub kept :
      (w : ℕ) → (worker_at x.state w).state ≢ Idle → (worker_at x.state w).filled ≡ number_of x (x.tries w).number
  pub lost :
      (w : ℕ) → (worker_at x.state w).state ≢ Idle → (more : List Call) → AllRecords more →
      (worker_at x.state w).filled ≡ number_of (follow (then_of x (Drop w)) more) (x.tries w).number
  -- each filling, with the try that made it: it is one of a job that this try ran
  pub made :
      (later : List Filling) (f : Filling) (earlier : List Filling) → x.fillings ≡ later ++ (f ∷ earlier) →
      x.ran f.by f.job ≡ true
  -- the fillings of a sheet's log since the begin of t, which took it last, are as many as its filled entries; a sheet that no begin took
  -- has none
  pub sheet :
      (s : ℕ) (t : Try) (earlier : List Try) → x.owners s ≡ t ∷ earlier → made_for t.number x.fillings ≡ filled_entries x.state s
  pub bare : (s : ℕ) → x.owners s ≡ [] → filled_entries x.state s ≡ 0
  -- a try runs one job at most, its own or the one that it helps
  pub one : (n i j : ℕ) → x.ran n i ≡ true → x.ran n j ≡ true → i ≡ j
  -- "the first-writers over all runs of one sheet since its begin, dropped workers' included, add up to the filled entries of its
  -- log": the numbers of all tries that ran it since, told or lost
  pub adds :
      (s : ℕ) (t : Try) (earlier : List Try) → x.owners s ≡ t ∷ earlier →
      sum_of x.begins (λ n. pick (x.ran n t.number) (number_of x n) 0) ≡ filled_entries x.state s
