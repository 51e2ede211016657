-- Request 02, by what can be seen of the states: a step filled a log entry when the entry was empty before it and is filled after it.
use Rattle.std.specs.Prelude.{ℕ, ◌+◌, List, [], ◌∷◌, None, Option, Some}
use Rattle.parts.specs.Pick.{on_option}
use Rattle.parts.specs.declared.Entry.{Entry}
use Rattle.parts.specs.declared.Reading.{Reading}
use Rattle.steps.specs.Places.{spot_of}
use Rattle.steps.specs.Worker.{on_state}
use Rattle.steps.specs.declared.Point.TheVariants.{Look, Grab, LookAgain, ReadMark}
use Rattle.steps.specs.declared.Point.{Point}
use Rattle.steps.specs.declared.State.TheVariants.{Idle, UnderWay, Finished}
use Rattle.steps.specs.declared.State.{State}
use Rattle.alone.specs.Jobs.{Try}

-- a filling: in the log of which job, by a step of which try (each by the number of its begin); and, for request 09, at which instruction
-- of the job, and what the entry was filled with
pub record Filling : Type 0 where
  pub job : ℕ
  pub by : ℕ
  pub instruction : ℕ
  pub what : Reading

-- what was filled between two states, by their entries, of which the first has the number n
unfoldable pub new_from : (ℕ → Reading → Filling) → ℕ → List Entry → List Entry → List Filling
new_from make n [] now = []
new_from make n (x ∷ before) [] = []
new_from make n (x ∷ before) (y ∷ now) =
    on_option x.fill
    (on_option y.fill (new_from make (n + 1) before now) (λ what. make n what ∷ new_from make (n + 1) before now))
    (λ first. new_from make (n + 1) before now)

-- the number of the last of these tries, which stands first
abbrev pub latest : List Try → ℕ
latest [] = 0
latest (t ∷ earlier) = t.number

-- of a worker in this state: the sheet that it runs, its own or a helped one, and the instruction that it is at
abbrev pub runs_sheet : State → Option ℕ
runs_sheet Idle = None
runs_sheet (UnderWay Look) = None
runs_sheet (UnderWay (Grab seen)) = None
runs_sheet (UnderWay (LookAgain won)) = None
runs_sheet (UnderWay (ReadMark seen won)) = None
runs_sheet (UnderWay (Point.Run r at)) = Some r.sheet
runs_sheet (Finished x) = None

abbrev pub runs_at : State → ℕ
runs_at s = on_state s 0 (λ p. (spot_of p 0).next) (λ x. 0)
