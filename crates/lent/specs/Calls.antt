-- The numbers after a collect and after a drop.
use Rattle.std.specs.Prelude.{ℕ, List, Ok, Result}
use Rattle.parts.specs.Told.{on_told}
use Rattle.parts.specs.Told.{Told}
use Rattle.engine.specs.Calls.{collect_told, drop_told}
use Rattle.cells.specs.Codes.{answer_in, at_steps, at_new, at_filled}
use Rattle.cells.specs.Layout.{unpack, number_at, put_idle}
use Rattle.engine.specs.declared.Answered.{Answered}
use Rattle.parts.specs.declared.Refusal.{Refusal}
use Rattle.engine.specs.Calls.{answered}

-- the numbers after a call that told this: worker w idle where it was accepted, else "the state as it came"
abbrev pub idle_numbers : List ℕ → ℕ → Told → List ℕ
idle_numbers s w told = on_told told (put_idle s w) (λ r. s)

-- "Collect (worker) hands out the answer and the number of accepted steps since begin"; request 02: "a third number"
unfoldable pub handed_out : List ℕ → ℕ → Result Answered Refusal
handed_out s w = Ok (answered (answer_in (number_at s w at_new)) (number_at s w at_steps) (number_at s w at_filled))

unfoldable pub collect_numbers : List ℕ → ℕ → List ℕ
collect_numbers s w = idle_numbers s w (collect_told (unpack s) w)

unfoldable pub drop_numbers : List ℕ → ℕ → List ℕ
drop_numbers s w = idle_numbers s w (drop_told (unpack s) w)
