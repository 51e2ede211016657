-- The lowest sheet that is not marked is the lowest that is not in use, since a mark says what is in use.
use Prim.Native.Nat.{ℕ, ◌-◌}
use mathlib.Core.Path.{◌≡◌}
use mathlib.Core.List.{List}
use native.Mathlib.Omega.{arith}
use Rattle.parts.specs.Numbers.{sheets}
use Rattle.parts.specs.declared.LockWord.{LockWord}
use Rattle.steps.specs.declared.Worker.{Worker}
use Rattle.sheets.specs.Sheets.{lowest_of, free_sheet_of}
use Rattle.sheets.specs.Marks.{marked_of, marks_of}
use Rattle.sheets.proofs.Laws.{marked_in_use, lowest_same}

pub lowest_by_marks :
    (locks : List LockWord) (ks : List Worker) →
    lowest_of (marked_of (marks_of locks ks)) 0 (sheets - 1) ≡ free_sheet_of locks ks
lowest_by_marks locks ks = lowest_same _ _ 0 _ (λ j h. marked_in_use locks ks j (omega arith))
