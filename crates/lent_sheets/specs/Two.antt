-- The two sheets of a worker under way, by its numbers. A reader need not believe it: engine promises `in_use`, of numbers that are lent too.
use Rattle.std.specs.Prelude.{ℕ, List, eqb, ltb, None, Option, Some}
use Rattle.parts.specs.Pick.{pick}
use Rattle.sheets.specs.Marks.{sheet_marks, holder_marks}
use Rattle.cells.specs.Codes.{byte_of, holder_of, at_own, at_sheet, read_mark_tag}
use Rattle.cells.specs.Layout.{number_at}

-- before a worker read its own mark it helps none; there, the sheet that Look again saw; later the one of its run
unfoldable pub helped_in : ℕ → ℕ → Option ℕ
helped_in tag sheet = pick (ltb tag read_mark_tag) None (pick (eqb tag read_mark_tag) (holder_of sheet) (Some (byte_of sheet)))

unfoldable pub two_marks : ℕ → List ℕ → ℕ → ℕ → ℕ
two_marks marks s w tag = holder_marks (sheet_marks marks (byte_of (number_at s w at_own))) (helped_in tag (number_at s w at_sheet))
