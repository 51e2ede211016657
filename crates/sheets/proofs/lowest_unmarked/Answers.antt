use Rattle.std.proofs.Common.{◌∙◌}
use Rattle.sheets.proofs.Laws.{lowest_lem}
use Rattle.sheets.proofs.lowest_unmarked.Goals as goal

pub returns : goal.returns
returns c = c.min.ensures ∙ simp c.trailing_ones.ensures (lowest_lem _ c.ranges.marks.fits)
