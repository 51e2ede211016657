-- A turn marks what element j has.
use Rattle.std.proofs.Common.{arith}
use Rattle.parts.specs.Numbers.{most_locks}
use Rattle.sheets.specs.Marks.{lock_marks}
use Rattle.cells.proofs.Unpack.{unpack_whole}
use Rattle.lent_sheets.proofs.Laws.{lent_turn, lent_end}
use Rattle.lent_sheets.proofs.mark_locks.Goals as goal

pub loop-j-preserved : goal.loop-j-preserved
unfolding lock_marks
loop-j-preserved c = lent_turn _ _ _ _ most_locks c.loop-j.j c.loop-j.invariant (unpack_whole _).lock _ _ _ c.mark_holder-m.ensures c.get-l.ensures (omega arith)

pub returns : goal.returns
returns c = lent_end _ _ _ _ most_locks c.loop-j.j c.loop-j.invariant (unpack_whole _).lock (omega arith)
