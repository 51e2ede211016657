-- A turn marks what element j has.
use Rattle.std.proofs.Common.{refl, arith}
use Rattle.parts.specs.Numbers.{workers}
use Rattle.sheets.specs.Marks.{worker_marks}
use Rattle.cells.proofs.Unpack.{unpack_whole}
use Rattle.lent_sheets.proofs.Laws.{lent_turn, lent_end}
use Rattle.lent_sheets.proofs.mark_workers.Goals as goal

pub loop-j-preserved : goal.loop-j-preserved
unfolding worker_marks
loop-j-preserved c = lent_turn _ _ _ _ workers c.loop-j.j c.loop-j.invariant (unpack_whole _).worker _ _ _ c.mark_worker-m.ensures refl (omega arith)

pub returns : goal.returns
returns c = lent_end _ _ _ _ workers c.loop-j.j c.loop-j.invariant (unpack_whole _).worker (omega arith)
