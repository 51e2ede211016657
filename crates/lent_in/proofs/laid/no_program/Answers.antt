-- A turn writes the first of those that are left.
use Rattle.std.proofs.Common.{refl, ◌∙◌, arith, add-zero}
use Rattle.arrays.proofs.Laws.{fill_next, fill_none}
use Rattle.lent_in.proofs.Loops.{lays_program, laid_turn, laid_end}
use Rattle.lent_in.proofs.laid.no_program.Goals as goal

pub loop-j-init : goal.loop-j-init
loop-j-init c = record { kept = refl; left = (simp add-zero, simp add-zero) }

pub loop-j-preserved : goal.loop-j-preserved
loop-j-preserved c = record {
  kept = c.put.auto.s ∙ c.loop-j.invariant.kept;
  left = laid_turn lays_program _ _ _ _ _ _ _ _ _ _ c.loop-j.invariant.left c.put.ensures (fill_next _ _ _ (omega arith)) (omega arith);
}

pub returns : goal.returns
returns c = laid_end lays_program _ _ _ _ _ _ c.loop-j.invariant.left (fill_none _ _ _ c.loop-j-test.false)
