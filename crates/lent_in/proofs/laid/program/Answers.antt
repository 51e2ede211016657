-- A turn writes the first of those that are left.
use Rattle.std.proofs.Common.{refl, ◌∙◌, ap, arith, add-zero}
use Rattle.records.specs.Job.{first_instr}
use Rattle.records.proofs.Fours.{instrs_short}
use Rattle.records.proofs.Laws.{part_end}
use Rattle.lent_in.proofs.Loops.{program_next, less_left}
use Rattle.lent_in.proofs.Loops.{lays_program, laid_turn, laid_end}
use Rattle.lent_in.proofs.laid.program.Goals as goal

pub loop-j-init : goal.loop-j-init
loop-j-init c = record { kept = refl; left = (simp add-zero, simp add-zero) }

pub loop-j-preserved : goal.loop-j-preserved
loop-j-preserved c = record {
  kept = c.put.auto.s ∙ c.loop-j.invariant.kept;
  left = laid_turn lays_program _ _ _ _ _ _ _ _ _ _ c.loop-j.invariant.left c.put.ensures (program_next c.args.code.now c.loop-j.j (omega arith) _ (c.first_instr-x.ensures ∙ ap first_instr (part_end _ c.args.code.now))) (omega arith);
}

pub returns : goal.returns
returns c = laid_end lays_program _ _ _ _ _ _ c.loop-j.invariant.left (instrs_short _ (less_left _ _ c.loop-j-test.false))
