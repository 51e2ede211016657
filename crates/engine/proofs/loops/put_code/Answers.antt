-- A turn writes four bytes.
use Rattle.std.proofs.Common.{refl, arith, add-zero, ◌∙◌}
use Rattle.records.specs.Job.{code_bytes}
use Rattle.arrays.proofs.Laws.{fits_from, first_done}
use Rattle.engine.proofs.Turns.{code_lent}
use Rattle.engine.proofs.loops.put_code.Goals as goal

pub loop-j-init : goal.loop-j-init
unfolding code_bytes
loop-j-init g c = record { fits = omega (arith, c.requires.0.program); kept = refl; left = simp add-zero }

pub loop-j-preserved : goal.loop-j-preserved
unfolding code_bytes
loop-j-preserved g c = record {
  fits = c.loop-j.invariant.fits;
  kept = c.put_four.auto.buf ∙ c.loop-j.invariant.kept;
  left = code_lent _ _ _ _ _ _ _ _ _ _ c.instr-i.ensures c.loop-j.invariant.left c.put_four.ensures (omega arith) c.loop-j.invariant.fits;
}

pub returns : goal.returns
unfolding code_bytes
returns g c = first_done code_bytes _ _ _ _ _ _ refl c.loop-j.invariant.left c.loop-j-test.false (fits_from _ _ _ c.loop-j.invariant.fits)
