-- A turn writes byte j.
use Rattle.std.proofs.Common.{refl, add-zero, length-set, arith}
use Rattle.records.proofs.Laws.{write_turn, write_end}
use Rattle.records.proofs.put_bytes.Goals as goal

pub loop-j-init : goal.loop-j-init
loop-j-init c = record { kept = refl; left = simp add-zero }

pub loop-j-preserved : goal.loop-j-preserved
loop-j-preserved c = record {
  kept = simp length-set c.loop-j.invariant.kept;
  left = write_turn _ _ _ _ c.loop-j.j c.loop-j.invariant.left (omega arith);
}

pub returns : goal.returns
returns c = write_end _ _ _ _ _ c.loop-j.invariant.left c.loop-j-test.false
