-- A turn writes the first of those that are left.
use Rattle.std.proofs.Common.{refl, ◌∙◌, ap, arith, map}
use Rattle.arrays.specs.Fresh.{free_at}
use Rattle.records.proofs.Fours.{u32s_short}
use Rattle.lent_in.proofs.Loops.{locks_next, less_left}
use Rattle.lent_in.proofs.Loops.{lays_locks, laid_turn, laid_end}
use Rattle.lent_in.proofs.laid.locks.Goals as goal

pub loop-j-init : goal.loop-j-init
loop-j-init c = record { kept = refl; left = (refl, refl) }

pub loop-j-preserved : goal.loop-j-preserved
loop-j-preserved c = record {
  kept = c.put.auto.s ∙ c.loop-j.invariant.kept;
  left = laid_turn lays_locks _ _ _ _ _ _ _ _ _ _ c.loop-j.invariant.left c.put.ensures (locks_next c.args.turns.now c.loop-j.j (omega arith) _ c.u32_at.ensures) refl;
}

pub returns : goal.returns
returns c = laid_end lays_locks _ _ _ _ _ _ c.loop-j.invariant.left (ap (map free_at) (u32s_short _ (less_left _ _ c.loop-j-test.false)))
