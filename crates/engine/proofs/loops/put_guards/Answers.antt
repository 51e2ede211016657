-- A turn writes one byte.
use Rattle.std.proofs.Common.{refl, arith, add-zero, length-set}
use Rattle.arrays.specs.Fresh.{guards_of}
use Rattle.arrays.proofs.Laws.{first_done}
use Rattle.engine.proofs.Turns.{map_lent}
use Rattle.engine.proofs.loops.put_guards.Goals as goal

pub loop-j-init : goal.loop-j-init
loop-j-init g c = record { fits = omega (arith, c.requires.0.word); kept = refl; left = simp add-zero }

pub loop-j-preserved : goal.loop-j-preserved
loop-j-preserved g c = record {
  fits = c.loop-j.invariant.fits;
  kept = simp length-set c.loop-j.invariant.kept;
  left = map_lent _ _ _ _ _ c.word.ensures (omega arith) c.loop-j.invariant.fits _ _ _ _ _ c.loop-j.invariant.left (omega arith);
}

pub returns : goal.returns
returns g c = first_done guards_of _ _ _ _ _ _ refl c.loop-j.invariant.left c.loop-j-test.false c.loop-j.invariant.fits
