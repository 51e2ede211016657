-- A turn writes four bytes.
use Rattle.std.proofs.Common.{refl, arith, add-zero, ◌∙◌}
use Rattle.records.specs.Bytes.{u32s_bytes}
use Rattle.arrays.specs.Fresh.{turns_of}
use Rattle.arrays.proofs.Laws.{first_done, u32_fours}
use Rattle.engine.proofs.Turns.{four_lent}
use Rattle.engine.proofs.loops.put_turns.Goals as goal

pub loop-j-init : goal.loop-j-init
unfolding u32s_bytes
loop-j-init g c = record { fits = omega (arith, c.requires.0.lock); kept = refl; left = simp add-zero }

pub loop-j-preserved : goal.loop-j-preserved
unfolding u32s_bytes
loop-j-preserved g c = record {
  fits = c.loop-j.invariant.fits;
  kept = c.put_u32.auto.buf ∙ c.loop-j.invariant.kept;
  left = four_lent _ _ _ _ _ c.lock.ensures (omega arith) c.loop-j.invariant.fits _ _ _ _ _ (u32_fours _) c.loop-j.invariant.left c.put_u32.ensures;
}

pub returns : goal.returns
unfolding u32s_bytes
returns g c = first_done (λ xs. u32s_bytes (turns_of xs)) _ _ _ _ _ _ refl c.loop-j.invariant.left c.loop-j-test.false c.loop-j.invariant.fits
