-- A free lock is passed over; at a held one, or at the end, the call tells.
use Rattle.std.specs.Prelude.{◌≡◌, ℕ, Some, None}
use Rattle.std.proofs.Common.{refl, arith, rules, tests, get_or}
use Rattle.parts.specs.Parts.{lock0}
use Rattle.arrays.proofs.Laws.{held_turn, held_stop, held_end}
use Rattle.engine.proofs.loops.held_told.Goals as goal

pub loop-j-init : goal.loop-j-init
loop-j-init g c = record { fits = omega (arith, c.requires.0.lock); left = refl }

pub loop-j-preserved : goal.loop-j-preserved
loop-j-preserved g c =
    let free : (get_or (g.S.Reads.says c.args.s.now).lock c.loop-j.j lock0).holder ≡ None = search (rules, tests) in
    record {
      fits = c.loop-j.invariant.fits;
      left = held_turn _ _ _ _ lock0 c.loop-j.invariant.left free (omega arith) c.loop-j.invariant.fits;
    }

pub returns-then-is_some : goal.returns-then-is_some
returns-then-is_some g c =
    let held : (t : ℕ) × ((get_or (g.S.Reads.says c.args.s.now).lock c.loop-j.j lock0).holder ≡ Some t) = search (rules, tests) in
    held_stop _ _ _ _ _ lock0 c.loop-j.invariant.left held.1 (omega arith) c.loop-j.invariant.fits

pub returns : goal.returns
returns g c = held_end _ _ _ _ c.loop-j.invariant.left c.loop-j-test.false c.loop-j.invariant.fits
