-- A turn writes one guard.
use Rattle.std.proofs.Common.{◌≤◌, length, refl, arith}
use Rattle.arrays.specs.Fresh.{guards_of}
use Rattle.arrays.proofs.Laws.{first_done, map-start, map_turn}
use Rattle.parts.specs.Numbers.{most_words}
use Rattle.engine.proofs.begin.guards_of.Goals as goal

pub loop-j-init : goal.loop-j-init
loop-j-init g c = map-start _ _ _ most_words c.requires.word refl

pub loop-j-preserved : goal.loop-j-preserved
loop-j-preserved g c =
    let words = (g.S.Reads.says c.args.s.now).word in
    let n : most_words ≤ length words = omega (arith, c.requires.word) in
    simp c.word.ensures (map_turn _ _ _ words _ _ most_words _ _ c.loop-j.invariant refl (omega arith) n)

pub returns : goal.returns
returns g c =
    let words = (g.S.Reads.says c.args.s.now).word in
    let n : most_words ≤ length words = omega (arith, c.requires.word) in
    first_done guards_of _ _ words _ most_words _ refl c.loop-j.invariant c.loop-j-test.false n
