-- A turn puts the byte of the next two digits.
use Rattle.std.proofs.Common.{refl, length-set, arith}
use Rattle.script.proofs.Laws.{record_turn, record_end}
use Rattle.script.proofs.record_of.Goals as goal

pub loop-j-init : goal.loop-j-init
loop-j-init c = record { kept = refl; so_far = refl }

pub loop-j-preserved : goal.loop-j-preserved
loop-j-preserved c = record { kept = simp length-set c.loop-j.invariant.kept; so_far = search record_turn }

pub returns : goal.returns
returns c = search record_end
