-- The measure is the length of what is left of the program.
use Rattle.std.proofs.Common.{length}
use Rattle.alone.proofs.+go_on.Given as goal

abbrev pub decreases-go_on : goal.decreases-go_on
decreases-go_on l = length l.code.now
