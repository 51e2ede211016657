-- The word's number is that of the digits so far with the rest of the word after it.
use Rattle.std.proofs.Common.{◌≡◌, drop}
use Rattle.script.specs.Line.{digits_from}
use Rattle.script.proofs.digits_of.Given as goal

abbrev pub invariant-loop-b : goal.invariant-loop-b
invariant-loop-b l = digits_from 0 l.word ≡ digits_from l.n (drop l.b-index l.word)
