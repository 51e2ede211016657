-- What is left to write is laid over the guards that are written.
use Rattle.std.proofs.Common.{◌≡◌, take, drop}
use Rattle.arrays.specs.Fresh.{guards_of}
use Rattle.parts.specs.Lay.{lay}
use Rattle.parts.specs.Numbers.{most_words}
use Rattle.engine.proofs.begin.guards_of.Given as goal

abbrev pub invariant-loop-j : goal.invariant-loop-j
invariant-loop-j g l = let words = (g.S.Reads.says l.fn.s).word in guards_of words ≡ lay l.j (guards_of (drop l.j (take most_words words))) l.out
