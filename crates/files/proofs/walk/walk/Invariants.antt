-- The invariant: what is left of the walk.
use Rattle.std.proofs.Common.{drop}
use Rattle.files.specs.File.{walk_from, lines_text}
use Rattle.files.proofs.Walks.{Left}
use Rattle.files.proofs.walk.walk.Given as goal

abbrev pub invariant-loop-index : goal.invariant-loop-index
invariant-loop-index l =
    Left l.file (lines_text 0 (walk_from 0 l.fn.engine (drop l.from l.file)).lines) l.fn.out (walk_from 0 l.fn.engine (drop l.from l.file)).engine
    l.engine l.index-iterator.iter l.index-iterator.count l.at l.out
