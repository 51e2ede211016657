-- The two numbers were written.
use Rattle.std.proofs.Common.{rules, ◌∙◌, ap}
use Rattle.cells.specs.Layout.{unpack, put_sizes}
use Rattle.cells.proofs.Unpack.{unpack_sizes}
use Rattle.cells.proofs.put_sizes.Goals as goal

pub returns : goal.returns
unfolding put_sizes
returns c = let q = simp (c.from.ensures, c.from-2.ensures) at c.write.ensures in (q, ap unpack q ∙ unpack_sizes _ _ _ (search rules) (search rules) (search rules))
