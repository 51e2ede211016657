-- As many numbers as a state has were made 0.
use Rattle.std.proofs.Common.{arith, length-take-le, rules, ◌∙◌, ap}
use Rattle.cells.specs.Layout.{numbers, unpack, blanked}
use Rattle.cells.proofs.Laws.{lay_first}
use Rattle.cells.proofs.Unpack.{unpack-blanked}
use Rattle.cells.proofs.blank.Goals as goal

pub returns : goal.returns
unfolding blanked
returns c =
    let q = lay_first numbers _ 0 _ c.args.s.now (c.fill.ensures.after (λ y e. e)) (omega (arith, length-take-le numbers c.args.s.now)) (search rules) in
    (q, ap unpack q ∙ unpack-blanked _ (search rules))
