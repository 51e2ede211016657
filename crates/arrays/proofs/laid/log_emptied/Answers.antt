use Rattle.std.proofs.Common.{rules}
use Rattle.arrays.proofs.Laws.{filled}
use Rattle.arrays.proofs.laid.log_emptied.Goals as goal

pub returns : goal.returns
returns c = filled _ _ _ _ _ (c.fill.ensures.after (λ y e. e)) (search rules)
