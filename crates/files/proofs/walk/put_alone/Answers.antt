-- The refusal's number, and the line's end.
use Rattle.std.proofs.Common.{◌∙◌}
use Rattle.files.proofs.Walks.{alone}
use Rattle.files.proofs.walk.put_alone.Goals as goal

pub returns : goal.returns
returns c = alone _ _ _ _ _ _ _ (c.from.ensures ∙ c.number.ensures) c.put_decimal-next.ensures c.put.ensures
