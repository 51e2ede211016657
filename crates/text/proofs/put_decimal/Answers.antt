-- The library's digits are the definition's.
use Rattle.text.proofs.Written.{decimal_by}
use Rattle.text.proofs.put_decimal.Goals as goal

pub returns : goal.returns
returns c = search decimal_by
