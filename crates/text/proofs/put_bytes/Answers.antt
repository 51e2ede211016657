-- A space, and no bytes or some.
use Rattle.text.proofs.Written.{bytes_none, bytes_some}
use Rattle.text.proofs.put_bytes.Goals as goal

pub returns-then-is_empty : goal.returns-then-is_empty
returns-then-is_empty c = search bytes_none

pub returns : goal.returns
returns c = search bytes_some
