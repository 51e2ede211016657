-- What is put is the text of each call, one after the other.
use Rattle.std.proofs.Common.{rules}
use Rattle.text.proofs.Written.{writing}
use Rattle.text.proofs.put_lock.Goals as goal

pub returns : goal.returns
returns c = search (writing, rules)
