-- What is put is the text of each call, one after the other.
use Rattle.std.proofs.Common.{rules}
use Rattle.text.proofs.Written.{writing}
use Rattle.files.proofs.walk.put_line.Goals as goal

pub returns : goal.returns
returns c = search (writing, rules)
