-- What is put is the text of each call, one after the other.
use Rattle.std.proofs.Common.{rules}
use Rattle.text.specs.Text.{number_text}
use Rattle.text.proofs.Written.{writing}
use Rattle.text.proofs.put_number.Goals as goal

pub returns : goal.returns
unfolding number_text
returns c = search (writing, rules)
