-- What is put is the text of each call, one after the other.
use Rattle.std.proofs.Common.{rules}
use Rattle.text.proofs.Written.{writing}
use Rattle.session.proofs.reply_text.put_head.Goals as goal

pub returns : goal.returns
returns c = rw (← c.from.ensures) (search (writing, rules))
