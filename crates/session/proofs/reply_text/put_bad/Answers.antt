-- What is put is the text of each call, one after the other.
use Rattle.std.proofs.Common.{rules}
use Rattle.session.specs.ReplyText.{bad_text}
use Rattle.text.proofs.Written.{writing}
use Rattle.session.proofs.reply_text.put_bad.Goals as goal

pub returns : goal.returns
unfolding bad_text
returns c = rw (← c.from.ensures) (search (writing, rules))
