-- What is put is the text of each call, one after the other.
use Rattle.std.proofs.Common.{rules}
use Rattle.session.specs.ReplyText.{reply_text}
use Rattle.text.proofs.Written.{writing}
use Rattle.session.proofs.reply_text.put_reply.Goals as goal

pub returns : goal.returns
unfolding reply_text
returns c = search (writing, rules)
