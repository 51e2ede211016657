-- Nothing is put of no tail.
use Rattle.session.specs.ReplyText.{tail_text}
use Rattle.text.proofs.Written.{puts_none_of}
use Rattle.session.proofs.reply_text.put_tail.Goals as goal

pub returns-in-Nothing : goal.returns-in-Nothing
unfolding tail_text
returns-in-Nothing c = search (puts_none_of tail_text)
