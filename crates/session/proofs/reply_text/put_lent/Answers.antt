-- A number, and the first of the bytes.
use Rattle.session.proofs.Replies.{lent_by}
use Rattle.session.proofs.reply_text.put_lent.Goals as goal

pub returns : goal.returns
returns c = search lent_by
