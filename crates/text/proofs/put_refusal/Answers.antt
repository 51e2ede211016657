-- What is put are the number and the place.
use Rattle.text.proofs.Written.{refusal_by}
use Rattle.text.proofs.put_refusal.Goals as goal

pub returns : goal.returns
returns c = search refusal_by
