-- What is said of a line that makes a call.
use Rattle.session.proofs.Walks.{call_told}
use Rattle.session.proofs.walk.tell_call.Goals as goal

pub returns : goal.returns
returns c = search call_told
