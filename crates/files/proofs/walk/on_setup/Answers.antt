-- By what setup told of the file's first n bytes.
use Rattle.files.proofs.Walks.{printed_refused, printed_walk}
use Rattle.files.proofs.walk.on_setup.Goals as goal

pub returns-in-Err-clause-puts : goal.returns-in-Err-clause-puts
returns-in-Err-clause-puts c = search printed_refused

pub returns-in-Ok-clause-puts : goal.returns-in-Ok-clause-puts
returns-in-Ok-clause-puts c = search printed_walk
