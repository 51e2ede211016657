-- By whether the file has a setup.
use Rattle.files.proofs.Walks.{printed_five, printed_rest}
use Rattle.files.proofs.walk.replay.Goals as goal

pub returns-then-no_setup-clause-puts : goal.returns-then-no_setup-clause-puts
returns-then-no_setup-clause-puts c = search printed_five

pub returns-clause-puts : goal.returns-clause-puts
returns-clause-puts c = search printed_rest
