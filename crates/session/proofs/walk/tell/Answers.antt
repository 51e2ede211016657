-- What is said of a line that makes no call.
use Rattle.session.proofs.Walks.{passed_told, bad_told}
use Rattle.session.proofs.walk.tell.Goals as goal

pub returns-in-Passed : goal.returns-in-Passed
returns-in-Passed c = search passed_told

pub returns-in-Bad : goal.returns-in-Bad
returns-in-Bad c = search bad_told
