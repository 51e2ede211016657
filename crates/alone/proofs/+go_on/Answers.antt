use Rattle.alone.proofs.Laws.{turns}
use Rattle.alone.proofs.+go_on.Goals as goal

pub returns-in-Touch : goal.returns-in-Touch
returns-in-Touch t c = search turns depth 8
