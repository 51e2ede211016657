-- The words are those that there are.
use Rattle.engine.proofs.Laws.{job_for}
use Rattle.engine.proofs.begin.job_told.Goals as goal

pub returns : goal.returns
returns g c = job_for _ _ _ _ _ _ _ c.job_told.ensures c.word_count-n.ensures.value c.guards_of.ensures
