-- Each arm is what the definition has in that state; the bytes that the callees know read back.
use Rattle.parts.proofs.Laws.{at_case_of}
use Rattle.cells.specs.Codes.{state_numbers, worker_numbers, StateFits}
use Rattle.cells.proofs.Back.{worker_back}
use Rattle.cells.proofs.Laws.{known_of}
use Rattle.cells.proofs.worker.worker_numbers.Goals as goal

pub returns-in-Idle : goal.returns-in-Idle
unfolding worker_numbers
returns-in-Idle c = (simp c.seen_numbers.ensures.0 (search (at_case_of state_numbers)), worker_back _ (search) (search (known_of StateFits)))

pub returns-in-UnderWay : goal.returns-in-UnderWay
unfolding worker_numbers
returns-in-UnderWay c = (simp c.point_numbers.ensures.0 (search (at_case_of state_numbers)), worker_back _ (search) (search (known_of StateFits)))

pub returns-in-Finished : goal.returns-in-Finished
unfolding worker_numbers
returns-in-Finished c = (
  simp (c.seen_numbers-in-Finished.ensures.0, c.number.ensures) (search (at_case_of state_numbers)),
  worker_back _ (search) (search (known_of StateFits)),
)
