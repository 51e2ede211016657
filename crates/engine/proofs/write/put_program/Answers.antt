-- The header is laid, and the instructions past it.
use Rattle.engine.proofs.Written.{program_laid}
use Rattle.engine.proofs.write.put_program.Goals as goal

pub returns-clause-buf_after : goal.returns-clause-buf_after
returns-clause-buf_after g c = search program_laid
