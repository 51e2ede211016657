-- A begin that found all that it asks for: its worker is one, may begin, and its record is a job's.
use Rattle.std.proofs.Common.{arith}
use Rattle.engine.proofs.Begins.{job_size}
use Rattle.lent_in.proofs.fill.taken.Goals as goal

pub begun-requires : goal.begun-requires
begun-requires c =
    let n = job_size _ _ _ c.requires.1.job in
    (c.requires.0, c.requires.1.worker, c.requires.2, omega (arith, n), omega (arith, n), c.requires.1.idle)
