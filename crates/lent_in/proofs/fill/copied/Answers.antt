-- The program was cleared and written, and the log emptied.
use Rattle.lent_in.proofs.Begins.{copied_by}
use Rattle.lent_in.proofs.fill.copied.Goals as goal

pub returns : goal.returns
returns c =
    let q = copied_by c.args.s.now _ _ _ c.args.rec.now c.args.sheet c.no_program.ensures c.program.ensures c.no_log.ensures in
    record { s_after = q.0; unpacked = q.1 }
