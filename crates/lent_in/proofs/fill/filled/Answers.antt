-- The sizes, the words and the locks were written.
use Rattle.lent_in.proofs.Filled.{filled_by_lem}
use Rattle.lent_in.proofs.fill.filled.Goals as goal

pub returns : goal.returns
returns c =
    let q = filled_by_lem c.args.s.now _ _ _ c.args.rec.now _ c.from-n.ensures c.put_sizes.ensures c.words.ensures c.locks.ensures in
    record { s_after = q.0; unpacked = q.1 }
