-- The sheet has the job, and the worker is to look.
use Rattle.std.proofs.Common.{rules, refl}
use Rattle.lent_in.proofs.Begins.{begun_by}
use Rattle.lent_in.proofs.fill.begun.Goals as goal

pub returns : goal.returns
returns c =
    let q =
    begun_by c.args.s.now _ _ _ c.args.rec.now c.args.w c.args.lock c.args.sheet _ _ (search rules) c.looking.ensures
    (simp c.from-at.ensures at c.copied.ensures.s_after, simp c.from-at.ensures at c.copied.ensures.unpacked) refl (simp c.from-at.ensures at c.put.ensures) c.put-2.ensures in
    record { s_after = q.0; unpacked = q.1 }
