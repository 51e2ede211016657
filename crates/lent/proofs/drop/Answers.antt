-- A worker that is none or that is idle is refused; else it is idle.
use Rattle.std.proofs.Common.{rules}
use Rattle.lent.proofs.Laws.{drop_nobody, drop_idle, drop_done}
use Rattle.lent.proofs.drop.Goals as goal

pub returns-then-i-ge-WORKERS : goal.returns-then-i-ge-WORKERS
returns-then-i-ge-WORKERS c =
    let q = drop_nobody c.args.s.now c.args.w (search rules) (search rules) in
    record { value = q.0; s_after = q.1.0; unpacked = q.1.1 }

pub returns-then-tag-eq-IDLE : goal.returns-then-tag-eq-IDLE
returns-then-tag-eq-IDLE c =
    let q = drop_idle c.args.s.now c.args.w (search rules) _ (search rules) c.get_number-tag.ensures (search rules) in
    record { value = q.0; s_after = q.1.0; unpacked = q.1.1 }

pub returns : goal.returns
returns c =
    let q = drop_done c.args.s.now c.args.w (search rules) c.put_idle.new.s _ (search rules) c.get_number-tag.ensures (search rules) c.put_idle.ensures in
    record { value = q.0; s_after = q.1.0; unpacked = q.1.1 }
