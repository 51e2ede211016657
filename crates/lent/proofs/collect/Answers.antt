-- A worker that is none, that is idle or that is under way is refused; else it hands out.
use Rattle.std.proofs.Common.{rules}
use Rattle.lent.proofs.Laws.{collect_nobody, collect_idle, collect_way, collect_done}
use Rattle.lent.proofs.collect.Goals as goal

pub returns-then-i-ge-WORKERS : goal.returns-then-i-ge-WORKERS
returns-then-i-ge-WORKERS c =
    let q = collect_nobody c.args.s.now c.args.w (search rules) (search rules) in
    record { value = q.0; s_after = q.1.0; unpacked = q.1.1 }

pub returns-then-tag-eq-IDLE : goal.returns-then-tag-eq-IDLE
returns-then-tag-eq-IDLE c =
    let q = collect_idle c.args.s.now c.args.w (search rules) _ (search rules) c.get_number-tag.ensures (search rules) in
    record { value = q.0; s_after = q.1.0; unpacked = q.1.1 }

pub returns-then-tag-le-RELEASE : goal.returns-then-tag-le-RELEASE
returns-then-tag-le-RELEASE c =
    let q = collect_way c.args.s.now c.args.w (search rules) _ (search rules) c.get_number-tag.ensures (search rules) (search rules) in
    record { value = q.0; s_after = q.1.0; unpacked = q.1.1 }

pub returns : goal.returns
returns c =
    let q = collect_done c.args.s.now c.args.w (search rules) c.hand_out.new.s c.hand_out.result _ (search rules) c.get_number-tag.ensures (search rules) c.hand_out.ensures.value c.hand_out.ensures.s_after in
    record { value = q.0; s_after = q.1.0; unpacked = q.1.1 }
