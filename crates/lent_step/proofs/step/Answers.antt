-- A worker that is none, that is idle or that has an answer is refused; else by the tag.
use Rattle.std.proofs.Common.{arith, rules}
use Rattle.lent_step.specs.Points.{onward_numbers}
use Rattle.lent_step.proofs.Laws.{step_nobody, step_idle, step_end, step_at_lem, beyond}
use Rattle.lent_step.proofs.step.Goals as goal

pub returns-then-i-ge-WORKERS : goal.returns-then-i-ge-WORKERS
returns-then-i-ge-WORKERS c =
    let q = step_nobody c.args.s.now c.args.w (search rules) (search rules) in
    record { value = q.0; s_after = q.1.0; unpacked = q.1.1 }

pub returns-in-0 : goal.returns-in-0
returns-in-0 c =
    let q = step_idle c.args.s.now c.args.w (search rules) _ (search rules) c.get_number-tag.ensures (search rules) in
    record { value = q.0; s_after = q.1.0; unpacked = q.1.1 }

pub returns-in-1 : goal.returns-in-1
unfolding onward_numbers
returns-in-1 c =
    let q =
    step_at_lem c.args.s.now c.args.w (search rules) 1 c.look.new.s c.look.result _ (search rules) c.get_number-tag.ensures c.in-1.is (λ z. omega arith) (omega arith)
    (c.look.ensures.value, c.look.ensures.s_after) in
    record { value = q.0; s_after = q.1.0; unpacked = q.1.1 }

pub returns-in-2 : goal.returns-in-2
unfolding onward_numbers
returns-in-2 c =
    let q =
    step_at_lem c.args.s.now c.args.w (search rules) 2 c.grab.new.s c.grab.result _ (search rules) c.get_number-tag.ensures c.in-2.is (λ z. omega arith) (omega arith)
    (c.grab.ensures.value, c.grab.ensures.s_after) in
    record { value = q.0; s_after = q.1.0; unpacked = q.1.1 }

pub returns-in-3 : goal.returns-in-3
unfolding onward_numbers
returns-in-3 c =
    let q =
    step_at_lem c.args.s.now c.args.w (search rules) 3 c.look_again.new.s c.look_again.result _ (search rules) c.get_number-tag.ensures c.in-3.is (λ z. omega arith) (omega arith)
    (c.look_again.ensures.value, c.look_again.ensures.s_after) in
    record { value = q.0; s_after = q.1.0; unpacked = q.1.1 }

pub returns-in-4 : goal.returns-in-4
unfolding onward_numbers
returns-in-4 c =
    let q =
    step_at_lem c.args.s.now c.args.w (search rules) 4 c.read_mark.new.s c.read_mark.result _ (search rules) c.get_number-tag.ensures c.in-4.is (λ z. omega arith) (omega arith)
    (c.read_mark.ensures.value, c.read_mark.ensures.s_after) in
    record { value = q.0; s_after = q.1.0; unpacked = q.1.1 }

pub returns-in-5 : goal.returns-in-5
unfolding onward_numbers
returns-in-5 c =
    let q =
    step_at_lem c.args.s.now c.args.w (search rules) 5 c.read.new.s c.read.result _ (search rules) c.get_number-tag.ensures c.in-5.is (λ z. omega arith) (omega arith)
    (c.read.ensures.value, c.read.ensures.s_after) in
    record { value = q.0; s_after = q.1.0; unpacked = q.1.1 }

pub returns-in-6 : goal.returns-in-6
unfolding onward_numbers
returns-in-6 c =
    let q =
    step_at_lem c.args.s.now c.args.w (search rules) 6 c.commit.new.s c.commit.result _ (search rules) c.get_number-tag.ensures c.in-6.is (λ z. omega arith) (omega arith)
    (c.commit.ensures.value, c.commit.ensures.s_after) in
    record { value = q.0; s_after = q.1.0; unpacked = q.1.1 }

pub returns-in-7 : goal.returns-in-7
unfolding onward_numbers
returns-in-7 c =
    let q =
    step_at_lem c.args.s.now c.args.w (search rules) 7 c.swap.new.s c.swap.result _ (search rules) c.get_number-tag.ensures c.in-7.is (λ z. omega arith) (omega arith)
    (c.swap.ensures.value, c.swap.ensures.s_after) in
    record { value = q.0; s_after = q.1.0; unpacked = q.1.1 }

pub returns-in-8 : goal.returns-in-8
unfolding onward_numbers
returns-in-8 c =
    let q =
    step_at_lem c.args.s.now c.args.w (search rules) 8 c.mark.new.s c.mark.result _ (search rules) c.get_number-tag.ensures c.in-8.is (λ z. omega arith) (omega arith)
    (c.mark.ensures.value, c.mark.ensures.s_after) in
    record { value = q.0; s_after = q.1.0; unpacked = q.1.1 }

pub returns-in-9 : goal.returns-in-9
unfolding onward_numbers
returns-in-9 c =
    let q =
    step_at_lem c.args.s.now c.args.w (search rules) 9 c.release.new.s c.release.result _ (search rules) c.get_number-tag.ensures c.in-9.is (λ z. omega arith) (omega arith)
    (c.release.ensures.value, c.release.ensures.s_after) in
    record { value = q.0; s_after = q.1.0; unpacked = q.1.1 }

pub returns-in_default : goal.returns-in_default
returns-in_default c =
    let q =
    step_end c.args.s.now c.args.w (search rules) _ (search rules) c.get_number-tag.ensures
    (beyond c.get_number-tag.result (search rules) (search rules) (search rules) (search rules) (search rules) (search rules) (search rules) (search rules) (search rules) (search rules)) in
    record { value = q.0; s_after = q.1.0; unpacked = q.1.1 }
