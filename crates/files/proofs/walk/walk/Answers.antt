-- What is left of the walk, by the item that the reader hands out.
use Rattle.std.proofs.Common.{◌∙◌, ap}
use Rattle.files.proofs.Walks.{left_start, left_end, left_end_state, left_refused, left_refused_state, here_within, here_accepted, left_record}
use Rattle.files.proofs.walk.walk.Goals as goal

pub loop-index-init : goal.loop-index-init
loop-index-init c =
    let e = c.into_iter-index-iterator.ensures.into_iter_gives in
    let r = c.reader_at.ensures in
    left_start _ _ _ _ _ _ _ (ap (λ b. b.now) r.0, r.1) (ap (λ i. i.iter) e ∙ c.enumerate-index-items.ensures.source)
    (ap (λ i. i.count) e ∙ c.enumerate-index-items.ensures.count) c.requires.0 c.requires.1 c.requires.2

pub returns-in-Err-clause-puts : goal.returns-in-Err-clause-puts
returns-in-Err-clause-puts c =
    let steps = c.in-Some.ensures.steps in
    left_refused _ _ _ _ _ _ _ _ _ c.loop-index.invariant _ steps.0.0 _ _ _ _ _ c.in-Err.is c.refused_line.ensures steps.1
    c.put_line.ensures

pub returns-in-Err-clause-engine_value : goal.returns-in-Err-clause-engine_value
returns-in-Err-clause-engine_value c =
    left_refused_state _ _ _ _ _ _ _ _ _ c.loop-index.invariant _ c.in-Some.ensures.steps.0.0 _ c.in-Err.is

pub slice_bounds-call-count : goal.slice_bounds-call-count
slice_bounds-call-count c = here_within _ _ _ _ _ _ _ _ _ c.loop-index.invariant _ c.in-Some.ensures.steps.0.0 _ _ c.in-Ok.is

pub slice_bounds-call-start : goal.slice_bounds-call-start
slice_bounds-call-start c = here_within _ _ _ _ _ _ _ _ _ c.loop-index.invariant _ c.in-Some.ensures.steps.0.0 _ _ c.in-Ok.is

pub invariant_of-call : goal.invariant_of-call
invariant_of-call c =
    record {
      accepted = here_accepted _ _ _ _ _ _ _ _ _ c.loop-index.invariant _ c.in-Some.ensures.steps.0.0 _ _ c.in-Ok.is;
    }

pub loop-index-preserved : goal.loop-index-preserved
loop-index-preserved c =
    let steps = c.in-Some.ensures.steps in
    let next = steps.0 in
    left_record _ _ _ _ _ _ _ _ _ c.loop-index.invariant _ next.0 _ _ c.in-Ok.is _ _ c.make-line.ensures.value c.make-line.ensures.after _
    next.1 next.2 _ _ _ _ steps.1 steps.2 c.put_line-at.ensures

pub returns-clause-puts : goal.returns-clause-puts
returns-clause-puts c = left_end _ _ _ _ _ _ _ _ _ c.loop-index.invariant c.in-None.ensures.steps.0.0

pub returns-clause-engine_value : goal.returns-clause-engine_value
returns-clause-engine_value c = left_end_state _ _ _ _ _ _ _ _ _ c.loop-index.invariant c.in-None.ensures.steps.0.0
