use Rattle.std.proofs.Common.{◌≡◌, ◌+◌, ◌*◌, sym, ◌∙◌, arith}
use Rattle.std.specs.Iterator.Adapters.{enumerate_count}
use borrow.Author.Tests.{lt-ltb, le-ltb}
use Rattle.records.proofs.Laws.{turns_turn, turns_end}
use Rattle.records.proofs.setup.turns_told.Goals as goal

pub returns-then-u32_at-gt-LAST_TURN : goal.returns-then-u32_at-gt-LAST_TURN
returns-then-u32_at-gt-LAST_TURN c =
    let s = c.in-Some.ensures.steps in
    let i = c.loop-j.invariant in
    let turn = i.told ∙ turns_turn _ _ _ _ s.0.1.0 (s.0.1.1 ∙ i.size) in
    let over = lt-ltb _ _ c.if-u32_at-gt-LAST_TURN.true in
    sym (turn ∙ simp (← c.u32_at.ensures, over, s.1))

pub loop-j-preserved : goal.loop-j-preserved
loop-j-preserved c =
    let s = c.in-Some.ensures.steps in
    let i = c.loop-j.invariant in
    let turn = i.told ∙ turns_turn _ _ _ _ s.0.1.0 (s.0.1.1 ∙ i.size) in
    let within = le-ltb _ _ c.if-u32_at-gt-LAST_TURN.false in
    let next : c.args.from + 4 * (enumerate_count c.loop-j.j-iterator + 1) ≡ c.args.from + 4 * enumerate_count c.loop-j.j-iterator + 4 = omega arith in
    record {
      size = s.0.0 ∙ i.size;
      told = turn ∙ simp (← c.u32_at.ensures, within, s.2, next);
    }

pub returns : goal.returns
returns c = let i = c.loop-j.invariant in sym (i.told ∙ turns_end _ _ (omega (arith, c.in-None.ensures.steps.0.1.0)))
