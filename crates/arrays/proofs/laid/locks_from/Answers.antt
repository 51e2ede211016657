use Rattle.std.proofs.Common.{ap, ◌∙◌, length, length-append, map, arith}
use Rattle.parts.proofs.Lay.{lay_done}
use Rattle.records.specs.Bytes.{u32s_of}
use Rattle.records.proofs.Fours.{u32s_four, u32s_short}
use Rattle.arrays.specs.Fresh.{free_at}
use Rattle.arrays.proofs.Laws.{turn_laid}
use Rattle.arrays.proofs.laid.locks_from.Goals as goal

pub loop-j-preserved : goal.loop-j-preserved
loop-j-preserved c =
    let s = c.in-Some.ensures.steps in
    let i = c.loop-j.invariant in
    let four = ap (map free_at) (u32s_four _ _ _ s.0.1.0 (s.0.1.1 ∙ i.size)) in
    record {
      size = s.0.0 ∙ i.size;
      left = omega (arith, simp length-append at (ap length s.0.1.0));
      laid = turn_laid (λ s. map free_at (u32s_of s)) _ _ _ _ _ _ _ _ i.laid (rw (← c.u32_at.ensures) at four) s.1 s.2;
    }

pub returns : goal.returns
returns c =
    let i = c.loop-j.invariant in
    lay_done _ _ _ _ (ap (map free_at) (u32s_short _ (omega (arith, c.in-None.ensures.steps.0.1.0)))) i.laid
