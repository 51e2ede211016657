use Rattle.std.proofs.Common.{ap, ◌∙◌, length, length-append, arith}
use Rattle.parts.proofs.Lay.{lay_done}
use Rattle.records.specs.Job.{instrs_of}
use Rattle.records.proofs.Fours.{instrs_four, instrs_short}
use Rattle.arrays.proofs.Laws.{turn_laid}
use Rattle.arrays.proofs.laid.program_laid.Goals as goal

pub loop-j-preserved : goal.loop-j-preserved
loop-j-preserved c =
    let s = c.in-Some.ensures.steps in
    let i = c.loop-j.invariant in
    let four = instrs_four _ _ _ s.0.1.0 (s.0.1.1 ∙ i.size) in
    record {
      size = s.0.0 ∙ i.size;
      left = omega (arith, simp length-append at (ap length s.0.1.0));
      laid = turn_laid (λ s. instrs_of s) _ _ _ _ _ _ _ _ i.laid (rw (← c.first_instr.ensures) at four) (omega arith) (omega arith);
    }

pub returns : goal.returns
returns c =
    let i = c.loop-j.invariant in
    lay_done _ _ _ _ (instrs_short _ (omega (arith, c.in-None.ensures.steps.0.1.0))) i.laid
