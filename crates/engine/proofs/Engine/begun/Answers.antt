-- By what the callees ensure; the job's length is a quarter of its bytes'.
use Rattle.records.proofs.Fours.{instrs_length}
use Rattle.records.proofs.Laws.{part_end}
use Rattle.engine.specs.Calls.{begun_of}
use Rattle.engine.proofs.Engine.begun.Goals as goal

pub returns : goal.returns
unfolding begun_of
returns c =
    simp (c.from-i.ensures, c.begin.ensures, c.log_emptied.ensures, c.program_laid.ensures, c.program_emptied.ensures, part_end, instrs_length)
