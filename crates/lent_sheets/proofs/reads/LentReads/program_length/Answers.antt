-- The arrays of what numbers say are whole.
use Rattle.cells.proofs.Unpack.{unpack_walked}
use Rattle.lent_sheets.proofs.reads.LentReads.program_length.Goals as goal

pub returns-clause-walked : goal.returns-clause-walked
returns-clause-walked c = unpack_walked _
