-- The numbers of the piece were written, and they read back.
use Rattle.std.proofs.Common.{rules}
use Rattle.cells.specs.State.{with_instr}
use Rattle.cells.specs.Layout.{instr_part}
use Rattle.cells.proofs.Unpack.{puts_by, unpack_instr}
use Rattle.cells.proofs.piece.InstrPiece.put.Goals as goal

pub returns : goal.returns
returns c = puts_by instr_part with_instr unpack_instr _ _ _ _ _ c.write.ensures (simp c.instr_number.ensures.0) (search rules) (search rules) c.instr_number.ensures.1
