-- The numbers of the piece were written, and they read back.
use Rattle.std.proofs.Common.{rules}
use Rattle.cells.specs.State.{with_sheet}
use Rattle.cells.specs.Layout.{sheet_part}
use Rattle.cells.proofs.Back.{sheet_back}
use Rattle.cells.proofs.Unpack.{puts_by, unpack_sheet}
use Rattle.cells.proofs.piece.SheetPiece.put.Goals as goal

pub returns : goal.returns
returns c = puts_by sheet_part with_sheet unpack_sheet _ _ _ _ _ c.write.ensures (simp (c.flag_number-done.ensures, c.from.ensures)) (search rules) (search rules) (sheet_back _ (search rules))
