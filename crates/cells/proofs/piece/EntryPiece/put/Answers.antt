-- The numbers of the piece were written, and they read back.
use Rattle.std.proofs.Common.{rules}
use Rattle.cells.specs.State.{with_entry}
use Rattle.cells.specs.Layout.{entry_part}
use Rattle.cells.proofs.Back.{entry_back}
use Rattle.cells.proofs.Unpack.{puts_by, unpack_entry}
use Rattle.cells.proofs.piece.EntryPiece.put.Goals as goal

pub returns : goal.returns
returns c = puts_by entry_part with_entry unpack_entry _ _ _ _ _ c.write.ensures c.fill_numbers-n.ensures (search rules) (search rules) (entry_back _)
