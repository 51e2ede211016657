-- The numbers of the piece were written, and they read back.
use Rattle.std.proofs.Common.{rules}
use Rattle.cells.specs.State.{with_lock}
use Rattle.cells.specs.Layout.{lock_part}
use Rattle.cells.proofs.Back.{lock_back}
use Rattle.cells.proofs.Unpack.{puts_by, unpack_lock}
use Rattle.cells.proofs.piece.LockWordPiece.put.Goals as goal

pub returns : goal.returns
returns c = puts_by lock_part with_lock unpack_lock _ _ _ _ _ c.write.ensures (simp c.holder_number-holder.ensures.0) (search rules) (search rules) (lock_back _ c.holder_number-holder.ensures.1)
