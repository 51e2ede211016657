-- The numbers of the piece were written, and they read back.
use Rattle.std.proofs.Common.{rules}
use Rattle.engine.specs.State.{with_worker}
use Rattle.cells.specs.Layout.{worker_part}
use Rattle.cells.proofs.Unpack.{puts_by, unpack_worker}
use Rattle.cells.proofs.piece.WorkerPiece.put.Goals as goal

pub returns : goal.returns
returns c = puts_by worker_part with_worker unpack_worker _ _ _ _ _ c.write.ensures c.worker_numbers-n.ensures.0 (search rules) (search rules) c.worker_numbers-n.ensures.1
