-- The numbers of the piece were written, and they read back.
use Rattle.std.proofs.Common.{rules}
use Rattle.cells.specs.State.{with_word}
use Rattle.cells.specs.Layout.{word_part}
use Rattle.cells.proofs.Back.{word_back}
use Rattle.cells.proofs.Unpack.{puts_by, unpack_word}
use Rattle.cells.proofs.piece.WordPiece.put.Goals as goal

pub returns : goal.returns
returns c = puts_by word_part with_word unpack_word _ _ _ _ _ c.write.ensures (simp c.from.ensures) (search rules) (search rules) (word_back _ (search rules))
