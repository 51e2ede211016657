-- The number's place lies in the book.
use Rattle.book.proofs.Adds.{placed_in}
use Rattle.book.proofs.Theory.Entries.{job_size}
use Rattle.book.proofs.writer.written.Goals as goal

pub laid-requires : goal.laid-requires
laid-requires c = (placed_in _ _ _ _ c.requires.good c.place_of-p.ensures c.place_at.ensures, c.requires.below, (job_size _ c.requires.formed).1, c.requires.fits)
