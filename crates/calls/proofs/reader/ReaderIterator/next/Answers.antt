-- By what was found at the place, and where reading goes on after it.
use Rattle.std.proofs.Common.{refl}
use Rattle.calls.proofs.Items.{past_by, item_less, item_goes}
use Rattle.calls.proofs.reader.ReaderIterator.next.Goals as goal

pub returns-clause-steps : goal.returns-clause-steps
returns-clause-steps c = (c.item_at-item.ensures, past_by _ _ _ _ c.item_at-item.ensures c.past_item-self.ensures, refl)

pub returns-clause-goes : goal.returns-clause-goes
returns-clause-goes c = item_goes _ _ _ (item_less _ _ _ _ c.item_at-item.ensures c.past_item-self.ensures)
