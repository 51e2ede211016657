use Rattle.std.proofs.Common.{refl, rules}
use Rattle.records.proofs.Laws.{lowest_is}
use Rattle.book.specs.Formed.{instr_formed, code_formed}
use Rattle.book.proofs.formed.code_formed.Goals as goal

pub returns : goal.returns
unfolding code_formed
returns c = lowest_is _ instr_formed code_formed (λ i place left u h. search rules) (λ place. refl) (λ i is place. refl) _ _ _ c.lowest.ensures
