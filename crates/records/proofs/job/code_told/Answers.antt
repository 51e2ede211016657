use Rattle.std.proofs.Common.{refl, rules}
use Rattle.records.specs.Job.{instr_told, code_told}
use Rattle.records.proofs.Laws.{lowest_is}
use Rattle.records.proofs.job.code_told.Goals as goal

pub returns : goal.returns
unfolding code_told
returns c =
    lowest_is _ (λ i place left. instr_told i place left c.args.lock c.args.guards.now)
    (λ is place. code_told is place c.args.lock c.args.guards.now)
    (λ i place left u h. search rules) (λ place. refl) (λ i is place. refl) _ _ _ c.lowest.ensures
