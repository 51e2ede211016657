-- A record that was accepted has the sizes that `filled` asks for.
use Rattle.std.proofs.Common.{rules, ◌∙◌, sym}
use Rattle.records.proofs.One.{setup_sized}
use Rattle.lent_in.proofs.setup.Goals as goal

pub filled-requires : goal.filled-requires
filled-requires c = (search rules, setup_sized _ (sym c.setup_told.ensures ∙ c.in_ok-setup_told.was))
