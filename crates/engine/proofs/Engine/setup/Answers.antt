-- A record that was accepted has its sizes.
use Rattle.std.proofs.Common.{◌∙◌, sym}
use Rattle.records.proofs.One.{setup_sized}
use Rattle.engine.proofs.Engine.setup.Goals as goal

pub fresh-engine-requires : goal.fresh-engine-requires
fresh-engine-requires c = setup_sized _ (sym c.setup_told-told.ensures ∙ c.in-Ok.is)
