-- What Plainly.antt goes by and does not list itself: the library's symbols, the generated types and their cases.
pub use Rattle.std.specs.Prelude.{ℕ, suc, ◌<◌, Bool, List, ◌∷◌, ◌≢◌, ◌≡◌, Err, None, Ok, Result}
pub use Rattle.parts.specs.declared.Answer.TheVariants.{RanYes, RanNo}
pub use Rattle.steps.specs.declared.State.TheVariants.{Idle}
pub use Rattle.engine.specs.declared.Engine.{Engine}
pub use Rattle.engine.specs.declared.Answered.{Answered}
pub use Rattle.alone.specs.declared.Ran.{Ran}
pub use Rattle.parts.specs.declared.Refusal.{Refusal}
pub use Rattle.engine.specs.Calls.{answered}
