-- What Filled.antt goes by and does not list itself: the library's symbols, the generated types and their cases.
pub use Rattle.std.specs.Prelude.{ℕ, zero, suc, ◌+◌, ◌≡◌, ◌≢◌, true, List, [], ◌∷◌, ◌++◌, eqb, get_or, Err, Ok, Result}
pub use Rattle.parts.specs.declared.Answer.{Answer}
pub use Rattle.steps.specs.declared.State.TheVariants.{Idle}
pub use Rattle.engine.specs.declared.Engine.{Engine}
pub use Rattle.engine.specs.declared.Answered.{Answered}
pub use Rattle.parts.specs.declared.Refusal.{Refusal}
pub use Rattle.engine.specs.Calls.{answered}
