-- What Step.antt goes by and does not list itself: the library's symbols, the generated types and their cases.
pub use Rattle.std.specs.Prelude.{ℕ, ◌+◌, ◌%◌, ◌<◌, get_or, set}
pub use Rattle.parts.specs.declared.Instr.{Instr}
pub use Rattle.steps.specs.declared.Point.{Point}
pub use Rattle.steps.specs.declared.Spot.{Spot}
pub use Rattle.steps.specs.declared.View.{View}
pub use Rattle.steps.specs.declared.Worker.{Worker}
pub use Rattle.engine.specs.declared.Engine.{Engine}
pub use Rattle.engine.specs.declared.Places.{Places}
