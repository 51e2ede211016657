-- What Used.antt goes by and does not list itself: the library's symbols, the generated types and their cases.
pub use Rattle.std.specs.Prelude.{ℕ, ◌≤◌, ◌<◌, true, false, List, ◌≡◌, Ok}
pub use Rattle.steps.specs.declared.State.TheVariants.{Idle}
pub use Rattle.engine.specs.declared.Engine.{Engine}
