-- What Worker.antt goes by and does not list itself: the library's symbols, the generated types and their cases.
pub use Rattle.std.specs.Prelude.{ℕ, Bool, Err, Ok}
pub use Rattle.parts.specs.declared.Answer.{Answer}
pub use Rattle.parts.specs.declared.Refusal.TheVariants.{WorkerUnderWay, NotCollected, WorkerIdle}
pub use Rattle.parts.specs.Told.{Told}
pub use Rattle.steps.specs.declared.Point.{Point}
pub use Rattle.steps.specs.declared.Point.TheVariants.{Look}
pub use Rattle.steps.specs.declared.State.{State}
pub use Rattle.steps.specs.declared.State.TheVariants.{Idle, UnderWay, Finished}
pub use Rattle.steps.specs.declared.Worker.{Worker}
