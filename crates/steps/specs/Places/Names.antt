-- What Places.antt goes by and does not list itself: the library's symbols, the generated types and their cases.
pub use Rattle.std.specs.Prelude.{ℕ, Bool, false, eqb, None, Option, Some}
pub use Rattle.steps.specs.declared.Point.{Point}
pub use Rattle.steps.specs.declared.Point.TheVariants.{Look, Grab, LookAgain, ReadMark}
pub use Rattle.steps.specs.declared.Run.{Run}
pub use Rattle.steps.specs.declared.Spot.{Spot}
pub use Rattle.steps.specs.declared.Worker.{Worker}
