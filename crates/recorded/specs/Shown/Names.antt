-- What Shown.antt goes by and does not list itself: the library's symbols, the generated types and their cases.
pub use Rattle.std.specs.Prelude.{ℕ, ◌+◌, ◌*◌, ◌≡◌, List, [], ◌∷◌, ◌++◌, replicate, take, drop, Err, Ok}
pub use Rattle.files.specs.declared.make.Line.{Line}
pub use Rattle.files.specs.declared.make.Line.TheVariants.{Answer}
pub use Rattle.parts.specs.declared.Refusal.TheVariants.{NoWorker, WorkerIdle, Length, Kind, CallRecord}
