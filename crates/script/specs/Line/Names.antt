-- What Line.antt goes by and does not list itself: the library's symbols, the generated types and their cases.
pub use Rattle.std.specs.Prelude.{ℕ, ◌+◌, ◌*◌, ◌-◌, ◌%◌, min, Bool, true, false, List, [], ◌∷◌, eqb, ltb, length, get_or, take, drop, is_some, Option, Some, None}
pub use Rattle.std.specs.Option.{unwrap_or}
pub use Rattle.script.specs.declared.Verb.{Verb}
pub use Rattle.script.specs.declared.Verb.TheVariants.{Setup, Begin, Step, Collect, Drop, Word, Lock, Show, Park}
pub use Rattle.script.specs.declared.Call.{Call}
pub use Rattle.script.specs.declared.Line.{Line}
pub use Rattle.script.specs.declared.Line.TheVariants.{Passed, Makes, Bad}
