-- What Walk.antt goes by and does not list itself: the library's symbols, the generated types and their cases.
pub use Rattle.std.specs.Prelude.{ℕ, ◌≤◌, ◌≡◌, true, false, List, [], length}
pub use Rattle.engine.specs.declared.Engine.{Engine}
pub use Rattle.script.specs.declared.Line.{Line}
pub use Rattle.script.specs.declared.Line.TheVariants.{Passed, Makes, Bad}
pub use Rattle.session.specs.declared.obey.Reply.{Reply}
pub use Rattle.session.specs.declared.walk.Said.{Said}
