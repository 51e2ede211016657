-- What Reader.antt goes by and does not list itself: the library's symbols and the generated types.
pub use Rattle.std.specs.Prelude.{ℕ, ◌+◌, ◌≡◌, List, Option, Some, None, Result, Ok, Err, leb, length, drop}
pub use Rattle.parts.specs.declared.Refusal.{Refusal}
pub use Rattle.calls.specs.declared.reader.Reader.{Reader}
