-- What ReplyText.antt goes by and does not list itself: the library's symbols, the generated types and their cases.
pub use Rattle.std.specs.Prelude.{ℕ, ◌+◌, ◌*◌, min, List, [], ◌∷◌, ◌++◌, take}
pub use Rattle.parts.specs.Told.{Told}
pub use Rattle.session.specs.declared.reply_text.Tail.{Tail}
pub use Rattle.session.specs.declared.reply_text.Tail.TheVariants.{Nothing, Steps, Answer, Word, Lock, Bytes}
