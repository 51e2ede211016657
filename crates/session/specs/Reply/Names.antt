-- What Reply.antt goes by and does not list itself: the library's symbols, the generated types and their cases.
pub use Rattle.std.specs.Prelude.{ℕ, zero, suc, ◌+◌, List, ◌++◌, take, drop, replicate, Err, None, Ok, Result}
pub use Rattle.engine.specs.declared.Engine.{Engine}
pub use Rattle.engine.specs.declared.Outcome.{Outcome}
pub use Rattle.parts.specs.Told.{Told}
pub use Rattle.script.specs.declared.Call.{Call}
pub use Rattle.session.specs.declared.obey.Reply.{Reply}
pub use Rattle.session.specs.declared.reply_text.Tail.{Tail}
pub use Rattle.session.specs.declared.reply_text.Tail.TheVariants.{Nothing, Steps, Answer, Word, Lock, Bytes}
pub use Rattle.engine.specs.declared.Answered.{Answered}
pub use Rattle.parts.specs.declared.LockWord.{LockWord}
pub use Rattle.parts.specs.declared.Refusal.{Refusal}
