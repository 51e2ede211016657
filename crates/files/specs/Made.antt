-- What only inner contracts ask for: what a call gives, the next state and its line.
use Rattle.engine.specs.declared.Engine.{Engine}
use Rattle.engine.specs.declared.Outcome.{Outcome}
use Rattle.past.specs.Past.{Call, after}
use Rattle.files.specs.File.{told_line, call_line}
use Rattle.files.specs.declared.make.Line.{Line}

pub record Made : Type 0 where
  pub engine : Engine
  pub line : Line

unfoldable pub quiet_made : Outcome → Made
quiet_made out = record { engine = out.engine; line = told_line out.told }

unfoldable pub made_of : Engine → Call → Made
made_of e call = record { engine = after e call; line = call_line e call }
