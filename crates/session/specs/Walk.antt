-- The walk over a script: what its next line tells, and the state after it.
mod Names
use Names.*
use Rattle.parts.specs.Lay.{lay}
use Rattle.script.specs.Line.{before_of}
use Rattle.text.specs.Text.{newline}
use Rattle.session.specs.Reply.{reply_of}
use Rattle.session.specs.ReplyText.{most_reply, reply_text, bad_text}

-- what is written of a reply, by the number of its line
abbrev pub text_of : ℕ → Reply → List ℕ
text_of number reply = reply_text number reply.told reply.tail reply.bytes

-- For each call it writes one line; A line that isn't of this form writes `LINE ?` and ends the run. The text of line number n,
-- with these bytes, on state e
unfoldable pub said_of : Line → ℕ → Engine → List ℕ → List ℕ
said_of Passed n e text = []
said_of (Makes call) n e text = text_of n (reply_of call e text).reply
said_of Bad n e text = bad_text n

-- what a line gives: the next state, and what was said
pub record Turned : Type 0 where
  pub engine : Engine
  pub said : Said

-- the state after it, how many bytes it wrote, and whether the run is at its end
unfoldable pub tell_of : Line → ℕ → Engine → List ℕ → Turned
tell_of Passed n e text = record { engine = e; said = record { length = 0; ended = false } }
tell_of (Makes call) n e text =
    record {
      engine = (reply_of call e text).engine;
      said = record { length = length (text_of n (reply_of call e text).reply); ended = false };
    }
tell_of Bad n e text = record { engine = e; said = record { length = length (bad_text n); ended = true } }

-- the first line of what is left of the script
abbrev pub line_at : List ℕ → List ℕ
line_at rest = before_of newline rest

-- what is said of a line, the state before and after it, and the buffer that the text is put into
pub record LineTells (line : Line) (n : ℕ) (e next : Engine) (text old new : List ℕ) (r : Said) : Type 0 where
  pub said : r ≡ (tell_of line n e text).said
  pub state : next ≡ (tell_of line n e text).engine
  pub within : r.length ≤ most_reply
  pub laid : new ≡ lay 0 (said_of line n e text) old
