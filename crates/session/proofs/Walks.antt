-- What is said of a line, by its form and by what the callees ensure.
use Prim.Native.Nat.{ℕ, ◌+◌}
use mathlib.Core.Path.{◌≡◌, ◌∙◌, ap}
use mathlib.Core.Bool.{true, false}
use mathlib.Core.List.{List}
use native.Mathlib.Omega.{arith}
use lib.ListN.{length}
use Rattle.engine.specs.declared.Engine.{Engine}
use Rattle.parts.specs.Lay.{lay}
use Rattle.script.specs.declared.Call.{Call}
use Rattle.script.specs.declared.Line.{Line}
use Rattle.script.specs.declared.Line.TheVariants.{Passed, Makes, Bad}
use Rattle.text.specs.Text.{Puts}
use Rattle.session.specs.Reply.{reply_of}
use Rattle.session.specs.ReplyText.{most_reply, bad_text}
use Rattle.session.specs.Walk.{text_of, said_of, tell_of, LineTells}
use Rattle.session.specs.declared.obey.Reply.{Reply}

pub call_told :
    (call : Call) (n m : ℕ) (e next : Engine) (text old new : List ℕ) (reply : Reply) →
    reply ≡ (reply_of call e text).reply →
    next ≡ (reply_of call e text).engine →
    Puts 0 most_reply (text_of n reply) old new m →
    LineTells (Makes call) n e next text old new (record { length = m; ended = false })
unfolding said_of tell_of
call_told call n m e next text old new reply h k p =
    let f : m ≡ 0 + length (text_of n reply) = p.place in
    let i : m ≡ length (text_of n reply) = omega arith in
    record {
      said = ap (λ (j : ℕ). record { length = j; ended = false }) (i ∙ ap (λ (q : Reply). length (text_of n q)) h);
      state = k;
      within = p.within;
      laid = p.laid ∙ ap (λ (q : Reply). lay 0 (text_of n q) old) h;
    }

pub passed_told :
    (line : Line) (n : ℕ) (e : Engine) (text old : List ℕ) →
    line ≡ Passed →
    LineTells line n e e text old old (record { length = 0; ended = false })
unfolding said_of tell_of lay
passed_told line n e text old h = record { said = simp h; state = simp h; within = omega arith; laid = simp h }

pub bad_told :
    (line : Line) (n m : ℕ) (e : Engine) (text old new : List ℕ) →
    line ≡ Bad →
    Puts 0 most_reply (bad_text n) old new m →
    LineTells line n e e text old new (record { length = m; ended = true })
unfolding said_of tell_of
bad_told line n m e text old new h p =
    let f : m ≡ 0 + length (bad_text n) = p.place in
    let k : m ≡ length (bad_text n) = omega arith in
    record {
      said = simp h (ap (λ (i : ℕ). record { length = i; ended = true }) k);
      state = simp h;
      within = p.within;
      laid = simp h p.laid;
    }
