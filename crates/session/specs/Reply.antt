-- The call that a line names, made on the engine, and what is told of it.
mod Names
use Names.*
use Rattle.engine.specs.Calls.{setup_of, begin_of, step_of, collect_of, drop_of, read_word_of, read_lock_of, show_of, shown_of, park_of, parked_of}
use Rattle.parts.specs.Told.{on_told, answer_number}
use Rattle.parts.specs.declared.Word as parts
use Rattle.script.specs.Line.{after_word, record_in}
use Rattle.text.specs.Text.{most_bytes}
use Rattle.session.specs.ReplyText.{lent_of}

-- 512 bytes x
unfoldable pub filled_with : ℕ → List ℕ
filled_with x = replicate most_bytes x

-- what a call gives: the next state, and what is told of it
pub record Obeyed : Type 0 where
  pub engine : Engine
  pub reply : Reply

-- a reply of a call that was lent no bytes
unfoldable pub plain_reply : Told → Tail → Reply
plain_reply told tail = record { told = told; tail = tail; bytes = filled_with 0 }

unfoldable pub plain_of : Engine → Told → Tail → Obeyed
plain_of e told tail = record { engine = e; reply = plain_reply told tail }

-- setup, begin and drop tell no more than whether they were accepted
unfoldable pub quiet_of : Outcome → Obeyed
quiet_of out = plain_of out.engine out.told Nothing

-- up to N steps .., until one is refused (N may be 0); told: how many were accepted. Here n are left, and `done` were accepted
unfoldable pub steps_from : ℕ → Engine → ℕ → ℕ → Obeyed
steps_from zero e w done = plain_of e (Ok tt) (Steps done)
steps_from (suc n) e w done =
    on_told (step_of e w).told (steps_from n (step_of e w).engine w (done + 1)) (λ r. plain_of e (Err r) (Steps done))

-- answer, steps and, by request 02, the entries filled; `0 0 0` if refused
unfoldable pub collect_reply : Result Answered Refusal → Reply
collect_reply (Ok x) = plain_reply (Ok tt) (Answer (answer_number x.answer) x.steps x.filled)
collect_reply (Err r) = plain_reply (Err r) (Answer 0 0 0)

unfoldable pub script_collect : Result Answered Refusal → Engine → Obeyed
script_collect told e = record { engine = e; reply = collect_reply told }

-- value count guard; `0 0 0` if refused
unfoldable pub word_reply : Result parts.Word Refusal → Reply
word_reply (Ok w) = plain_reply (Ok tt) (Word w.value w.count w.guard)
word_reply (Err r) = plain_reply (Err r) (Word 0 0 0)

unfoldable pub script_word : Result parts.Word Refusal → Engine → Obeyed
script_word told e = record { engine = e; reply = word_reply told }

-- turn, and the holding sheet or `-`; `0 -` if refused
unfoldable pub lock_reply : Result LockWord Refusal → Reply
lock_reply (Ok l) = plain_reply (Ok tt) (Lock l.turn l.holder)
lock_reply (Err r) = plain_reply (Err r) (Lock 0 None)

unfoldable pub script_lock : Result LockWord Refusal → Engine → Obeyed
script_lock told e = record { engine = e; reply = lock_reply told }

-- into N bytes of A5: the bytes that are lent, and those that are not
abbrev pub lent_bytes : ℕ → List ℕ
lent_bytes n = take (lent_of n) (filled_with 165)

abbrev pub kept_bytes : ℕ → List ℕ
kept_bytes n = drop (lent_of n) (filled_with 165)

-- how many were written, and all N bytes; a refused writer wrote none
unfoldable pub write_reply : Result ℕ Refusal → ℕ → List ℕ → Reply
write_reply (Ok k) n bytes = record { told = Ok tt; tail = Bytes k n; bytes = bytes }
write_reply (Err r) n bytes = record { told = Err r; tail = Bytes 0 n; bytes = bytes }

unfoldable pub script_write : Result ℕ Refusal → Engine → ℕ → List ℕ → Obeyed
script_write told e n bytes = record { engine = e; reply = write_reply told n bytes }

unfoldable pub script_show : Engine → ℕ → ℕ → Obeyed
script_show e s n = script_write (show_of e s (lent_of n)) e n (shown_of e s (lent_bytes n) ++ kept_bytes n)

unfoldable pub script_park : Engine → ℕ → Obeyed
script_park e n = script_write (park_of e (lent_of n)) e n (parked_of e (lent_bytes n) ++ kept_bytes n)

-- bytes are hexadecimal: the record of a setup is its line's second word, that of a begin the fourth
abbrev pub setup_record_in : List ℕ → List ℕ
setup_record_in text = record_in (after_word text)

abbrev pub fourth_word : List ℕ → List ℕ
fourth_word text = after_word (after_word (after_word text))

abbrev pub begin_record_in : List ℕ → List ℕ
begin_record_in text = record_in (fourth_word text)

-- the call of a line, whose bytes are `text`
unfoldable pub reply_of : Call → Engine → List ℕ → Obeyed
reply_of Call.Setup e text = quiet_of (setup_of (setup_record_in text))
reply_of (Call.Begin w l) e text = quiet_of (begin_of e w l (begin_record_in text))
reply_of (Call.Step w n) e text = steps_from n e w 0
reply_of (Call.Collect w) e text = script_collect (collect_of e w).told (collect_of e w).engine
reply_of (Call.Drop w) e text = quiet_of (drop_of e w)
reply_of (Call.Word i) e text = script_word (read_word_of e i) e
reply_of (Call.Lock l) e text = script_lock (read_lock_of e l) e
reply_of (Call.Show s n) e text = script_show e s n
reply_of (Call.Park n) e text = script_park e n
