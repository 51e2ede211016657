-- What the C interface tells: document 01's numbers and places, and 0 where a field has nothing to tell.
mod Names
use Names.*
use Rattle.parts.specs.Pick.{pick, on_option}
use Rattle.parts.specs.Told.{answer_number, refusal_number, refusal_place}
use Rattle.cells.specs.Layout.{numbers}
use Rattle.book.specs.Book.{Search, book_number, some_number}

-- Fewer numbers than the layout has: refusal 22, place 0: the first then, else the second
abbrev pub unless_short : {A : Type 0} → List ℕ → A → A → A
unless_short s short x = pick (ltb (length s) numbers) short x

abbrev pub short_reply : Reply
short_reply = record { number = 22; place = 0 }

-- a refusal's number and place, the place in 32 bits
unfoldable pub refusal_reply : Refusal → Reply
refusal_reply r = record { number = refusal_number r; place = refusal_place r % 2 ^ 32 }

-- number 0 says accepted
abbrev pub told_fields : Told → Reply
told_fields (Ok _) = record { number = 0; place = 0 }
told_fields (Err r) = refusal_reply r

-- where the call was refused so, there is nothing else to tell
abbrev pub no_answer : Reply → Collected
no_answer r = record { number = r.number; place = r.place; answer = 0; steps = 0; filled = 0 }

abbrev pub collected_fields : Result Answered Refusal → Collected
collected_fields (Ok x) =
    record { number = 0; place = 0; answer = answer_number x.answer; steps = x.steps; filled = x.filled }
collected_fields (Err r) = no_answer (refusal_reply r)

abbrev pub no_word : Reply → WordRead
no_word r = record { number = r.number; place = r.place; value = 0; count = 0; guard = 0 }

abbrev pub word_fields : Result Word Refusal → WordRead
word_fields (Ok w) = record { number = 0; place = 0; value = w.value; count = w.count; guard = w.guard }
word_fields (Err r) = no_word (refusal_reply r)

abbrev pub no_lock : Reply → LockRead
no_lock r = record { number = r.number; place = r.place; turn = 0; held = 0; sheet = 0 }

-- held 0: free; held 1: by the sheet
abbrev pub lock_word_fields : LockWord → LockRead
lock_word_fields l =
    on_option l.holder (record { number = 0; place = 0; turn = l.turn; held = 0; sheet = 0 })
    (λ s. record { number = 0; place = 0; turn = l.turn; held = 1; sheet = s })

abbrev pub lock_fields : Result LockWord Refusal → LockRead
lock_fields (Ok l) = lock_word_fields l
lock_fields (Err r) = no_lock (refusal_reply r)

abbrev pub no_bytes : Reply → Wrote
no_bytes r = record { number = r.number; place = r.place; length = 0 }

-- how many bytes, in 32 bits
abbrev pub wrote_fields : Result ℕ Refusal → Wrote
wrote_fields (Ok n) = record { number = 0; place = 0; length = n % 2 ^ 32 }
wrote_fields (Err r) = no_bytes (refusal_reply r)

abbrev pub no_run : Reply → Plain
no_run r = record { number = r.number; place = r.place; answer = 0; executed = 0 }

-- "the answer", as collect would tell it, and "the number of instructions executed", in 32 bits
abbrev pub plain_fields : Result Ran Refusal → Plain
plain_fields (Ok x) =
    record {
      number = 0;
      place = 0;
      answer = pick x.yes (answer_number RanYes) (answer_number RanNo);
      executed = x.executed % 2 ^ 32;
    }
plain_fields (Err r) = no_run (refusal_reply r)

-- request 08: which book, and where the job record stands there, in 32 bits; a refused search tells 0 and 0, and of 18 which book
abbrev pub found_fields : Search → BookFound
found_fields (Ok f) =
    record { number = 0; place = 0; book = book_number f.book; offset = f.from % 2 ^ 32; length = f.length % 2 ^ 32 }
found_fields (Err n) =
    record {
      number = (refusal_reply n.refusal).number;
      place = (refusal_reply n.refusal).place;
      book = some_number n.book;
      offset = 0;
      length = 0;
    }

-- how many bytes were written, in 32 bits
abbrev pub added_fields : Result ℕ Refusal → Wrote
added_fields = wrote_fields
