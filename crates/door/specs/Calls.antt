-- What each of the nine calls tells and leaves, of any numbers that a caller lends: what the contracts of the C interface say, and what
-- the promises of a history of such calls (carried) are about. Last, the writer of a call's record,
-- the plain engine and the book's search and writer, which are lent no numbers of a state.
mod Names
use Names.*
use Rattle.cells.specs.Layout.{unpack}
use Rattle.engine.specs.Calls.{setup_of, begin_of, step_of, collect_of, drop_of, read_word_of, read_lock_of, show_of, shown_of, park_of, parked_of}
use Rattle.lent.specs.Calls.{collect_numbers, drop_numbers}
use Rattle.lent_step.specs.Points.{step_numbers}
use Rattle.lent_in.specs.Calls.{setup_numbers, begin_numbers}
use Rattle.calls.specs.Record.{recorded_of, recorded_in}
use Rattle.plain.specs.Plain.{plain_of, plain_left}
use Rattle.book.specs.Add.{add_of, add_left}
use Rattle.book.specs.Book.{find_of}
use Rattle.door.specs.Door.{unless_short, short_reply, told_fields, no_answer, collected_fields, no_word, word_fields, no_lock, lock_fields, no_bytes, wrote_fields, plain_fields, found_fields, added_fields}

abbrev pub setup_reply : List ℕ → List ℕ → Reply
setup_reply s rec = unless_short s short_reply (told_fields (setup_of rec).told)

abbrev pub setup_left : List ℕ → List ℕ → List ℕ
setup_left s rec = unless_short s s (setup_numbers s rec)

abbrev pub begin_reply : List ℕ → ℕ → ℕ → List ℕ → Reply
begin_reply s w l rec = unless_short s short_reply (told_fields (begin_of (unpack s) w l rec).told)

abbrev pub begin_left : List ℕ → ℕ → ℕ → List ℕ → List ℕ
begin_left s w l rec = unless_short s s (begin_numbers s w l rec)

abbrev pub step_reply : List ℕ → ℕ → Reply
step_reply s w = unless_short s short_reply (told_fields (step_of (unpack s) w).told)

abbrev pub step_left : List ℕ → ℕ → List ℕ
step_left s w = unless_short s s (step_numbers s w)

abbrev pub collect_reply : List ℕ → ℕ → Collected
collect_reply s w = unless_short s (no_answer short_reply) (collected_fields (collect_of (unpack s) w).told)

abbrev pub collect_left : List ℕ → ℕ → List ℕ
collect_left s w = unless_short s s (collect_numbers s w)

abbrev pub drop_reply : List ℕ → ℕ → Reply
drop_reply s w = unless_short s short_reply (told_fields (drop_of (unpack s) w).told)

abbrev pub drop_left : List ℕ → ℕ → List ℕ
drop_left s w = unless_short s s (drop_numbers s w)

-- the readers and the writers leave the numbers; the writers leave a buffer
abbrev pub word_reply : List ℕ → ℕ → WordRead
word_reply s i = unless_short s (no_word short_reply) (word_fields (read_word_of (unpack s) i))

abbrev pub lock_reply : List ℕ → ℕ → LockRead
lock_reply s l = unless_short s (no_lock short_reply) (lock_fields (read_lock_of (unpack s) l))

abbrev pub show_reply : List ℕ → ℕ → List ℕ → Wrote
show_reply s sheet buf = unless_short s (no_bytes short_reply) (wrote_fields (show_of (unpack s) sheet (length buf)))

abbrev pub show_buffer : List ℕ → ℕ → List ℕ → List ℕ
show_buffer s sheet buf = unless_short s buf (shown_of (unpack s) sheet buf)

abbrev pub park_reply : List ℕ → List ℕ → Wrote
park_reply s buf = unless_short s (no_bytes short_reply) (wrote_fields (park_of (unpack s) (length buf)))

abbrev pub park_buffer : List ℕ → List ℕ → List ℕ
park_buffer s buf = unless_short s buf (parked_of (unpack s) buf)

abbrev pub record_reply : ℕ → ℕ → ℕ → List ℕ → List ℕ → Wrote
record_reply call w l rec buf = wrote_fields (recorded_of call w l rec (length buf))

abbrev pub record_buffer : ℕ → ℕ → ℕ → List ℕ → List ℕ → List ℕ
record_buffer call w l rec buf = recorded_in call w l rec buf

abbrev pub plain_reply : List ℕ → List ℕ → ℕ → List ℕ → Plain
plain_reply values guards l rec = plain_fields (plain_of values guards l rec)

abbrev pub plain_values : List ℕ → List ℕ → ℕ → List ℕ → List ℕ
plain_values values guards l rec = plain_left values guards l rec

abbrev pub book_find_reply : List ℕ → List ℕ → ℕ → BookFound
book_find_reply line factory number = found_fields (find_of line factory number)

abbrev pub book_add_reply : List ℕ → ℕ → List ℕ → List ℕ → Wrote
book_add_reply book number rec buf = added_fields (add_of book number rec (length buf))

abbrev pub book_add_buffer : List ℕ → ℕ → List ℕ → List ℕ → List ℕ
book_add_buffer book number rec buf = add_left book number rec buf
