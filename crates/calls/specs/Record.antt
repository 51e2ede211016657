-- Request 01: "a call record, kind 3, bytes call (0 begin, 1 step, 2 collect, 3 drop), worker, lock, a zero, and for begin the job's 1
-- to 32 instructions." Request 04: "Call records of 33 to 64 instructions begin a kind 4 job."
mod Names
use Names.*
use Rattle.parts.specs.Pick.{pick, ◌or◌, ◌isnt◌}
use Rattle.parts.specs.Told.{refuse_if, first_of}
use Rattle.records.specs.Bytes.{length_field, kind_field, header}
use Rattle.records.specs.Job.{short, long, forms, kind_for, no_job_length, form_order}
use Rattle.engine.specs.Calls.{write_of, buffer_of}
use Rattle.past.specs.Past.{Call, Begin, Step, Collect, Drop, ReadWord, ReadLock, Show, Park}

abbrev pub call_kind : ℕ
call_kind = 3

-- "0 begin, 1 step, 2 collect, 3 drop"
abbrev pub last_call : ℕ
last_call = 3

-- the bytes of the record at the front of s
abbrev pub call_field : List ℕ → ℕ
call_field s = get_or s 4 0

abbrev pub worker_field : List ℕ → ℕ
worker_field s = get_or s 5 0

abbrev pub lock_field : List ℕ → ℕ
lock_field s = get_or s 6 0

abbrev pub last_field : List ℕ → ℕ
last_field s = get_or s 7 0

-- "5 for a record cut short or a length field below 4"
abbrev pub cut_short : List ℕ → Bool
cut_short s = ltb (length s) 2 or ltb (length_field s) 4 or ltb (length s) (length_field s)

-- "a length not 8 (begin: 8 + 4n)", which is 4 more than its job record's
abbrev pub no_call_length : ℕ → ℕ → Bool
no_call_length call n = pick (eqb call 0) (no_job_length short.fewest long.most (n - 4)) (n isnt 8)

-- "unused lock not 0": only begin names a lock
abbrev pub lock_unused : ℕ → ℕ → Bool
lock_unused call lock = pick (eqb call 0) false (ltb 0 lock)

-- "17 for a call above 3, a last head byte or unused lock not 0, or a length not 8 (begin: 8 + 4n)": of these bytes and a length n
unfoldable pub bad_head : ℕ → ℕ → ℕ → ℕ → Bool
bad_head call lock last n = ltb last_call call or ltb 0 last or lock_unused call lock or no_call_length call n

-- a record of fewer than 8 does not have all of these bytes
abbrev pub no_call : List ℕ → Bool
no_call s = ltb (length_field s) 8 or bad_head (call_field s) (lock_field s) (last_field s) (length_field s)

-- 5, "then 6; then 17": of the record at the front of s
abbrev pub record_order : List ℕ → List Told
record_order s = refuse_if (cut_short s) Length ∷ refuse_if (kind_field s isnt call_kind) Kind ∷ refuse_if (no_call s) CallRecord ∷ []

unfoldable pub record_told : List ℕ → Told
record_told s = first_of (record_order s)

-- the call of a number, with its worker, its lock and its job record
unfoldable pub call_with : ℕ → ℕ → ℕ → List ℕ → Call
call_with call w l rec =
    pick (eqb call 0) (Begin w l rec) (pick (eqb call 1) (Step w) (pick (eqb call 2) (Collect w) (Drop w)))

-- a begin's instructions become the job record: its length, and its kind by their number, in front
unfoldable pub job_in : List ℕ → List ℕ
job_in s = header (length_field s - 4) (kind_for ((length_field s - 8) / 4)) (take (length_field s - 8) (drop 8 s))

-- the call that an accepted record makes
abbrev pub call_in : List ℕ → Call
call_in s = call_with (call_field s) (worker_field s) (lock_field s) (job_in s)

-- a worker or lock above 255 is written as 255: there is none of that number either
abbrev pub capped_of : ℕ → ℕ
capped_of n = min n 255

unfoldable pub record_with : ℕ → ℕ → ℕ → List ℕ → List ℕ
record_with call w l code = header (8 + length code) call_kind (call ∷ capped_of w ∷ capped_of l ∷ 0 ∷ code)

-- the record of a call; those that read or write leave none
unfoldable pub call_record : Call → List ℕ
call_record (Begin w l rec) = record_with 0 w l (drop 4 rec)
call_record (Step w) = record_with 1 w 0 []
call_record (Collect w) = record_with 2 w 0 []
call_record (Drop w) = record_with 3 w 0 []
call_record (ReadWord i) = []
call_record (ReadLock l) = []
call_record (Show s room) = []
call_record (Park room) = []

-- how long it is: "8 (begin: 8 + 4n)", 4 more than its job record
abbrev pub record_length : ℕ → List ℕ → ℕ
record_length call rec = pick (eqb call 0) (4 + length rec) 8

-- The writer's order: 17 for a call above 3; for a begin whose bytes are no job record their 5 or 6; 13, "lent buffer shorter than
-- the record"
abbrev pub write_order : ℕ → List ℕ → ℕ → List Told
write_order call rec room =
    refuse_if (ltb last_call call) CallRecord ∷
    pick (eqb call 0) (first_of (form_order forms rec)) (Ok tt) ∷
    refuse_if (ltb room (record_length call rec)) Buffer ∷
    []

unfoldable pub write_told : ℕ → List ℕ → ℕ → Told
write_told call rec room = first_of (write_order call rec room)

-- what it tells, and the buffer after it
unfoldable pub recorded_of : ℕ → ℕ → ℕ → List ℕ → ℕ → Result ℕ Refusal
recorded_of call w l rec room = write_of (write_told call rec room) (call_record (call_with call w l rec))

unfoldable pub recorded_in : ℕ → ℕ → ℕ → List ℕ → List ℕ → List ℕ
recorded_in call w l rec buf = buffer_of (write_told call rec (length buf)) (call_record (call_with call w l rec)) buf
