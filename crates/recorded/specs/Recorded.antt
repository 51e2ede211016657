-- Request 01: "Prove that state and answers equal those of the calls made directly, for any cut at a record's edge after the setup."
mod Names
use Names.*
use Rattle.parts.specs.Pick.{pick}
use Rattle.parts.specs.Told.{on_told, first_of, refusal_number}
use Rattle.records.specs.Bytes.{AllBytes, length_field}
use Rattle.records.specs.Job.{forms, form_order}
use Rattle.engine.specs.Calls.{setup_of, begin_of}
use Rattle.past.specs.Past.{Call, Begin, Step, Collect, Drop, ReadWord, ReadLock, Show, Park, after, after_all, AllRecords}
use Rattle.calls.specs.Record.{record_told, call_in, capped_of, call_with, call_record, recorded_of, recorded_in}
use Rattle.files.specs.File.{call_line, walk_from, walked_from, line_text, lines_text, most_file, printed_of, replayed_state}

-- Which calls have a record: a begin whose bytes are a job record by 5 and 6, a step, a collect, a drop.
unfoldable pub is_written : Call → Bool
is_written (Begin w l rec) = on_told (first_of (form_order forms rec)) true (λ r. false)
is_written (Step w) = true
is_written (Collect w) = true
is_written (Drop w) = true
is_written (ReadWord i) = false
is_written (ReadLock l) = false
is_written (Show s room) = false
is_written (Park room) = false

-- the records of a list of calls, one after the other; and the file that begins with this setup record
unfoldable pub records_of : List Call → List ℕ
records_of [] = []
records_of (c ∷ cs) = pick (is_written c) (call_record c) [] ++ records_of cs

abbrev pub file_of : List ℕ → List Call → List ℕ
file_of setup cs = setup ++ records_of cs

-- what the calls tell that are made directly, one after the other, from state e: those that have a record
unfoldable pub lines_along : Engine → List Call → List Line
lines_along e [] = []
lines_along e (c ∷ cs) = pick (is_written c) (call_line e c ∷ []) [] ++ lines_along (after e c) cs

-- a call as its record has it: a worker or lock above 255 is written as 255
unfoldable pub in_bytes : Call → Call
in_bytes (Begin w l rec) = Begin (capped_of w) (capped_of l) rec
in_bytes (Step w) = Step (capped_of w)
in_bytes (Collect w) = Collect (capped_of w)
in_bytes (Drop w) = Drop (capped_of w)
in_bytes (ReadWord i) = ReadWord i
in_bytes (ReadLock l) = ReadLock l
in_bytes (Show s room) = Show s room
in_bytes (Park room) = Park room

-- Call records have one encoding.
pub record OneEncoding : Type 0 where
  -- reading what was written, whatever follows it, gives the call back
  pub back :
      (c : Call) (rest : List ℕ) → AllRecords (c ∷ []) → is_written c ≡ true →
      (record_told (call_record c ++ rest) ≡ Ok tt) ×
      (length_field (call_record c ++ rest) ≡ length (call_record c)) ×
      (call_in (call_record c ++ rest) ≡ in_bytes c)
  -- an accepted record is the record of the call that it makes
  pub whole :
      (s : List ℕ) → AllBytes s → record_told s ≡ Ok tt →
      (is_written (call_in s) ≡ true) × (take (length_field s) s ≡ call_record (call_in s))
  -- so two accepted records that make one call are the same bytes
  pub one :
      (s t : List ℕ) → AllBytes s → AllBytes t → record_told s ≡ Ok tt → record_told t ≡ Ok tt → call_in s ≡ call_in t →
      take (length_field s) s ≡ take (length_field t) t

-- What the writer of records does to a lent buffer.
pub record RecordWriter : Type 0 where
  -- where it is refused, it alters not one byte of the buffer
  pub kept :
      (call w l : ℕ) (rec buf : List ℕ) (r : Refusal) → recorded_of call w l rec (length buf) ≡ Err r →
      recorded_in call w l rec buf ≡ buf
  -- where not, it tells how long the record is; that is at the front, and the bytes after it are as they were
  pub wrote :
      (call w l : ℕ) (rec buf : List ℕ) (n : ℕ) → recorded_of call w l rec (length buf) ≡ Ok n →
      (n ≡ length (call_record (call_with call w l rec))) ×
      (recorded_in call w l rec buf ≡ call_record (call_with call w l rec) ++ drop n buf)

-- What a record does not have changes nothing.
pub record NothingLost : Type 0 where
  -- a call with 255 in place of a greater number tells the same, and leaves the same state
  pub told : (e : Engine) (c : Call) → call_line e (in_bytes c) ≡ call_line e c
  pub left : (e : Engine) (c : Call) → after e (in_bytes c) ≡ after e c
  -- a begin that has no record is refused and changes nothing
  pub unwritten :
      (e : Engine) (w l : ℕ) (rec : List ℕ) → is_written (Begin w l rec) ≡ false →
      ((r : Refusal) × ((begin_of e w l rec).told ≡ Err r)) × ((begin_of e w l rec).engine ≡ e)

-- a file that is short enough to be read, of a setup record that setup accepts and the records of some calls
pub record IsFile (setup : List ℕ) (cs : List Call) : Type 0 where
  pub accepted : (setup_of setup).told ≡ Ok tt
  pub bytes : AllRecords cs
  pub most : length (file_of setup cs) ≤ most_file

-- bytes that are the records of some calls, and what is left: nothing, or a record that is refused
pub record Split (s : List ℕ) : Type 0 where
  pub calls : List Call
  pub rest : List ℕ
  pub bytes : AllRecords calls
  pub is : s ≡ records_of calls ++ rest
  pub ends : 0 < length rest → (r : Refusal) × (record_told rest ≡ Err r)

pub record Replays : Type 0 where
  -- a file cut at a record's edge after the setup is the file of the calls before the edge
  pub cut :
      (setup : List ℕ) (cs more : List Call) → IsFile setup (cs ++ more) →
      (take (length (file_of setup cs)) (file_of setup (cs ++ more)) ≡ file_of setup cs) × IsFile setup cs
  -- a file leaves the state of the calls made directly, tells what those of them tell that have a record, and that is printed
  pub state :
      (setup : List ℕ) (cs : List Call) → IsFile setup cs →
      replayed_state (file_of setup cs) ≡ after_all (setup_of setup).engine cs
  pub answers :
      (setup : List ℕ) (cs : List Call) → IsFile setup cs →
      (walked_from (file_of setup cs) (length_field (file_of setup cs))).lines ≡ lines_along (setup_of setup).engine cs
  pub printed :
      (setup : List ℕ) (cs : List Call) → IsFile setup cs →
      printed_of (file_of setup cs) ≡ lines_text 0 (lines_along (setup_of setup).engine cs)
  -- whatever follows does not change what was told before it
  pub follows :
      (setup : List ℕ) (cs : List Call) (rest : List ℕ) → IsFile setup cs → length (file_of setup cs ++ rest) ≤ most_file →
      printed_of (file_of setup cs ++ rest) ≡
      printed_of (file_of setup cs) ++
      lines_text (length (lines_along (setup_of setup).engine cs)) (walk_from 0 (after_all (setup_of setup).engine cs) rest).lines
  -- "Each ends the walk after its line, ending 0 0": a record that is refused has one more line, and no call after it is made
  pub ends :
      (setup : List ℕ) (cs : List Call) (rest : List ℕ) (r : Refusal) → IsFile setup cs →
      length (file_of setup cs ++ rest) ≤ most_file → 0 < length rest → record_told rest ≡ Err r →
      (printed_of (file_of setup cs ++ rest) ≡
      printed_of (file_of setup cs) ++
      line_text (length (lines_along (setup_of setup).engine cs)) (Number (refusal_number r))) ×
      (replayed_state (file_of setup cs ++ rest) ≡ after_all (setup_of setup).engine cs)
  -- and every string of bytes is the records of some calls, up to its end or to a record that is refused
  pub every : (s : List ℕ) → AllBytes s → Split s
