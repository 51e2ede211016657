-- Request 01's example, a file that meets the premises of what is promised of files, and request 04's call records.
mod Names
use Names.*
use Rattle.past.specs.Past.{Call, Begin, Step, Collect, steps}
use Rattle.records.specs.Bytes.{header}
use Rattle.calls.specs.Record.{call_kind, record_told, call_in, call_record}
use Rattle.files.specs.File.{refused_line, accepted_line, lines_text, printed_of}
use Rattle.tables.specs.Table.{setup_s, job_a, fresh}
use Rattle.recorded.specs.Recorded.{lines_along, IsFile}

-- a collect of an idle worker; A, stepped alone and collected; a begin that has no record; a worker that has no byte
unfoldable pub sample_calls : List Call
sample_calls = Collect 0 ∷ Begin 0 0 job_a ∷ steps 14 0 ++ (Collect 0 ∷ Begin 0 0 [] ∷ Step 300 ∷ [])

abbrev pub sample_lines : List Line
sample_lines =
    refused_line WorkerIdle ∷
    accepted_line ∷
    replicate 14 accepted_line ++
    (Answer 1 14 2 ∷
    refused_line NoWorker ∷
    [])

-- the record of n halts is accepted; it makes the begin of a job record of this kind, and is written of it
abbrev pub CallsFor : ℕ → ℕ → Type 0
CallsFor n kind =
    let s = header (8 + 4 * n) call_kind (replicate (4 + 4 * n) 0) in
    let begin = Begin 0 0 (header (4 + 4 * n) kind (replicate (4 * n) 0)) in
    (record_told s ≡ Ok tt) × (call_in s ≡ begin) × (call_record begin ≡ s)

pub record Shown : Type 0 where
  -- "S of 01 followed by `08 00 03 00 02 00 00 00` prints `0 11 0 0`."
  pub request :
      printed_of (setup_s ++ (0x08 ∷ 0x00 ∷ 0x03 ∷ 0x00 ∷ 0x02 ∷ 0x00 ∷ 0x00 ∷ 0x00 ∷ [])) ≡
      48 ∷ 32 ∷ 49 ∷ 49 ∷ 32 ∷ 48 ∷ 32 ∷ 48 ∷ 10 ∷ []
  -- a setup that is cut short, one of another kind, and one without locks: `5`, `6`, `12`, alone on a line
  pub cut_setup : printed_of (take 28 setup_s) ≡ 53 ∷ 10 ∷ []
  pub other_kind : printed_of (0x1D ∷ 0x00 ∷ 0x01 ∷ drop 3 setup_s) ≡ 54 ∷ 10 ∷ []
  pub no_locks : printed_of (0x1D ∷ 0x00 ∷ 0x02 ∷ 0x00 ∷ 0x00 ∷ drop 5 setup_s) ≡ 49 ∷ 50 ∷ 10 ∷ []
  pub file : IsFile setup_s sample_calls
  pub lines : lines_along fresh sample_calls ≡ sample_lines
  -- `16 0 1 14 2`: the line of its second collect
  pub text :
      lines_text 16 (Answer 1 14 2 ∷ []) ≡
      49 ∷ 54 ∷ 32 ∷ 48 ∷ 32 ∷ 49 ∷ 32 ∷ 49 ∷ 52 ∷ 32 ∷ 50 ∷ 10 ∷ []
  -- 5 of a record that is cut short, also where its kind is another; then 6, also where it makes no call; then 17, of a begin
  -- without instructions and of one with 65
  pub five : record_told (0x09 ∷ 0x00 ∷ 0x04 ∷ 0x00 ∷ 0x01 ∷ 0x00 ∷ 0x00 ∷ 0x00 ∷ []) ≡ Err Length
  pub six : record_told (0x07 ∷ 0x00 ∷ 0x03 ∷ 0x01 ∷ 0x09 ∷ 0x00 ∷ 0x00 ∷ []) ≡ Err Kind
  pub none : record_told (0x08 ∷ 0x00 ∷ 0x03 ∷ 0x00 ∷ 0x00 ∷ 0x00 ∷ 0x00 ∷ 0x00 ∷ []) ≡ Err CallRecord
  pub many : record_told (0x0C ∷ 0x01 ∷ 0x03 ∷ 0x00 ∷ replicate 264 0) ≡ Err CallRecord
  -- request 04: "Call records of 33 to 64 instructions begin a kind 4 job", and those of 1 to 32 one of kind 1
  pub kinds : CallsFor 1 1 × CallsFor 32 1 × CallsFor 33 4 × CallsFor 64 4
