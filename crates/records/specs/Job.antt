-- "Kind 1, job. 4 bytes for each instruction (op, a, b, c); length 4 + 4n, n from 1 to 32." Request 04: "kind 1 keeps 1 to 32
-- instructions, a new kind 4 carries 33 to 64, length 4 + 4n."
mod Names
use Names.*
use Rattle.parts.specs.Numbers.{instructions, last_register}
use Rattle.parts.specs.Pick.{pick, ◌or◌, ◌isnt◌}
use Rattle.parts.specs.Told.{refuse_if, ◌then◌, first_of}
use Rattle.records.specs.Bytes.{kind_field, length_told, header}

-- a kind of job record, and from how many to how many instructions it carries
pub record Form : Type 0 where
  pub kind : ℕ
  pub fewest : ℕ
  pub most : ℕ

abbrev pub short : Form
short = record { kind = 1; fewest = 1; most = 32 }

abbrev pub long : Form
long = record { kind = 4; fewest = short.most + 1; most = instructions }

-- what a writer takes: ours, and the one of document 01, which knows kind 1 alone
abbrev pub forms : List Form
forms = short ∷ long ∷ []

abbrev pub old_forms : List Form
old_forms = short ∷ []

-- the kind "by the count"
abbrev pub kind_for : ℕ → ℕ
kind_for n = pick (ltb short.most n) long.kind short.kind

-- the instructions of a list of bytes, by fours
unfoldable pub instrs_of : List ℕ → List Instr
instrs_of [] = []
instrs_of (op ∷ []) = []
instrs_of (op ∷ a ∷ []) = []
instrs_of (op ∷ a ∷ b ∷ []) = []
instrs_of (op ∷ a ∷ b ∷ c ∷ rest) = record { op = op; a = a; b = b; c = c } ∷ instrs_of rest

-- the instruction of the first four bytes
abbrev pub first_instr : List ℕ → Instr
first_instr s = record { op = get_or s 0 0; a = get_or s 1 0; b = get_or s 2 0; c = get_or s 3 0 }

-- the four bytes of each instruction
unfoldable pub code_bytes : List Instr → List ℕ
code_bytes [] = []
code_bytes (i ∷ is) = i.op ∷ i.a ∷ i.b ∷ i.c ∷ code_bytes is

-- the job of a record, and the record of a job
abbrev pub job_of : List ℕ → List Instr
job_of rec = instrs_of (drop 4 rec)

abbrev pub job_record : List Instr → List ℕ
job_record is = header (4 + 4 * length is) (kind_for (length is)) (code_bytes is)

-- "Register fields are 0 to 3."
abbrev pub no_register : ℕ → Bool
no_register r = ltb last_register r

-- An instruction that `left` others follow is badly formed. "A skip at place i needs i + 1 + c at most n - 1": c is below what
-- follows. The fields that have no meaning are 0, "and 8 to 255 are bad".
unfoldable pub badly_formed : Instr → ℕ → Bool
badly_formed i left =
    pick (eqb i.op 0) (ltb 1 i.a or ltb 0 i.b or ltb 0 i.c)
    (pick (eqb i.op 1) (no_register i.a)
    (pick (eqb i.op 2) (no_register i.a or ltb 0 i.c)
    (pick (eqb i.op 3) (no_register i.a or ltb 0 i.c)
    (pick (eqb i.op 4) (no_register i.a or no_register i.b)
    (pick (eqb i.op 5) (no_register i.a or no_register i.b or ltb 0 i.c)
    (pick (eqb i.op 6) (no_register i.a or no_register i.b or ltb 0 i.c)
    (pick (eqb i.op 7) (no_register i.a or no_register i.b or ltb i.c 1 or leb left i.c)
    true)))))))

-- "The last instruction is a halt."
abbrev pub ends_otherwise : Instr → ℕ → Bool
ends_otherwise i left = pick (eqb left 0) (ltb 0 i.op) false

-- word w is guarded by another lock, or is no word; `guards` has the guard of each word
abbrev pub strays : ℕ → ℕ → List ℕ → Bool
strays w lock guards = leb (length guards) w or get_or guards w 0 isnt lock

-- "a load, store or cam names a word this lock doesn't guard, or no word"
unfoldable pub strays_at : Instr → ℕ → List ℕ → Bool
strays_at i lock guards =
    pick (eqb i.op 2) (strays i.b lock guards)
    (pick (eqb i.op 3) (strays i.b lock guards)
    (pick (eqb i.op 4) (strays i.c lock guards)
    false))

-- "7 before 8 there"
unfoldable pub instr_told : Instr → ℕ → ℕ → ℕ → List ℕ → Told
instr_told i place left lock guards =
    first_of
    (refuse_if (badly_formed i left or ends_otherwise i left) (Instruction place) ∷
    refuse_if (strays_at i lock guards) (Guard place) ∷
    [])

-- "then the lowest faulty instruction": of those from `place` on
unfoldable pub code_told : List Instr → ℕ → ℕ → List ℕ → Told
code_told [] place lock guards = Ok tt
code_told (i ∷ is) place lock guards =
    instr_told i place (length is) lock guards then code_told is (place + 1) lock guards

-- no 4 + 4n with n from `fewest` to `most`
abbrev pub no_job_length : ℕ → ℕ → ℕ → Bool
no_job_length fewest most bytes = (bytes % 4) isnt 0 or ltb bytes (4 + 4 * fewest) or ltb (4 + 4 * most) bytes

-- "6 for a kind neither 1 nor 4": of the kinds that a writer takes
abbrev pub no_job_kind : List Form → ℕ → Bool
no_job_kind [] kind = true
no_job_kind (f ∷ fs) kind = pick (eqb kind f.kind) false (no_job_kind fs kind)

-- "not 4 + 4n", or "a count outside the kind's own range"; of another kind nothing, since 6 comes before
abbrev pub outside_kind : List Form → ℕ → ℕ → Bool
outside_kind [] kind bytes = false
outside_kind (f ∷ fs) kind bytes = pick (eqb kind f.kind) (no_job_length f.fewest f.most bytes) (outside_kind fs kind bytes)

-- "5 (fewer than 4 bytes, or length field other than the slice's length), 6, 5 (not 4 + 4n)": is it a job record at all?
abbrev pub form_order : List Form → List ℕ → List Told
form_order takes rec =
    length_told rec ∷
    refuse_if (no_job_kind takes (kind_field rec)) Kind ∷
    refuse_if (outside_kind takes (kind_field rec) (length rec)) Length ∷
    []

-- "then the lowest faulty instruction": what a writer tells that takes these forms
unfoldable pub told_by : List Form → List ℕ → ℕ → List ℕ → Told
told_by takes rec lock guards = first_of (form_order takes rec ++ (code_told (job_of rec) 0 lock guards ∷ []))

-- and ours
abbrev pub job_told : List ℕ → ℕ → List ℕ → Told
job_told rec lock guards = told_by forms rec lock guards
