-- Document 01's example table: setup S, jobs A and B as bytes, and what each starred row and row k say of the real calls; and request
-- 04's longest tries.
mod Names
use Names.*
use Rattle.parts.specs.Numbers.{instructions, longest_run, help_steps, try_steps}
use Rattle.parts.specs.Told.{answer_number}
use Rattle.records.specs.Bytes.{header}
use Rattle.records.specs.Job.{code_bytes, old_forms, told_by}
use Rattle.engine.specs.Calls.{setup_of, begin_of, collect_of, read_word_of, read_lock_of}
use Rattle.past.specs.Past.{Call, Begin, Step, Drop, after_all, steps}
use Rattle.refusals.specs.Orders.{Refusing}

-- "Setup S is `1D 00 02 00 02 03 00 00 01`, values 5, 9, 7, turns 0, 0."
unfoldable pub setup_s : List ℕ
setup_s =
    0x1D ∷ 0x00 ∷ 0x02 ∷ 0x00 ∷ 0x02 ∷ 0x03 ∷ 0x00 ∷ 0x00 ∷ 0x01 ∷
    0x05 ∷ 0x00 ∷ 0x00 ∷ 0x00 ∷ 0x09 ∷ 0x00 ∷ 0x00 ∷ 0x00 ∷ 0x07 ∷ 0x00 ∷ 0x00 ∷ 0x00 ∷
    0x00 ∷ 0x00 ∷ 0x00 ∷ 0x00 ∷ 0x00 ∷ 0x00 ∷ 0x00 ∷ 0x00 ∷ []

-- "Job A, `18 00 01 00 02 00 00 00 01 01 01 00 05 00 01 00 03 00 00 00 00 01 00 00`, adds 1 to word 0."
unfoldable pub job_a : List ℕ
job_a =
    0x18 ∷ 0x00 ∷ 0x01 ∷ 0x00 ∷ 0x02 ∷ 0x00 ∷ 0x00 ∷ 0x00 ∷ 0x01 ∷ 0x01 ∷ 0x01 ∷ 0x00 ∷
    0x05 ∷ 0x00 ∷ 0x01 ∷ 0x00 ∷ 0x03 ∷ 0x00 ∷ 0x00 ∷ 0x00 ∷ 0x00 ∷ 0x01 ∷ 0x00 ∷ 0x00 ∷ []

-- "Job B loads words 0 and 1, skips one if equal, halts no, halts yes."; and with a skip over n
unfoldable pub job_skipping : ℕ → List ℕ
job_skipping n =
    0x18 ∷ 0x00 ∷ 0x01 ∷ 0x00 ∷ 0x02 ∷ 0x00 ∷ 0x00 ∷ 0x00 ∷ 0x02 ∷ 0x01 ∷ 0x01 ∷ 0x00 ∷
    0x07 ∷ 0x00 ∷ 0x01 ∷ n ∷ 0x00 ∷ 0x00 ∷ 0x00 ∷ 0x00 ∷ 0x00 ∷ 0x01 ∷ 0x00 ∷ 0x00 ∷ []

abbrev pub job_b : List ℕ
job_b = job_skipping 1

-- the fresh state of S, and the state after calls on it
unfoldable pub fresh : Engine
fresh = (setup_of setup_s).engine

abbrev pub on : List Call → Engine
on calls = after_all fresh calls

-- collect tells the answer of this number, so many accepted steps and, by request 02, so many entries filled
abbrev pub Answers : Result Answered Refusal → ℕ → ℕ → ℕ → Type 0
Answers (Ok x) number steps filled = (answer_number x.answer ≡ number) × (x.steps ≡ steps) × (x.filled ≡ filled)
Answers (Err r) number steps filled = ⊥

-- collect is refused, because the worker is under way
abbrev pub StillUnderWay : Result Answered Refusal → Type 0
StillUnderWay told = told ≡ Err WorkerUnderWay

-- collect is refused, because the worker is idle
abbrev pub NowIdle : Result Answered Refusal → Type 0
NowIdle told = told ≡ Err WorkerIdle

-- word 0 has this value and count, and lock 0 this turn and holder
pub record Stands (e : Engine) (value count turn : ℕ) (holder : Option ℕ) : Type 0 where
  pub word : read_word_of e 0 ≡ Ok (record { value = value; count = count; guard = 0 })
  pub lock : read_lock_of e 0 ≡ Ok (record { turn = turn; holder = holder })

-- "Collected answers: 1 ran, yes. 2 ran, no. 3 not taken"
abbrev pub ran_yes : ℕ
ran_yes = 1

abbrev pub ran_no : ℕ
ran_no = 2

abbrev pub not_taken : ℕ
not_taken = 3

-- how a worker's try ends: after this many steps more, with the answer of this number, all its steps since begin, the entries that it
-- filled; the value and count of word 0 then, and the turn of lock 0, which is free
pub record End : Type 0 where
  pub more : ℕ
  pub answer : ℕ
  pub steps : ℕ
  pub filled : ℕ
  pub value : ℕ
  pub count : ℕ
  pub turn : ℕ

-- so it ends for worker w stepped alone after these calls on S, and one step earlier it is still under way
pub record Ends (calls : List Call) (w : ℕ) (end : End) : Type 0 where
  pub before : StillUnderWay (collect_of (on (calls ++ steps (end.more - 1) w)) w).told
  pub told : Answers (collect_of (on (calls ++ steps end.more w)) w).told end.answer end.steps end.filled
  pub left : Stands (on (calls ++ steps end.more w)) end.value end.count end.turn None

-- the calls of the rows, up to the steps of the worker that a row is about
unfoldable pub calls_c : List Call
calls_c = Begin 0 0 job_a ∷ steps 10 0 ++ (Drop 0 ∷ [])

unfoldable pub calls_d : List Call
calls_d = calls_c ++ (Begin 1 0 job_b ∷ [])

unfoldable pub calls_e : List Call
calls_e = Begin 0 0 job_a ∷ steps 10 0 ++ (Begin 1 0 job_b ∷ [])

unfoldable pub calls_g : List Call
calls_g = Begin 0 0 job_a ∷ Begin 1 0 job_b ∷ Step 0 ∷ Step 1 ∷ Step 0 ∷ []

unfoldable pub calls_h : List Call
calls_h = Begin 0 0 job_a ∷ steps 2 0 ++ (Begin 1 0 job_b ∷ [])

-- a job record of this kind with n halts; begin on S takes it, or refuses it with 5
abbrev pub halts : ℕ → ℕ → List ℕ
halts kind n = header (4 + 4 * n) kind (replicate (4 * n) 0)

abbrev pub Taken : ℕ → ℕ → Type 0
Taken kind n = (begin_of fresh 0 0 (halts kind n)).told ≡ Ok tt

abbrev pub Refused5 : ℕ → ℕ → Type 0
Refused5 kind n = Refusing fresh (begin_of fresh 0 0 (halts kind n)) 5 0

-- 63 stores to word 0, and a halt
unfoldable pub job_long : List ℕ
job_long = header 260 4 (code_bytes (replicate 63 (record { op = 3; a = 0; b = 0; c = 0 }) ++ (record { op = 0; a = 0; b = 0; c = 0 } ∷ [])))

unfoldable pub calls_long : List Call
calls_long = Begin 0 0 job_long ∷ steps 98 0 ++ (Drop 0 ∷ Begin 1 0 job_b ∷ [])

-- the starred rows and those of request 04, each under its two columns; and setup S is accepted. In c and f the drop leaves worker 0
-- idle; in e and h worker 1's end comes first.
pub record Table : Type 0 where
  pub s : (setup_of setup_s).told ≡ Ok tt
  -- "A stepped alone": "14 steps, ran yes, word 0 = 6, count 1, turn 1"
  pub a : Ends (Begin 0 0 job_a ∷ []) 0 (record { more = 14; answer = ran_yes; steps = 14; filled = 2; value = 6; count = 1; turn = 1 })
  -- "B alone": "12 steps, ran no"
  pub b : Ends (Begin 0 0 job_b ∷ []) 0 (record { more = 12; answer = ran_no; steps = 12; filled = 2; value = 5; count = 0; turn = 1 })
  -- "worker 0: A, 10 steps, drop": "word 0 = 5, held"
  pub c : Stands (on calls_c) 5 0 1 (Some 0) × NowIdle (collect_of (on calls_c) 0).told
  -- "then worker 1: B alone": "11 steps, not taken, word 0 = 6, free"
  pub d : Ends calls_d 1 (record { more = 11; answer = not_taken; steps = 11; filled = 0; value = 6; count = 1; turn = 1 })
  -- "as c, d without the drop, then worker 0 stepped to its end": "14 steps, ran yes, count 1"
  pub e :
      Ends calls_e 1 (record { more = 11; answer = not_taken; steps = 11; filled = 0; value = 6; count = 1; turn = 1 }) ×
      Ends (calls_e ++ steps 11 1) 0 (record { more = 4; answer = ran_yes; steps = 14; filled = 2; value = 6; count = 1; turn = 1 })
  -- "A, 1 step, drop": "free, turn 0"
  pub f :
      StillUnderWay (collect_of (on (Begin 0 0 job_a ∷ Step 0 ∷ [])) 0).told ×
      Stands (on (Begin 0 0 job_a ∷ Step 0 ∷ Drop 0 ∷ [])) 5 0 0 None ×
      NowIdle (collect_of (on (Begin 0 0 job_a ∷ Step 0 ∷ Drop 0 ∷ [])) 0).told
  -- "0 has A, 1 has B, both Look free, 0 grabs, then 1 alone": "worker 1: 14 steps, not taken, word 0 = 6"
  pub g : Ends calls_g 1 (record { more = 13; answer = not_taken; steps = 14; filled = 2; value = 6; count = 1; turn = 1 })
  -- "0 takes 2 steps of A, 1 with B helps to the end, 0 goes on": "ran yes, count 1"
  pub h :
      Ends calls_h 1 (record { more = 11; answer = not_taken; steps = 11; filled = 2; value = 6; count = 1; turn = 1 }) ×
      Ends (calls_h ++ steps 11 1) 0 (record { more = 12; answer = ran_yes; steps = 14; filled = 0; value = 6; count = 1; turn = 1 })
  -- "B with skip 2": "refused 7, place 2"
  pub i : Refusing fresh (begin_of fresh 0 0 (job_skipping 2)) 7 2
  -- "A on lock 1": "refused 8, place 0"
  pub j : Refusing fresh (begin_of fresh 0 1 job_a) 8 0
  -- "32 instructions (132 bytes); 33; none": "accepted; 5; 5"; request 04: kind 1 keeps 1 to 32, kind 4 carries 33 to 64. 6 comes before
  -- 5 for the count, and after 5 for the length field. The old writer takes the first of them and refuses the other.
  pub k :
      Refused5 1 0 × Taken 1 1 × Taken 1 32 × Refused5 1 33 × Refused5 1 64 × Refused5 1 65 ×
      Refused5 4 0 × Refused5 4 1 × Refused5 4 32 × Taken 4 33 × Taken 4 64 × Refused5 4 65 ×
      Refusing fresh (begin_of fresh 0 0 (halts 2 65)) 6 0 ×
      Refusing fresh (begin_of fresh 0 0 (0x8C ∷ drop 1 (halts 4 33))) 5 0 ×
      (told_by old_forms (halts 1 32) 0 [] ≡ Ok tt) × (told_by old_forms (halts 4 33) 0 [] ≡ Err Kind)
  -- "The longest run becomes 63 × 3 + 1 = 190, a helping try 193, any try 196"; the two are reached, by 63 stores alone, and by those cut
  -- off in the middle and helped to the end
  pub bounds : (longest_run instructions ≡ 190) × (help_steps instructions ≡ 193) × (try_steps instructions ≡ 196)
  pub longest_try : Ends (Begin 0 0 job_long ∷ []) 0 (record { more = 196; answer = ran_no; steps = 196; filled = 63; value = 0; count = 63; turn = 1 })
  pub longest_help : Ends calls_long 1 (record { more = 193; answer = not_taken; steps = 193; filled = 32; value = 0; count = 63; turn = 1 })
