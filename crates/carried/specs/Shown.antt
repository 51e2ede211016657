-- Document 01's example table on lent numbers: from 12,868 zeros, a lent setup of S and lent calls, as C sees them. So the calls that the
-- promises of `Carried` are about are accepted, refused and run to their end as those by value are.
use Rattle.std.specs.Prelude.{ℕ, ◌-◌, ◌≡◌, List, [], ◌∷◌, ◌++◌, replicate}
use Rattle.cells.specs.Layout.{numbers}
use Rattle.door.specs.Calls.{setup_reply, setup_left, begin_reply, collect_reply, word_reply, lock_reply}
use Rattle.door.specs.declared.Collected.{Collected}
use Rattle.past.specs.Past.{Call, Begin, Step, Drop, steps}
use Rattle.tables.specs.Table.{setup_s, job_a, job_b, job_skipping, ran_yes, ran_no, not_taken, End, calls_c, calls_d, calls_e, calls_g, calls_h}
use Rattle.carried.specs.Carried.{lent_all}

-- the numbers that the caller lends, and those after a lent setup of S and these lent calls
unfoldable pub zeros : List ℕ
zeros = replicate numbers 0

abbrev pub lent_on : List Call → List ℕ
lent_on calls = lent_all (setup_left zeros setup_s) calls

-- collect is refused: 3, the worker is under way; 11, it is idle
abbrev pub refused_by : ℕ → Collected
refused_by number = record { number = number; place = 0; answer = 0; steps = 0; filled = 0 }

-- word 0 has this value and count; lock 0 has this turn, and is held (1) by this sheet, or is free (0)
pub record LentStands (s : List ℕ) (value count turn held sheet : ℕ) : Type 0 where
  pub word : word_reply s 0 ≡ record { number = 0; place = 0; value = value; count = count; guard = 0 }
  pub lock : lock_reply s 0 ≡ record { number = 0; place = 0; turn = turn; held = held; sheet = sheet }

-- so a try ends for worker w stepped alone after these calls, and one step earlier it is still under way
pub record LentEnds (calls : List Call) (w : ℕ) (end : End) : Type 0 where
  pub before : collect_reply (lent_on (calls ++ steps (end.more - 1) w)) w ≡ refused_by 3
  pub told :
      collect_reply (lent_on (calls ++ steps end.more w)) w ≡
      record { number = 0; place = 0; answer = end.answer; steps = end.steps; filled = end.filled }
  pub left : LentStands (lent_on (calls ++ steps end.more w)) end.value end.count end.turn 0 0

-- the starred rows, as in `Table` of tables; and setup S and the begins are accepted
pub record LentTable : Type 0 where
  pub s : setup_reply zeros setup_s ≡ record { number = 0; place = 0 }
  pub begun : begin_reply (lent_on []) 0 0 job_a ≡ record { number = 0; place = 0 }
  -- "A stepped alone": "14 steps, ran yes, word 0 = 6, count 1, turn 1"
  pub a : LentEnds (Begin 0 0 job_a ∷ []) 0 (record { more = 14; answer = ran_yes; steps = 14; filled = 2; value = 6; count = 1; turn = 1 })
  -- "B alone": "12 steps, ran no"
  pub b : LentEnds (Begin 0 0 job_b ∷ []) 0 (record { more = 12; answer = ran_no; steps = 12; filled = 2; value = 5; count = 0; turn = 1 })
  -- "worker 0: A, 10 steps, drop": "word 0 = 5, held"
  pub c : LentStands (lent_on calls_c) 5 0 1 1 0 × (collect_reply (lent_on calls_c) 0 ≡ refused_by 11)
  -- "then worker 1: B alone": "11 steps, not taken, word 0 = 6, free"
  pub d : LentEnds calls_d 1 (record { more = 11; answer = not_taken; steps = 11; filled = 0; value = 6; count = 1; turn = 1 })
  -- "as c, d without the drop, then worker 0 stepped to its end": "14 steps, ran yes, count 1"
  pub e :
      LentEnds calls_e 1 (record { more = 11; answer = not_taken; steps = 11; filled = 0; value = 6; count = 1; turn = 1 }) ×
      LentEnds (calls_e ++ steps 11 1) 0 (record { more = 4; answer = ran_yes; steps = 14; filled = 2; value = 6; count = 1; turn = 1 })
  -- "A, 1 step, drop": "free, turn 0"
  pub f :
      (collect_reply (lent_on (Begin 0 0 job_a ∷ Step 0 ∷ [])) 0 ≡ refused_by 3) ×
      LentStands (lent_on (Begin 0 0 job_a ∷ Step 0 ∷ Drop 0 ∷ [])) 5 0 0 0 0 ×
      (collect_reply (lent_on (Begin 0 0 job_a ∷ Step 0 ∷ Drop 0 ∷ [])) 0 ≡ refused_by 11)
  -- "0 has A, 1 has B, both Look free, 0 grabs, then 1 alone": "worker 1: 14 steps, not taken, word 0 = 6"
  pub g : LentEnds calls_g 1 (record { more = 13; answer = not_taken; steps = 14; filled = 2; value = 6; count = 1; turn = 1 })
  -- "0 takes 2 steps of A, 1 with B helps to the end, 0 goes on": "ran yes, count 1"
  pub h :
      LentEnds calls_h 1 (record { more = 11; answer = not_taken; steps = 11; filled = 2; value = 6; count = 1; turn = 1 }) ×
      LentEnds (calls_h ++ steps 11 1) 0 (record { more = 12; answer = ran_yes; steps = 14; filled = 0; value = 6; count = 1; turn = 1 })
  -- "B with skip 2": "refused 7, place 2"
  pub i : begin_reply (lent_on []) 0 0 (job_skipping 2) ≡ record { number = 7; place = 2 }
  -- "A on lock 1": "refused 8, place 0"
  pub j : begin_reply (lent_on []) 0 1 job_a ≡ record { number = 8; place = 0 }
