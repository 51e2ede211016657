-- The eight instructions, worked: each in each of its cases, from a setup record's bytes and a job record's bytes through setup, begin,
-- step, collect, the readers and park. A job alone and a step share their meanings, so that no theorem about the two can tell one
-- meaning from another; the numbers here were worked out by hand from document 01, and do.
mod Names
use Names.*
use Rattle.arrays.specs.Fresh.{values_of}
use Rattle.records.specs.Job.{job_of}
use Rattle.alone.specs.Alone.{alone_of}
use Rattle.engine.specs.Calls.{setup_of, collect_of, read_word_of, read_lock_of, park_of, parked_of}
use Rattle.past.specs.Past.{Begin, after_all, steps}
use Rattle.tables.specs.Table.{StillUnderWay}

-- One lock at turn 0x01020304, and five words under it, 0x44332211, 0xFEDCBA98, 5, 9 and 7; "Little-endian": the four bytes of the first
-- two values and of the turn all differ.
unfoldable pub setup_v : List ℕ
setup_v =
    0x23 ∷ 0x00 ∷ 0x02 ∷ 0x00 ∷ 0x01 ∷ 0x05 ∷ 0x00 ∷ 0x00 ∷ 0x00 ∷ 0x00 ∷ 0x00 ∷
    0x11 ∷ 0x22 ∷ 0x33 ∷ 0x44 ∷ 0x98 ∷ 0xBA ∷ 0xDC ∷ 0xFE ∷
    0x05 ∷ 0x00 ∷ 0x00 ∷ 0x00 ∷ 0x09 ∷ 0x00 ∷ 0x00 ∷ 0x00 ∷ 0x07 ∷ 0x00 ∷ 0x00 ∷ 0x00 ∷
    0x04 ∷ 0x03 ∷ 0x02 ∷ 0x01 ∷ []

-- set, load and store, with each register: register 1 is set twice, 0 and 2 once, and 2 and 3 are loaded from words 0 and 1, 2 over what
-- was set; the four are stored in words 1 to 4; then word 2 is loaded over register 3 and stored again
unfoldable pub job_moves : List ℕ
job_moves =
    0x38 ∷ 0x00 ∷ 0x01 ∷ 0x00 ∷
    0x01 ∷ 0x01 ∷ 0xFF ∷ 0x00 ∷ 0x01 ∷ 0x01 ∷ 0x83 ∷ 0xF4 ∷ 0x01 ∷ 0x00 ∷ 0x01 ∷ 0x02 ∷ 0x01 ∷ 0x02 ∷ 0x09 ∷ 0x00 ∷
    0x02 ∷ 0x02 ∷ 0x00 ∷ 0x00 ∷ 0x02 ∷ 0x03 ∷ 0x01 ∷ 0x00 ∷ 0x03 ∷ 0x00 ∷ 0x01 ∷ 0x00 ∷ 0x03 ∷ 0x01 ∷ 0x02 ∷ 0x00 ∷
    0x03 ∷ 0x02 ∷ 0x03 ∷ 0x00 ∷ 0x03 ∷ 0x03 ∷ 0x04 ∷ 0x00 ∷ 0x02 ∷ 0x03 ∷ 0x02 ∷ 0x00 ∷ 0x03 ∷ 0x03 ∷ 0x02 ∷ 0x00 ∷
    0x00 ∷ 0x00 ∷ 0x00 ∷ 0x00 ∷ []

-- add and sub, each where it wraps and where it doesn't: registers 0 and 2 are word 0, 1 and 3 word 1; add 0 1; sub 2 3, stored in word 2;
-- add 2 0; sub 3 0; and the registers are stored in words 0, 1, 3, 4
unfoldable pub job_sums : List ℕ
job_sums =
    0x3C ∷ 0x00 ∷ 0x01 ∷ 0x00 ∷
    0x02 ∷ 0x00 ∷ 0x00 ∷ 0x00 ∷ 0x02 ∷ 0x01 ∷ 0x01 ∷ 0x00 ∷ 0x02 ∷ 0x02 ∷ 0x00 ∷ 0x00 ∷ 0x02 ∷ 0x03 ∷ 0x01 ∷ 0x00 ∷
    0x05 ∷ 0x00 ∷ 0x01 ∷ 0x00 ∷ 0x06 ∷ 0x02 ∷ 0x03 ∷ 0x00 ∷ 0x03 ∷ 0x02 ∷ 0x02 ∷ 0x00 ∷
    0x05 ∷ 0x02 ∷ 0x00 ∷ 0x00 ∷ 0x06 ∷ 0x03 ∷ 0x00 ∷ 0x00 ∷
    0x03 ∷ 0x00 ∷ 0x00 ∷ 0x00 ∷ 0x03 ∷ 0x01 ∷ 0x01 ∷ 0x00 ∷ 0x03 ∷ 0x02 ∷ 0x03 ∷ 0x00 ∷ 0x03 ∷ 0x03 ∷ 0x04 ∷ 0x00 ∷
    0x00 ∷ 0x01 ∷ 0x00 ∷ 0x00 ∷ []

-- cam: registers 0 to 3 are 0x0109, 5, 9, 7; word 2, which is 5 as register 1, becomes register 2; word 3, which is 9 as register 2, is
-- neither register 1 nor register 0, whose low byte it is, and stays; word 4, which is 7 as register 3, becomes register 0; word 2, which
-- is now 9 as register 2, becomes register 1
unfoldable pub job_cams : List ℕ
job_cams =
    0x2C ∷ 0x00 ∷ 0x01 ∷ 0x00 ∷
    0x01 ∷ 0x00 ∷ 0x09 ∷ 0x01 ∷ 0x01 ∷ 0x01 ∷ 0x05 ∷ 0x00 ∷ 0x01 ∷ 0x02 ∷ 0x09 ∷ 0x00 ∷ 0x01 ∷ 0x03 ∷ 0x07 ∷ 0x00 ∷
    0x04 ∷ 0x01 ∷ 0x02 ∷ 0x02 ∷ 0x04 ∷ 0x01 ∷ 0x02 ∷ 0x03 ∷ 0x04 ∷ 0x00 ∷ 0x03 ∷ 0x03 ∷ 0x04 ∷ 0x03 ∷ 0x00 ∷ 0x04 ∷
    0x04 ∷ 0x02 ∷ 0x01 ∷ 0x02 ∷ 0x00 ∷ 0x01 ∷ 0x00 ∷ 0x00 ∷ []

-- skip: registers 0 and 1 are 5, and register 3, which each store stores, is 0x0105. A skip of 1 passes over the store in word 0 and
-- lands on that in word 1; two of unequal registers, the greater one first and second, go on to the store in word 2; a skip of 3 passes
-- over the store in word 3, a halt with yes and the store in word 0, and lands on the store in word 4; then a halt with no
unfoldable pub job_skips : List ℕ
job_skips =
    0x40 ∷ 0x00 ∷ 0x01 ∷ 0x00 ∷
    0x01 ∷ 0x00 ∷ 0x05 ∷ 0x00 ∷ 0x01 ∷ 0x01 ∷ 0x05 ∷ 0x00 ∷ 0x01 ∷ 0x03 ∷ 0x05 ∷ 0x01 ∷ 0x07 ∷ 0x01 ∷ 0x00 ∷ 0x01 ∷
    0x03 ∷ 0x03 ∷ 0x00 ∷ 0x00 ∷ 0x03 ∷ 0x03 ∷ 0x01 ∷ 0x00 ∷ 0x07 ∷ 0x03 ∷ 0x01 ∷ 0x02 ∷ 0x07 ∷ 0x01 ∷ 0x03 ∷ 0x02 ∷
    0x03 ∷ 0x03 ∷ 0x02 ∷ 0x00 ∷ 0x07 ∷ 0x00 ∷ 0x01 ∷ 0x03 ∷ 0x03 ∷ 0x03 ∷ 0x03 ∷ 0x00 ∷ 0x00 ∷ 0x01 ∷ 0x00 ∷ 0x00 ∷
    0x03 ∷ 0x03 ∷ 0x00 ∷ 0x00 ∷ 0x03 ∷ 0x03 ∷ 0x04 ∷ 0x00 ∷ 0x00 ∷ 0x00 ∷ 0x00 ∷ 0x00 ∷ []

-- the fresh state of V; and the state once worker 0 began this job on lock 0 and made n steps
unfoldable pub fresh_v : Engine
fresh_v = (setup_of setup_v).engine

abbrev pub stepped_on : List ℕ → ℕ → Engine
stepped_on job n = after_all fresh_v (Begin 0 0 job ∷ steps n 0)

-- a word under lock 0, with this value and count
abbrev pub word_with : ℕ → ℕ → Word
word_with value count = record { value = value; count = count; guard = 0 }

-- the readers tell these words, and that lock 0 is free at this turn
pub record Reads (e : Engine) (words : List Word) (turn : ℕ) : Type 0 where
  pub word : map (read_word_of e) (0 ∷ 1 ∷ 2 ∷ 3 ∷ 4 ∷ []) ≡ map Ok words
  pub lock : read_lock_of e 0 ≡ Ok (record { turn = turn; holder = None })

-- stepped on V the job ends with this answer, yes or no, after so many steps and not one earlier, has filled so many entries, and leaves
-- these words; and alone, on V's values, it gives the same, so many instructions executed
pub record Works (job : List ℕ) (yes : Bool) (stepped filled executed : ℕ) (words : List Word) : Type 0 where
  pub before : StillUnderWay (collect_of (stepped_on job (stepped - 1)) 0).told
  pub told : (collect_of (stepped_on job stepped) 0).told ≡ Ok (answered (pick yes RanYes RanNo) stepped filled)
  pub left : Reads (stepped_on job stepped) words 0x01020305
  pub alone :
      alone_of (job_of job) (0x44332211 ∷ 0xFEDCBA98 ∷ 5 ∷ 9 ∷ 7 ∷ []) ≡
      record { yes = yes; executed = executed; words = values_of words }

-- Steps: 4 before the run and 2 after it; in it 3 for a store and for a cam that swaps, 2 for a load and for one that doesn't, 1 for any
-- other. Entries: one for each load, store and cam. Counts: one more for each store and each cam that swaps.
pub record Worked : Type 0 where
  pub setup : (setup_of setup_v).told ≡ Ok tt
  pub fresh : Reads fresh_v (word_with 0x44332211 0 ∷ word_with 0xFEDCBA98 0 ∷ word_with 5 0 ∷ word_with 9 0 ∷ word_with 7 0 ∷ []) 0x01020304
  -- set: "register a becomes b + 256c"; load: "register a becomes word b"; store: "word b becomes register a"; halt: "no (a = 0)"
  pub moves :
      Works job_moves false 32 8 13
      (word_with 0x44332211 0 ∷ word_with 0x0201 1 ∷ word_with 0xF483 2 ∷ word_with 0x44332211 1 ∷ word_with 0xFEDCBA98 1 ∷ [])
  -- add and sub: "register a plus or minus register b, modulo 2 to the 32nd"; halt: "yes (a = 1)"
  pub sums :
      Works job_sums true 34 9 14
      (word_with 0x430FDCA9 1 ∷ word_with 0xFEDCBA98 1 ∷ word_with 0x45566779 1 ∷ word_with 0x88664422 1 ∷ word_with 0xBBCCDDEF 1 ∷ [])
  -- cam: "if word c equals register a it becomes register b"
  pub cams :
      Works job_cams true 24 5 10
      (word_with 0x44332211 0 ∷ word_with 0xFEDCBA98 0 ∷ word_with 5 2 ∷ word_with 9 0 ∷ word_with 0x0109 1 ∷ [])
  -- skip: "if registers a and b are equal, pass over the next c instructions"
  pub skips :
      Works job_skips false 23 3 11
      (word_with 0x44332211 0 ∷ word_with 0x0105 1 ∷ word_with 0x0105 1 ∷ word_with 9 0 ∷ word_with 0x0105 1 ∷ [])
  -- "Park writes the setup record of the present values and turns": after job_sums, into 36 bytes, of which the last stays
  pub parked :
      (park_of (stepped_on job_sums 34) 36 ≡ Ok 35) ×
      (parked_of (stepped_on job_sums 34) (replicate 36 0xA5) ≡
      0x23 ∷ 0x00 ∷ 0x02 ∷ 0x00 ∷ 0x01 ∷ 0x05 ∷ 0x00 ∷ 0x00 ∷ 0x00 ∷ 0x00 ∷ 0x00 ∷
      0xA9 ∷ 0xDC ∷ 0x0F ∷ 0x43 ∷ 0x98 ∷ 0xBA ∷ 0xDC ∷ 0xFE ∷
      0x79 ∷ 0x67 ∷ 0x56 ∷ 0x45 ∷ 0x22 ∷ 0x44 ∷ 0x66 ∷ 0x88 ∷ 0xEF ∷ 0xDD ∷ 0xCC ∷ 0xBB ∷
      0x05 ∷ 0x03 ∷ 0x02 ∷ 0x01 ∷ 0xA5 ∷ [])
