-- Any sequence of lent calls follows the history of the same calls on a state by value; so what is promised of histories is promised
-- of the numbers. A lent call is what its contract says of any numbers (door/specs/Calls.antt): nothing here is assumed of one.
mod Names
use Names.*
use Rattle.cells.specs.Layout.{numbers, unpack, blanked}
use Rattle.door.specs.Calls.{setup_reply, setup_left, begin_reply, begin_left, step_reply, step_left, collect_reply, collect_left, drop_reply, drop_left, word_reply, lock_reply, show_reply, show_buffer, park_reply, park_buffer}
use Rattle.door.specs.Door.{short_reply, told_fields, no_answer, collected_fields, no_word, word_fields, no_lock, lock_fields, no_bytes, wrote_fields}
use Rattle.engine.specs.Calls.{setup_of, begin_of, step_of, collect_of, drop_of, read_word_of, read_lock_of, show_of, shown_of, park_of, parked_of}
use Rattle.past.specs.Past.{Call, Begin, Step, Collect, Drop, ReadWord, ReadLock, Show, Park, AllRecords, Past, after_all, state_after}
use Rattle.histories.specs.Filled.{Shares}
use Rattle.histories.specs.History.{Demand3, sofar}
use Rattle.histories.specs.Plainly.{Plainly}
use Rattle.histories.specs.Used.{Used}
use Rattle.histories.specs.Worn.{Wears}

-- the numbers after one lent call; the readers and the writers change none
unfoldable pub lent_after : List ℕ → Call → List ℕ
lent_after s (Begin w l rec) = begin_left s w l rec
lent_after s (Step w) = step_left s w
lent_after s (Collect w) = collect_left s w
lent_after s (Drop w) = drop_left s w
lent_after s (ReadWord i) = s
lent_after s (ReadLock l) = s
lent_after s (Show sheet room) = s
lent_after s (Park room) = s

-- after lent calls, one after the other
unfoldable pub lent_all : List ℕ → List Call → List ℕ
lent_all s [] = s
lent_all s (c ∷ cs) = lent_all (lent_after s c) cs

-- after a lent setup and the calls on what it left
abbrev pub lent_past : List ℕ → Past → List ℕ
lent_past s p = lent_all (setup_left s p.setup) p.calls

-- What the next call tells on the numbers s, whichever it is, and the buffer that it leaves, is what the call by value tells on the
-- state e, in the fields of the C interface.
pub record Tells (s : List ℕ) (e : Engine) : Type 0 where
  pub setup : (rec : List ℕ) → setup_reply s rec ≡ told_fields (setup_of rec).told
  pub begin : (w l : ℕ) (rec : List ℕ) → begin_reply s w l rec ≡ told_fields (begin_of e w l rec).told
  pub step : (w : ℕ) → step_reply s w ≡ told_fields (step_of e w).told
  pub collect : (w : ℕ) → collect_reply s w ≡ collected_fields (collect_of e w).told
  pub drop : (w : ℕ) → drop_reply s w ≡ told_fields (drop_of e w).told
  pub read_word : (i : ℕ) → word_reply s i ≡ word_fields (read_word_of e i)
  pub read_lock : (l : ℕ) → lock_reply s l ≡ lock_fields (read_lock_of e l)
  pub show : (sheet : ℕ) (buf : List ℕ) → show_reply s sheet buf ≡ wrote_fields (show_of e sheet (length buf))
  pub shown : (sheet : ℕ) (buf : List ℕ) → show_buffer s sheet buf ≡ shown_of e sheet buf
  pub park : (buf : List ℕ) → park_reply s buf ≡ wrote_fields (park_of e (length buf))
  pub parked : (buf : List ℕ) → park_buffer s buf ≡ parked_of e buf

-- Fewer numbers than the layout has: refusal 22, place 0: whichever call it is, and it leaves the numbers and the buffer
pub record Short (s : List ℕ) : Type 0 where
  pub setup : (rec : List ℕ) → (setup_reply s rec ≡ short_reply) × (setup_left s rec ≡ s)
  pub calls : (cs : List Call) → lent_all s cs ≡ s
  pub begin : (w l : ℕ) (rec : List ℕ) → begin_reply s w l rec ≡ short_reply
  pub step : (w : ℕ) → step_reply s w ≡ short_reply
  pub collect : (w : ℕ) → collect_reply s w ≡ no_answer short_reply
  pub drop : (w : ℕ) → drop_reply s w ≡ short_reply
  pub read_word : (i : ℕ) → word_reply s i ≡ no_word short_reply
  pub read_lock : (l : ℕ) → lock_reply s l ≡ no_lock short_reply
  pub show : (sheet : ℕ) (buf : List ℕ) → (show_reply s sheet buf ≡ no_bytes short_reply) × (show_buffer s sheet buf ≡ buf)
  pub park : (buf : List ℕ) → (park_reply s buf ≡ no_bytes short_reply) × (park_buffer s buf ≡ buf)

-- what lent calls come to
pub record Carried : Type 0 where
  -- demand 1: a refusal leaves every number as it was; of a setup, the blank state's
  pub begin :
      (s : List ℕ) (w l : ℕ) (rec : List ℕ) (r : Refusal) → (begin_of (unpack s) w l rec).told ≡ Err r →
      lent_after s (Begin w l rec) ≡ s
  pub step : (s : List ℕ) (w : ℕ) (r : Refusal) → (step_of (unpack s) w).told ≡ Err r → lent_after s (Step w) ≡ s
  pub collect :
      (s : List ℕ) (w : ℕ) (r : Refusal) → (collect_of (unpack s) w).told ≡ Err r → lent_after s (Collect w) ≡ s
  pub drop : (s : List ℕ) (w : ℕ) (r : Refusal) → (drop_of (unpack s) w).told ≡ Err r → lent_after s (Drop w) ≡ s
  pub setup :
      (s rec : List ℕ) (r : Refusal) → numbers ≤ length s → (setup_of rec).told ≡ Err r → setup_left s rec ≡ blanked s
  pub short : (s : List ℕ) → length s < numbers → Short s
  -- From any numbers, through any calls whose records are bytes: they say the state that the calls by value give, and there are as
  -- many. Each call tells, on any numbers, what the call by value tells on the state that they say (demands 1 and 2).
  pub follows :
      (s : List ℕ) (cs : List Call) → numbers ≤ length s → AllRecords cs →
      (unpack (lent_all s cs) ≡ after_all (unpack s) cs) × (length (lent_all s cs) ≡ length s)
  pub tells : (s : List ℕ) → numbers ≤ length s → Tells s (unpack s)
  -- From a lent setup through any lent calls: the state that the numbers say is the state after the history, what the next call tells
  -- is told of that state, and all that is promised of it and of what the history comes to holds (demand 3, requests 02, 03,
  -- 05 and 06).
  pub carried :
      (s : List ℕ) (p : Past) → numbers ≤ length s →
      (unpack (lent_past s p) ≡ state_after p) × Tells (lent_past s p) (state_after p) × Demand3 p × Shares (sofar p) × Wears (sofar p) ×
      Plainly (sofar p) × Used (state_after p)
