-- Histories: which calls were made, and the state after them. A history may be cut anywhere; what is promised of one is promised of
-- every first part of it.
use Rattle.std.specs.Prelude.{ℕ, List, [], ◌∷◌, replicate}
use Rattle.records.specs.Bytes.{AllBytes}
use Rattle.engine.specs.Calls.{setup_of, begin_of, step_of, collect_of, drop_of}
use Rattle.engine.specs.declared.Engine.{Engine}

-- Lists of calls on a state, in the order in which they were made. A refused call is a call too: it stands in the
-- list and leaves the state as it came. Setup is none of them: a history goes on from the state that a setup gave.
-- begin (worker, lock, job record), step, collect and drop (worker), read word, read lock, show (sheet, length of the lent
-- buffer), park (length of the lent buffer)
pub data Call : Type 0 where
  Begin : ℕ → ℕ → List ℕ → Call
  Step : ℕ → Call
  Collect : ℕ → Call
  Drop : ℕ → Call
  ReadWord : ℕ → Call
  ReadLock : ℕ → Call
  Show : ℕ → ℕ → Call
  Park : ℕ → Call

-- the state after one call; the readers and the writers change nothing of it
unfoldable pub after : Engine → Call → Engine
after e (Begin w l rec) = (begin_of e w l rec).engine
after e (Step w) = (step_of e w).engine
after e (Collect w) = (collect_of e w).engine
after e (Drop w) = (drop_of e w).engine
after e (ReadWord i) = e
after e (ReadLock l) = e
after e (Show s room) = e
after e (Park room) = e

-- the state after a history
unfoldable pub after_all : Engine → List Call → Engine
after_all e [] = e
after_all e (c ∷ cs) = after_all (after e c) cs

-- n steps of worker w, one after the other
abbrev pub steps : ℕ → ℕ → List Call
steps n w = replicate n (Step w)

-- every record of a history is a string of bytes
unfoldable pub AllRecords : List Call → Type 0
AllRecords [] = Unit {0}
AllRecords (Begin w l rec ∷ cs) = AllBytes rec × AllRecords cs
AllRecords (Step w ∷ cs) = AllRecords cs
AllRecords (Collect w ∷ cs) = AllRecords cs
AllRecords (Drop w ∷ cs) = AllRecords cs
AllRecords (ReadWord i ∷ cs) = AllRecords cs
AllRecords (ReadLock l ∷ cs) = AllRecords cs
AllRecords (Show s room ∷ cs) = AllRecords cs
AllRecords (Park room ∷ cs) = AllRecords cs

-- "A contract may take the state to be one that these calls gave": a setup's bytes, and a history on what it gave; a refused
-- setup gave the blank state
pub record Past : Type 0 where
  pub setup : List ℕ
  pub calls : List Call
  pub setup_bytes : AllBytes setup
  pub calls_bytes : AllRecords calls

abbrev pub state_after : Past → Engine
state_after p = after_all (setup_of p.setup).engine p.calls
