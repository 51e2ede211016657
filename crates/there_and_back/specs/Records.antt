-- Demand 2, records: what show writes is the record that begin took, byte for byte; what park writes setup takes, with the same values,
-- guards and turns. Stated over histories from any setup, in which every record is a string of bytes.
mod Names
use Names.*
use Rattle.arrays.specs.Fresh.{guards_of, values_of, turns_of}
use Rattle.records.specs.Bytes.{AllBytes}
use Rattle.engine.specs.State.{in_use, free_sheet, words_of, locks_of, state_record}
use Rattle.engine.specs.Calls.{setup_of, begin_of, show_of, shown_of, park_of, parked_of}
use Rattle.past.specs.Past.{Call, after, after_all, AllRecords, Past, state_after}

-- sheet s is in use all along a history from state e
unfoldable pub UsedAlong : ℕ → Engine → List Call → Type 0
UsedAlong s e [] = in_use e s ≡ true
UsedAlong s e (c ∷ cs) = (in_use e s ≡ true) × UsedAlong s (after e c) cs

-- a show of sheet s in state e into a buffer with room for the record writes it to the front, and "the bytes after them don't
-- change"
pub record Writes (e : Engine) (s : ℕ) (rec : List ℕ) : Type 0 where
  pub told : (buf : List ℕ) → length rec ≤ length buf → show_of e s (length buf) ≡ Ok (length rec)
  pub left : (buf : List ℕ) → length rec ≤ length buf → shown_of e s buf ≡ rec ++ drop (length rec) buf

-- setup takes the record that park writes in state e, and gives the same guards, values and turns
pub record Restores (e : Engine) : Type 0 where
  pub told : (setup_of (state_record e)).told ≡ Ok tt
  pub guards : guards_of (words_of (setup_of (state_record e)).engine) ≡ guards_of (words_of e)
  pub values : values_of (words_of (setup_of (state_record e)).engine) ≡ values_of (words_of e)
  pub turns : turns_of (locks_of (setup_of (state_record e)).engine) ≡ turns_of (locks_of e)

pub record ThereAndBack : Type 0 where
  -- of a begin that is accepted, show writes the record, as long as the sheet that it took stays in use
  pub show :
      (p : Past) (w l : ℕ) (rec : List ℕ) (later : List Call) → AllBytes rec →
      (begin_of (state_after p) w l rec).told ≡ Ok tt →
      UsedAlong (free_sheet (state_after p)) (begin_of (state_after p) w l rec).engine later → AllRecords later →
      Writes (after_all (begin_of (state_after p) w l rec).engine later) (free_sheet (state_after p)) rec
  -- and the sheet is in use right after that begin
  pub used :
      (p : Past) (w l : ℕ) (rec : List ℕ) → AllBytes rec → (begin_of (state_after p) w l rec).told ≡ Ok tt →
      in_use (begin_of (state_after p) w l rec).engine (free_sheet (state_after p)) ≡ true
  -- a park that is accepted writes the record of the present state to the front, and setup takes it
  pub park :
      (p : Past) (buf : List ℕ) (n : ℕ) → park_of (state_after p) (length buf) ≡ Ok n →
      (n ≡ length (state_record (state_after p))) ×
      (parked_of (state_after p) buf ≡ state_record (state_after p) ++ drop n buf) ×
      Restores (state_after p)
