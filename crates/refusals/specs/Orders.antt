-- Each call's order of refusals, one row for each test that document 01 and the requests name, and what demand 1 says of the calls by them: each
-- refusal is given exactly when its row refuses and every row before it accepts, and a refused call changes nothing.
mod Names
use Names.*
use Rattle.arrays.specs.Fresh.{guards_of}
use Rattle.records.specs.Bytes.{kind_field, wrong_length}
use Rattle.records.specs.Job.{forms, job_of, badly_formed, ends_otherwise, strays_at, no_job_kind, outside_kind}
use Rattle.records.specs.Setup.{setup_kind, locks_field, words_field, guards_field, turns_field, setup_length, outside}
use Rattle.plain.specs.Plain.{plain_of, plain_left}
use Rattle.steps.specs.Worker.{on_state}
use Rattle.engine.specs.Calls.{setup_of, begin_of, step_of, collect_of, drop_of, read_word_of, read_lock_of, is_free, show_of, shown_of, park_of, parked_of}
use Rattle.engine.specs.State.{blank_of, lock_count, word_count, locks_of, words_of, worker_at, lock_at, program_length}

-- "A worker is idle, under way at a named point of its try, or finished with one of three answers", of four since request 03
abbrev pub state_of : Engine → ℕ → State
state_of e w = (worker_at e w).state

abbrev pub is_idle : State → Bool
is_idle s = on_state s true (λ p. false) (λ x. false)

abbrev pub is_under_way : State → Bool
is_under_way s = on_state s false (λ p. true) (λ x. false)

abbrev pub is_finished : State → Bool
is_finished s = on_state s false (λ p. false) (λ x. true)

-- "the lowest faulty instruction (7 before 8 there)": of the instructions from `place` on. 7: "instruction badly formed, or the
-- last is no halt"; 8: "a load, store or cam names a word this lock doesn't guard, or no word"
unfoldable pub code_rows : List Instr → ℕ → ℕ → List ℕ → List Told
code_rows [] place l guards = []
code_rows (i ∷ is) place l guards =
    refuse_if (badly_formed i (length is) or ends_otherwise i (length is)) (Instruction place) ∷
    refuse_if (strays_at i l guards) (Guard place) ∷
    code_rows is (place + 1) l guards

-- of a job record, for a lock: "5 (fewer than 4 bytes, or length field other than the slice's length), 6, 5 (not 4 + 4n), then the lowest
-- faulty instruction (7 before 8 there)"
abbrev pub job_rows : List ℕ → ℕ → List ℕ → List Told
job_rows rec l guards =
    -- 5: "record length wrong"
    refuse_if (wrong_length rec) Length ∷
    -- 6: "kind is not the one this call takes"; request 04: "6 for a kind neither 1 nor 4"
    refuse_if (no_job_kind forms (kind_field rec)) Kind ∷
    -- 5: "not 4 + 4n"; request 04: "5 for a count outside the kind's own range"
    refuse_if (outside_kind forms (kind_field rec) (length rec)) Length ∷
    -- 7 and 8, each at "its place"
    code_rows (job_of rec) 0 l guards

-- "Order for begin: 1, 3 or 4, 2", those of the record, "9"; request 06: "10 removed"
abbrev pub begin_rows : Engine → ℕ → ℕ → List ℕ → List Told
begin_rows e w l rec =
    -- 1: "worker above 7"
    refuse_if (leb workers w) NoWorker ∷
    -- 3: "begin or collect: worker under way"
    refuse_if (is_under_way (state_of e w)) WorkerUnderWay ∷
    -- 4: "begin or step: answer not collected"
    refuse_if (is_finished (state_of e w)) NotCollected ∷
    -- 2: "lock not below L"
    refuse_if (leb (lock_count e) l) NoLock ∷
    job_rows rec l (guards_of (words_of e)) ++
    -- 9: "begin: the lock is free with turn 67,108,864"
    (refuse_if (worn_of (lock_at e l)) LastTurn ∷ [])

-- request 05, the plain engine: "16 if the tables differ in length or exceed 64, then 5, 6, 7 and 8 as in begin"
abbrev pub plain_rows : List ℕ → List ℕ → ℕ → List ℕ → List Told
plain_rows values guards l rec =
    refuse_if (length values isnt length guards or ltb most_words (length values)) NoWord ∷
    job_rows rec l guards

-- "Step: 1, 11, 4."
abbrev pub step_rows : Engine → ℕ → List Told
step_rows e w =
    -- 1: "worker above 7"
    refuse_if (leb workers w) NoWorker ∷
    -- 11: "step, collect or drop: worker idle"
    refuse_if (is_idle (state_of e w)) WorkerIdle ∷
    -- 4: "begin or step: answer not collected"
    refuse_if (is_finished (state_of e w)) NotCollected ∷
    []

-- "Collect: 1, 11, 3."
abbrev pub collect_rows : Engine → ℕ → List Told
collect_rows e w =
    -- 1: "worker above 7"
    refuse_if (leb workers w) NoWorker ∷
    -- 11: "step, collect or drop: worker idle"
    refuse_if (is_idle (state_of e w)) WorkerIdle ∷
    -- 3: "begin or collect: worker under way"
    refuse_if (is_under_way (state_of e w)) WorkerUnderWay ∷
    []

-- "Drop: 1, 11."
abbrev pub drop_rows : Engine → ℕ → List Told
drop_rows e w =
    -- 1: "worker above 7"
    refuse_if (leb workers w) NoWorker ∷
    -- 11: "step, collect or drop: worker idle"
    refuse_if (is_idle (state_of e w)) WorkerIdle ∷
    []

-- "12 for the lowest faulty byte": of the guards from `place` on, "each below L", and of the turns, each at its first byte
unfoldable pub guard_rows : List ℕ → ℕ → ℕ → List Told
guard_rows [] locks place = []
guard_rows (g ∷ gs) locks place = refuse_if (leb locks g) (Range place) ∷ guard_rows gs locks (place + 1)

unfoldable pub turn_rows : List ℕ → ℕ → List Told
turn_rows [] place = []
turn_rows (t ∷ ts) place = refuse_if (ltb last_turn t) (Range place) ∷ turn_rows ts (place + 4)

-- "Setup: 5 as above, 6, 5 (fewer than 6 bytes), 12 for L then W, 5 for the total, 12 for the lowest faulty byte."
abbrev pub setup_rows : List ℕ → List Told
setup_rows rec =
    -- 5: "record length wrong"
    refuse_if (wrong_length rec) Length ∷
    -- 6: "kind is not the one this call takes"
    refuse_if (kind_field rec isnt setup_kind) Kind ∷
    -- 5: "fewer than 6 bytes"
    refuse_if (ltb (length rec) 6) Length ∷
    -- 12: "setup: L, W, a guard or a turn outside its range", "its first byte"
    refuse_if (outside most_locks (locks_field rec)) (Range 4) ∷
    refuse_if (outside most_words (words_field rec)) (Range 5) ∷
    -- 5: "for the total"
    refuse_if (length rec isnt setup_length (locks_field rec) (words_field rec)) Length ∷
    -- 12: "for the lowest faulty byte"
    guard_rows (guards_field rec) (locks_field rec) 6 ++ turn_rows (turns_field rec) (6 + 5 * words_field rec)

-- 16: "word not below W"; 2: "lock not below L"
abbrev pub word_rows : Engine → ℕ → List Told
word_rows e i = refuse_if (leb (word_count e) i) NoWord ∷ []

abbrev pub lock_rows : Engine → ℕ → List Told
lock_rows e l = refuse_if (leb (lock_count e) l) NoLock ∷ []

-- "Show: 14, 13.", where the lent buffer has `room` bytes
abbrev pub show_rows : Engine → ℕ → ℕ → List Told
show_rows e s room =
    -- 14: "show: sheet above 31 or free"
    refuse_if (is_free e s) SheetFree ∷
    -- 13: "lent buffer shorter than the record"
    refuse_if (ltb room (4 + 4 * program_length e s)) Buffer ∷
    []

-- 15: "a lock is held", "lowest held lock": of the locks from `at` on
abbrev pub is_held : LockWord → Bool
is_held l = on_option l.holder false (λ s. true)

unfoldable pub held_rows : List LockWord → ℕ → List Told
held_rows [] at = []
held_rows (l ∷ ls) at = refuse_if (is_held l) (Held at) ∷ held_rows ls (at + 1)

-- "Park: 12, 15, 13."
abbrev pub park_rows : Engine → ℕ → List Told
park_rows e room =
    -- 12: "park: blank state", 4
    refuse_if (eqb (lock_count e) 0) (Range 4) ∷
    -- 15: "park: a lock is held", "lowest held lock"
    held_rows (locks_of e) 0 ++
    -- 13: "lent buffer shorter than the record"
    (refuse_if (ltb room (setup_length (lock_count e) (word_count e))) Buffer ∷ [])

-- some row refuses with r, and every row before it accepts
abbrev pub Given : List Told → Refusal → Type 0
Given rows r = (i : ℕ) × FirstAt rows r i

-- Demand 1, "given exactly when": what each call tells on any input.
pub record Exactly (r : Refusal) : Type 0 where
  pub begin :
      (e : Engine) (w l : ℕ) (rec : List ℕ) → (begin_of e w l rec).told ≡ Err r ↔ Given (begin_rows e w l rec) r
  pub step : (e : Engine) (w : ℕ) → (step_of e w).told ≡ Err r ↔ Given (step_rows e w) r
  pub collect : (e : Engine) (w : ℕ) → (collect_of e w).told ≡ Err r ↔ Given (collect_rows e w) r
  pub drop : (e : Engine) (w : ℕ) → (drop_of e w).told ≡ Err r ↔ Given (drop_rows e w) r
  pub setup : (rec : List ℕ) → (setup_of rec).told ≡ Err r ↔ Given (setup_rows rec) r
  pub read_word : (e : Engine) (i : ℕ) → read_word_of e i ≡ Err r ↔ Given (word_rows e i) r
  pub read_lock : (e : Engine) (l : ℕ) → read_lock_of e l ≡ Err r ↔ Given (lock_rows e l) r
  pub show : (e : Engine) (s room : ℕ) → show_of e s room ≡ Err r ↔ Given (show_rows e s room) r
  pub park : (e : Engine) (room : ℕ) → park_of e room ≡ Err r ↔ Given (park_rows e room) r
  pub plain :
      (values guards : List ℕ) (l : ℕ) (rec : List ℕ) →
      plain_of values guards l rec ≡ Err r ↔ Given (plain_rows values guards l rec) r

-- "A refusal returns its number and place, the state as it came (setup: the blank one), and not one byte of the buffer altered."
pub record Kept (r : Refusal) : Type 0 where
  pub begin :
      (e : Engine) (w l : ℕ) (rec : List ℕ) → (begin_of e w l rec).told ≡ Err r → (begin_of e w l rec).engine ≡ e
  pub step : (e : Engine) (w : ℕ) → (step_of e w).told ≡ Err r → (step_of e w).engine ≡ e
  pub collect : (e : Engine) (w : ℕ) → (collect_of e w).told ≡ Err r → (collect_of e w).engine ≡ e
  pub drop : (e : Engine) (w : ℕ) → (drop_of e w).told ≡ Err r → (drop_of e w).engine ≡ e
  pub setup : (rec : List ℕ) → (setup_of rec).told ≡ Err r → (setup_of rec).engine ≡ blank_of
  pub show :
      (e : Engine) (s : ℕ) (buf : List ℕ) → show_of e s (length buf) ≡ Err r → shown_of e s buf ≡ buf
  pub park : (e : Engine) (buf : List ℕ) → park_of e (length buf) ≡ Err r → parked_of e buf ≡ buf
  pub plain :
      (values guards : List ℕ) (l : ℕ) (rec : List ℕ) → plain_of values guards l rec ≡ Err r →
      plain_left values guards l rec ≡ values

-- a refusal of this number and place
abbrev pub Refuses : Told → ℕ → ℕ → Type 0
Refuses (Ok _) number place = ⊥
Refuses (Err r) number place = (refusal_number r ≡ number) × (refusal_place r ≡ place)

-- a call on state e is refused so, and the state is as it came
pub record Refusing (e : Engine) (o : Outcome) (number place : ℕ) : Type 0 where
  pub told : Refuses o.told number place
  pub state : o.engine ≡ e

-- a worker that isn't idle can't begin: 3 where it is under way, 4 where its answer is not collected
pub record Busy : Type 0 where
  pub under_way :
      (e : Engine) (w l : ℕ) (rec : List ℕ) (p : Point) → w < workers → state_of e w ≡ UnderWay p →
      Refusing e (begin_of e w l rec) 3 0
  pub finished :
      (e : Engine) (w l : ℕ) (rec : List ℕ) (x : Answer) → w < workers → state_of e w ≡ Finished x →
      Refusing e (begin_of e w l rec) 4 0
