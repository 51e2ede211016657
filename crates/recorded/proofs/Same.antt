-- A worker or lock above 255 is none, and neither is 255: the call gets the same answer. What the writer does to a buffer. A begin that
-- has no record is refused.
use Rattle.std.specs.Prelude.{Err, Ok}
use Prim.Native.Nat.{ℕ, ◌+◌, ◌-◌, ◌≤◌}
use mathlib.Core.Path.{◌≡◌, refl, ◌∙◌, sym, ap}
use mathlib.Core.Bool.{Bool, true, false}
use mathlib.Core.List.{List, [], ◌++◌}
use native.Mathlib.Omega.{arith}
use lib.Dec.{eqb, leb}
use lib.ListN.{length, take, drop}
use borrow.Author.Tests.{le-leb, leb-true, leb-false, eqb-true, eqb-false}
use Rattle.arrays.specs.Fresh.{guards_of}
use Rattle.parts.specs.Numbers.{workers}
use Rattle.parts.specs.Parts.{worn_of}
use Rattle.parts.specs.Told.{on_told, ◌then◌, refuse_if, first_of}
use Rattle.parts.specs.declared.Refusal.{Refusal}
use Rattle.parts.specs.declared.Refusal.TheVariants.{NoWorker, NoLock, LastTurn}
use Rattle.parts.specs.Told.{Told}
use Rattle.records.specs.Job.{forms, form_order, job_told}
use Rattle.records.proofs.Form.{job_stop}
use Rattle.steps.specs.Worker.{begin_by_state}
use Rattle.engine.specs.Calls.{write_of, buffer_of, outcome_of, begin_told, taken_of, begin_of, step_of, collect_of, drop_of}
use Rattle.engine.specs.State.{lock_count, lock_at, words_of, worker_at}
use Rattle.engine.specs.Calls.{Collected}
use Rattle.engine.specs.declared.Engine.{Engine}
use Rattle.engine.specs.declared.Outcome.{Outcome}
use Rattle.past.specs.Past.{Call, Begin, Step, Collect, Drop, ReadWord, ReadLock, Show, Park, after}
use Rattle.calls.specs.Record.{capped_of, call_with, call_record, write_told, recorded_of, recorded_in}
use Rattle.calls.proofs.Laws.{record_size, begin_room, other_room, begin_count, other_count}
use Rattle.parts.proofs.Lay.{lay_is}
use Rattle.files.specs.File.{told_line, collect_line, call_line}
use Rattle.recorded.specs.Recorded.{is_written, in_bytes}

-- a number and its byte: they are the same, or both are past a bound of at most 255
data Byte (bound n : ℕ) : Type 0 where
  is : capped_of n ≡ n → Byte bound n
  past : bound ≤ capped_of n → bound ≤ n → Byte bound n

byte : (bound n : ℕ) → bound ≤ 255 → Byte bound n
byte bound n h = go (leb n 255) refl
  where
    go : (b : Bool) → leb n 255 ≡ b → Byte bound n
    go true e = is (omega (arith, leb-true n 255 e))
    go false e = past (omega (arith, leb-false n 255 e)) (omega (arith, leb-false n 255 e))

-- an order whose first rows do not name the number, and whose next refuses, is refused: two such calls have one outcome
refused_then :
    (e x y : Engine) (a b : Told) (r : Refusal) →
    outcome_of e (a then (b then Err r)) x ≡ outcome_of e (a then (b then Err r)) y
refused_then e x y (Err s) b r = refl
refused_then e x y (Ok _) (Err s) r = refl
refused_then e x y (Ok _) (Ok _) r = refl

-- the worker, on each of the four
no_worker : (e : Engine) (w l : ℕ) (rec : List ℕ) → workers ≤ w → begin_of e w l rec ≡ record { engine = e; told = Err NoWorker }
unfolding begin_of begin_told
no_worker e w l rec h = simp (le-leb workers w h)

begin_worker : (e : Engine) (w l : ℕ) (rec : List ℕ) → begin_of e (capped_of w) l rec ≡ begin_of e w l rec
begin_worker e w l rec = go (byte workers w (omega arith))
  where
    go : Byte workers w → begin_of e (capped_of w) l rec ≡ begin_of e w l rec
    go (is h) = ap (λ (v : ℕ). begin_of e v l rec) h
    go (past h k) = no_worker e (capped_of w) l rec h ∙ sym (no_worker e w l rec k)

no_step : (e : Engine) (v : ℕ) → workers ≤ v → step_of e v ≡ record { engine = e; told = Err NoWorker }
unfolding step_of
no_step e v h = simp (le-leb workers v h)

step_worker : (e : Engine) (w : ℕ) → step_of e (capped_of w) ≡ step_of e w
step_worker e w = go (byte workers w (omega arith))
  where
    go : Byte workers w → step_of e (capped_of w) ≡ step_of e w
    go (is h) = ap (step_of e) h
    go (past h k) = no_step e (capped_of w) h ∙ sym (no_step e w k)

no_collect : (e : Engine) (v : ℕ) → workers ≤ v → collect_of e v ≡ record { engine = e; told = Err NoWorker }
unfolding collect_of
no_collect e v h = simp (le-leb workers v h)

collect_worker : (e : Engine) (w : ℕ) → collect_of e (capped_of w) ≡ collect_of e w
collect_worker e w = go (byte workers w (omega arith))
  where
    go : Byte workers w → collect_of e (capped_of w) ≡ collect_of e w
    go (is h) = ap (collect_of e) h
    go (past h k) = no_collect e (capped_of w) h ∙ sym (no_collect e w k)

no_drop : (e : Engine) (v : ℕ) → workers ≤ v → drop_of e v ≡ record { engine = e; told = Err NoWorker }
unfolding drop_of
no_drop e v h = simp (le-leb workers v h)

drop_worker : (e : Engine) (w : ℕ) → drop_of e (capped_of w) ≡ drop_of e w
drop_worker e w = go (byte workers w (omega arith))
  where
    go : Byte workers w → drop_of e (capped_of w) ≡ drop_of e w
    go (is h) = ap (drop_of e) h
    go (past h k) = no_drop e (capped_of w) h ∙ sym (no_drop e w k)

-- the lock: where it is none, begin's rows before it are the same
no_lock_lem :
    (e : Engine) (w k : ℕ) (rec : List ℕ) (x : Engine) → lock_count e ≤ k →
    begin_of e w k rec ≡
    outcome_of e (refuse_if (leb workers w) NoWorker then (begin_by_state (worker_at e w) then Err NoLock)) x
unfolding begin_of begin_told
no_lock_lem e w k rec x h =
    simp (le-leb (lock_count e) k h)
    (refused_then e (taken_of e w k rec) x (refuse_if (leb workers w) NoWorker) (begin_by_state (worker_at e w)) NoLock)

begin_lock : (e : Engine) (w l : ℕ) (rec : List ℕ) → begin_of e w (capped_of l) rec ≡ begin_of e w l rec
begin_lock e w l rec = go (byte (lock_count e) l (omega arith))
  where
    go : Byte (lock_count e) l → begin_of e w (capped_of l) rec ≡ begin_of e w l rec
    go (is h) = ap (λ (k : ℕ). begin_of e w k rec) h
    go (past h k) = no_lock_lem e w (capped_of l) rec e h ∙ sym (no_lock_lem e w l rec e k)

begin_same : (e : Engine) (w l : ℕ) (rec : List ℕ) → begin_of e (capped_of w) (capped_of l) rec ≡ begin_of e w l rec
begin_same e w l rec = begin_worker e w (capped_of l) rec ∙ begin_lock e w l rec

pub told_same : (e : Engine) (c : Call) → call_line e (in_bytes c) ≡ call_line e c
unfolding call_line in_bytes
told_same e (Begin w l rec) = ap (λ (o : Outcome). told_line o.told) (begin_same e w l rec)
told_same e (Step w) = ap (λ (o : Outcome). told_line o.told) (step_worker e w)
told_same e (Collect w) = ap (λ (o : Collected). collect_line o.told) (collect_worker e w)
told_same e (Drop w) = ap (λ (o : Outcome). told_line o.told) (drop_worker e w)
told_same e (ReadWord i) = refl
told_same e (ReadLock l) = refl
told_same e (Show s room) = refl
told_same e (Park room) = refl

pub left_same : (e : Engine) (c : Call) → after e (in_bytes c) ≡ after e c
unfolding after in_bytes
left_same e (Begin w l rec) = ap (λ (o : Outcome). o.engine) (begin_same e w l rec)
left_same e (Step w) = ap (λ (o : Outcome). o.engine) (step_worker e w)
left_same e (Collect w) = ap (λ (o : Collected). o.engine) (collect_worker e w)
left_same e (Drop w) = ap (λ (o : Outcome). o.engine) (drop_worker e w)
left_same e (ReadWord i) = refl
left_same e (ReadLock l) = refl
left_same e (Show s room) = refl
left_same e (Park room) = refl

-- a writer that is refused
pub refused_kept :
    (call w l : ℕ) (rec buf : List ℕ) (r : Refusal) → recorded_of call w l rec (length buf) ≡ Err r →
    recorded_in call w l rec buf ≡ buf
unfolding recorded_of recorded_in
refused_kept call w l rec buf r h = go (write_told call rec (length buf)) h
  where
    go :
        (t : Told) → write_of t (call_record (call_with call w l rec)) ≡ Err r →
        buffer_of t (call_record (call_with call w l rec)) buf ≡ buf
    go (Ok _) h = let z : ◌≡◌ {A = ℕ} 0 1 = cc in absurd (omega arith)
    go (Err s) h = refl

-- one that is accepted: the buffer has room for the record
record_fits :
    (call w l : ℕ) (rec : List ℕ) (room : ℕ) → write_told call rec room ≡ Ok tt →
    length (call_record (call_with call w l rec)) ≤ room
record_fits call w l rec room h = go (eqb call 0) refl
  where
    go : (q : Bool) → eqb call 0 ≡ q → length (call_record (call_with call w l rec)) ≤ room
    go true e =
        let z = eqb-true call 0 e in
        let n = begin_count call w l _ rec z refl in
        omega (arith, n, record_size 0 w l (take (length rec - 4) (drop 4 rec)), begin_room call rec room h z)
    go false e =
        let k = eqb-false call 0 e in
        let n = other_count call w l room rec k h _ refl in
        omega (arith, n, record_size call w 0 [], other_room call rec room h k)

pub wrote_front :
    (call w l : ℕ) (rec buf : List ℕ) (n : ℕ) → recorded_of call w l rec (length buf) ≡ Ok n →
    (n ≡ length (call_record (call_with call w l rec))) ×
    (recorded_in call w l rec buf ≡ call_record (call_with call w l rec) ++ drop n buf)
unfolding recorded_of recorded_in
wrote_front call w l rec buf n h = go (write_told call rec (length buf)) refl h
  where
    go :
        (t : Told) → write_told call rec (length buf) ≡ t → write_of t (call_record (call_with call w l rec)) ≡ Ok n →
        (n ≡ length (call_record (call_with call w l rec))) ×
        (buffer_of t (call_record (call_with call w l rec)) buf ≡ call_record (call_with call w l rec) ++ drop n buf)
    go (Ok _) e k =
        let m : n ≡ length (call_record (call_with call w l rec)) = cc in
        let z : 0 + length (call_record (call_with call w l rec)) ≡ n = omega arith in (
          m,
          lay_is 0 (call_record (call_with call w l rec)) buf (omega (arith, record_fits call w l rec (length buf) e)) ∙
              ap (λ (j : ℕ). call_record (call_with call w l rec) ++ drop j buf) z,
        )
    go (Err s) e k = let z : ◌≡◌ {A = ℕ} 0 1 = cc in absurd (omega arith)

-- a begin that has no record
pub unwritten_refused :
    (e : Engine) (w l : ℕ) (rec : List ℕ) → is_written (Begin w l rec) ≡ false →
    ((r : Refusal) × ((begin_of e w l rec).told ≡ Err r)) × ((begin_of e w l rec).engine ≡ e)
unfolding is_written begin_of begin_told
unwritten_refused e w l rec h = go (first_of (form_order forms rec)) refl h
  where
    rows :
        (a b c : Told) (s : Refusal) (later : Told) (x : Engine) →
        ((r : Refusal) × ((outcome_of e (a then (b then (c then (Err s then later)))) x).told ≡ Err r)) ×
        ((outcome_of e (a then (b then (c then (Err s then later)))) x).engine ≡ e)
    rows (Err r) b c s later x = ((r, refl), refl)
    rows (Ok _) (Err r) c s later x = ((r, refl), refl)
    rows (Ok _) (Ok _) (Err r) s later x = ((r, refl), refl)
    rows (Ok _) (Ok _) (Ok _) s later x = ((s, refl), refl)

    go :
        (t : Told) → first_of (form_order forms rec) ≡ t → on_told {A = Bool} t true (λ r. false) ≡ false →
        ((r : Refusal) × ((begin_of e w l rec).told ≡ Err r)) × ((begin_of e w l rec).engine ≡ e)
    go (Ok _) q k = let z : ◌≡◌ {A = ℕ} 0 1 = cc in absurd (omega arith)
    go (Err s) q k =
        let j : job_told rec l (guards_of (words_of e)) ≡ Err s = sym (job_stop rec l (guards_of (words_of e)) (Err s) s (sym q) refl) in
        rw j
        (rows (refuse_if (leb workers w) NoWorker) (begin_by_state (worker_at e w)) (refuse_if (leb (lock_count e) l) NoLock) s
        (refuse_if (worn_of (lock_at e l)) LastTurn) (taken_of e w l rec))
