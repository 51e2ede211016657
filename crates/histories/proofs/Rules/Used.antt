-- Request 06: how many sheets are in use at a begin, and which one it takes, of every state that calls gave; and that what it tells looks at
-- none of them.
use Rattle.std.specs.Prelude.{Err, Ok}
use Prim.Native.Nat.{ℕ, ◌<◌, ◌≤◌}
use native.Mathlib.Omega.{arith}
use mathlib.Core.Bool.{Bool}
use mathlib.Core.List.{List}
use mathlib.Core.Path.{◌≡◌, refl, sym, ap, ◌∙◌, subst}
use lib.Dec.{leb}
use lib.ListN.{length}
use lib.Seq.{length-take-le, get_or-set_same}
use Rattle.arrays.specs.Fresh.{guards_of}
use Rattle.parts.specs.Numbers.{workers, sheets}
use Rattle.parts.specs.Parts.{worn_of}
use Rattle.parts.specs.Told.{refuse_if, ◌then◌}
use Rattle.parts.specs.declared.Refusal.TheVariants.{NoWorker, NoLock, LastTurn}
use Rattle.parts.specs.Told.{Told}
use Rattle.records.specs.Job.{job_told}
use Rattle.sheets.specs.Counted.{used_of, most_used}
use Rattle.sheets.specs.Sheets.{in_use_of}
use Rattle.sheets.proofs.Room.{used_most, room}
use Rattle.steps.specs.Worker.{worker0, begin_by_state}
use Rattle.steps.specs.declared.State.TheVariants.{Idle}
use Rattle.steps.specs.declared.Worker.{Worker}
use Rattle.engine.specs.Calls.{outcome_of, begun_of, taken_of, begin_of, begin_told}
use Rattle.engine.specs.Inner.{Begins}
use Rattle.engine.specs.State.{in_use, free_sheet, locks_of, lock_count, lock_at, worker_at, words_of}
use Rattle.engine.specs.declared.Engine.{Engine}
use Rattle.engine.specs.declared.Outcome.{Outcome}
use Rattle.engine.proofs.Begins.{begins, sheet_taken, looks}
use Rattle.past.specs.Past.{Past, state_after}
use Rattle.past.proofs.Accepted.{idle_of, begin_told_lem}
use Rattle.ranges.specs.Good.{Good}
use Rattle.ranges.proofs.Free.{free_lowest}
use Rattle.ranges.proofs.Gave.{good_past}
use Rattle.histories.specs.Used.{LowestFree, Used, Unseen}
use Rattle.histories.proofs.Rules.Spare.{in_use_locks}

-- what a begin tells is the first row that refuses
outcome_told : (e : Engine) (t : Told) (next : Engine) → (outcome_of e t next).told ≡ t
outcome_told e (Ok _) next = refl
outcome_told e (Err r) next = refl

begin_tells : (e : Engine) (w l : ℕ) (rec : List ℕ) → (begin_of e w l rec).told ≡ begin_told e w l rec
unfolding begin_of
begin_tells e w l rec = outcome_told e (begin_told e w l rec) (taken_of e w l rec)

-- the sheet that an accepted begin takes is the worker's own then
own_taken :
    (e : Engine) → Good e → (w l : ℕ) (rec : List ℕ) → Begins e w l rec → (worker_at (taken_of e w l rec) w).own ≡ free_sheet e
unfolding begun_of
own_taken e g w l rec b =
    let n = g.lengths.worker in
    let seat = b.worker in
    ap (λ (k : Worker). k.own)
    (get_or-set_same e.worker w _ worker0 (omega arith) ∙ looks (worker_at e w) l (free_sheet e) b.idle)

takes_lowest :
    (e : Engine) → Good e → (w l : ℕ) (rec : List ℕ) → begin_told e w l rec ≡ Ok tt →
    LowestFree e (worker_at (begin_of e w l rec).engine w).own
takes_lowest e g w l rec h =
    let b = begins e w l rec h in
    let own = ap (λ (o : Outcome). (worker_at o.engine w).own) (begin_told_lem e w l rec (Ok tt) h) ∙ own_taken e g w l rec b in
    let lowest = free_lowest e g w b.worker (idle_of (worker_at e w) b.idle) in
    subst (LowestFree e) (sym own) (record { sheet = sheet_taken e; free = lowest.0; below = lowest.1 })

pub used : (p : Past) → Used (state_after p)
used p =
    let e = state_after p in
    let g = good_past p in
    let same : used_of (in_use e) sheets ≡ used_of (in_use_of (locks_of e) e.worker) sheets =
    ap (λ (f : ℕ → Bool). used_of f sheets) (λ j s. in_use_locks p s j) in
    let locks : length (locks_of e) ≡ lock_count e =
    length-take-le (lock_count e) e.lock (omega (arith, g.lengths.lock, g.numbers.locks)) in
    let ks = g.lengths.worker in
    let most : (w : ℕ) → w < workers → (worker_at e w).state ≡ Idle → used_of (in_use e) sheets ≤ most_used (lock_count e) workers =
    λ w h i. omega (arith, same, used_most (locks_of e) e.worker worker0 sheets w (omega arith) i, locks, ks) in
    record {
      most = most;
      thirty = refl;
      at_begin =
          λ w l rec h.
          let b = begins e w l rec (sym (begin_tells e w l rec) ∙ h) in
          omega (arith, most w b.worker (idle_of (worker_at e w) b.idle));
      free = λ w h i. let all = g.lengths.lock in room e.lock e.worker worker0 _ w (omega arith) i (omega arith);
      takes = λ w l rec h. takes_lowest e g w l rec (sym (begin_tells e w l rec) ∙ h);
    }

-- begin's rows, of what they look at
rows_of : ℕ → List ℕ → Told → Bool → ℕ → ℕ → List ℕ → Told
rows_of locks guards may worn w l rec =
    refuse_if (leb workers w) NoWorker then
    (may then (refuse_if (leb locks l) NoLock then (job_told rec l guards then refuse_if worn LastTurn)))

begin_sees :
    (e : Engine) (w l : ℕ) (rec : List ℕ) →
    (begin_of e w l rec).told ≡ rows_of (lock_count e) (guards_of (words_of e)) (begin_by_state (worker_at e w)) (worn_of (lock_at e l)) w l rec
unfolding begin_told rows_of
begin_sees e w l rec = begin_tells e w l rec

pub unseen : Unseen
unseen =
    record {
      told =
          λ e e' w l rec locks guards may worn.
          begin_sees e w l rec ∙ (λ i. rows_of (locks i) (guards i) (may i) (worn i) w l rec) ∙ sym (begin_sees e' w l rec);
    }
