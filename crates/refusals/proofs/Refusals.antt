-- Demand 1: each refusal is given exactly when its row refuses and every row before it accepts, and it changes nothing; a worker
-- that isn't idle can't begin; and a call has one outcome.
use Rattle.std.specs.Prelude.{Err, Ok}
use Prim.Native.Nat.{ℕ}
use mathlib.Core.Path.{◌≡◌, refl, ◌∙◌, sym, ap}
use mathlib.Core.List.{List}
use mathlib.Core.Logic.{◌↔◌}
use native.Mathlib.Omega.{arith}
use lib.ListN.{length}
use Rattle.parts.specs.Numbers.{workers}
use Rattle.parts.specs.Told.{on_told, first_of, refusal_number, refusal_place}
use Rattle.parts.specs.declared.Answer.{Answer}
use Rattle.parts.specs.declared.Refusal.{Refusal}
use Rattle.parts.specs.declared.Refusal.TheVariants.{WorkerUnderWay, NotCollected}
use Rattle.parts.specs.Told.{Told}
use Rattle.parts.proofs.Order.{first_exactly}
use Rattle.records.specs.Job.{job_of}
use Rattle.records.specs.Setup.{setup_told}
use Rattle.alone.specs.Alone.{alone_of}
use Rattle.plain.specs.Plain.{plain_told, ran_told, plain_of, plain_left}
use Rattle.steps.specs.Worker as worker
use Rattle.engine.specs.Calls.{outcome_of, setup_of, begin_of, begin_told, step_of, step_told, collect_of, collect_told, drop_of, drop_told, read_word_of, read_lock_of, write_of, buffer_of, show_of, show_told, shown_of, park_of, park_told, parked_of}
use Rattle.engine.specs.State.{blank_of, word_at, lock_at, sheet_record, state_record}
use Rattle.engine.specs.Calls.{Collected}
use Rattle.engine.specs.declared.Engine.{Engine}
use Rattle.refusals.specs.Orders.{begin_rows, plain_rows, step_rows, collect_rows, drop_rows, setup_rows, word_rows, lock_rows, show_rows, park_rows, Busy, Given, Exactly, Kept, Refusing}
use borrow.Author.Tests.{lt-leb}
use Rattle.refusals.proofs.Rows.{begin_rows_lem, plain_rows_lem, step_rows_lem, collect_rows_lem, drop_rows_lem, setup_rows_lem, show_rows_lem, park_rows_lem}
use Rattle.engine.specs.Calls.{answered}

-- what is told by a call whose told is the first of its rows that refuses
by_rows : (told : Told) (rows : List Told) (r : Refusal) → told ≡ first_of rows → told ≡ Err r ↔ Given rows r
by_rows told rows r h = (λ k. (first_exactly rows r).0 (sym h ∙ k), λ g. h ∙ (first_exactly rows r).1 g)

-- begin, step, drop and setup: the told and the state of their outcome
outcome_told : (e : Engine) (t : Told) (next : Engine) → (outcome_of e t next).told ≡ t
outcome_told e (Ok _) next = refl
outcome_told e (Err r) next = refl

outcome_kept :
    (e : Engine) (t : Told) (next : Engine) (r : Refusal) →
    (outcome_of e t next).told ≡ Err r → (outcome_of e t next).engine ≡ e
outcome_kept e (Ok _) next r h = let z : ◌≡◌ {A = ℕ} 0 1 = cc in absurd (omega arith)
outcome_kept e (Err s) next r h = refl

-- the others tell a value, or a refusal of their own enum: `same` and `apart` say that the refusal is told by it
module _ {A : Type 0} (refused : Refusal → A) (same : (s r : Refusal) → refused s ≡ refused r → s ≡ r) where
  told_refused :
      (t : Told) (value : A) (r : Refusal) → ((s : Refusal) → value ≡ refused s → ⊥) →
      on_told t value refused ≡ refused r ↔ (t ≡ Err r)
  told_refused (Ok _) value r apart =
      (λ h. absurd (apart r h), λ h. let z : ◌≡◌ {A = ℕ} 0 1 = cc in absurd (omega arith))
  told_refused (Err s) value r apart = (λ h. ap Err (same s r h), λ h. let q : s ≡ r = cc in ap refused q)

  by_told :
      (t : Told) (value : A) (rows : List Told) (r : Refusal) → ((s : Refusal) → value ≡ refused s → ⊥) → t ≡ first_of rows →
      on_told t value refused ≡ refused r ↔ Given rows r
  by_told t value rows r apart h =
      let there = told_refused t value r apart in
      let back = by_rows t rows r h in
      (λ k. back.0 (there.0 k), λ g. there.1 (back.1 g))

-- collect's outcome: what it tells, and its state
abbrev collected_of : Engine → Told → Engine → Answer → ℕ → ℕ → Collected
collected_of e t next answer n m =
    on_told t (record { engine = next; told = Ok (answered answer n m) })
    (λ r. record { engine = e; told = Err r })

collected_told :
    (e : Engine) (t : Told) (next : Engine) (answer : Answer) (n m : ℕ) →
    (collected_of e t next answer n m).told ≡ on_told t (Ok (answered answer n m)) Err
collected_told e (Ok _) next answer n m = refl
collected_told e (Err r) next answer n m = refl

collected_kept :
    (e : Engine) (t : Told) (next : Engine) (answer : Answer) (n m : ℕ) (r : Refusal) →
    (collected_of e t next answer n m).told ≡ Err r → (collected_of e t next answer n m).engine ≡ e
collected_kept e (Ok _) next answer n m r h = let z : ◌≡◌ {A = ℕ} 0 1 = cc in absurd (omega arith)
collected_kept e (Err s) next answer n m r h = refl

collected_exactly :
    (e : Engine) (t : Told) (next : Engine) (answer : Answer) (n m : ℕ) (rows : List Told) (r : Refusal) → t ≡ first_of rows →
    (collected_of e t next answer n m).told ≡ Err r ↔ Given rows r
collected_exactly e t next answer n m rows r h =
    let same = collected_told e t next answer n m in
    let told = by_told Err (λ s q k. cc) t (Ok (answered answer n m)) rows r
    (λ s k. let z : ◌≡◌ {A = ℕ} 0 1 = cc in absurd (omega arith)) h in
    (λ k. told.0 (sym same ∙ k), λ g. same ∙ told.1 g)

-- the writers tell how many bytes, or a refusal; refused, they leave the buffer
write_exactly :
    (t : Told) (bytes : List ℕ) (rows : List Told) (r : Refusal) → t ≡ first_of rows →
    write_of t bytes ≡ Err r ↔ Given rows r
write_exactly t bytes rows r h =
    by_told Err (λ s q k. cc) t (Ok (length bytes)) rows r
    (λ s k. let z : ◌≡◌ {A = ℕ} 0 1 = cc in absurd (omega arith)) h

write_kept :
    (t : Told) (bytes buf : List ℕ) (r : Refusal) → write_of t bytes ≡ Err r → buffer_of t bytes buf ≡ buf
write_kept (Ok _) bytes buf r h = let z : ◌≡◌ {A = ℕ} 0 1 = cc in absurd (omega arith)
write_kept (Err s) bytes buf r h = refl

-- the plain engine, by what was told of its tables and its record
plain_kept :
    (values guards : List ℕ) (l : ℕ) (rec : List ℕ) (t : Told) (r : Refusal) →
    on_told t (ran_told (alone_of (job_of rec) values)) (λ q. Err q) ≡ Err r →
    on_told t (alone_of (job_of rec) values).words (λ q. values) ≡ values
plain_kept values guards l rec (Ok _) r h = let z : ◌≡◌ {A = ℕ} 0 1 = cc in absurd (omega arith)
plain_kept values guards l rec (Err s) r h = refl

-- each refusal of each call is given exactly when its row is the first that refuses
pub exactly : (r : Refusal) → Exactly r
unfolding begin_of step_of collect_of drop_of setup_of read_word_of read_lock_of show_of park_of plain_of
exactly r =
    record {
      begin = λ e w l rec. by_rows _ (begin_rows e w l rec) r (outcome_told e _ _ ∙ begin_rows_lem e w l rec);
      step = λ e w. by_rows _ (step_rows e w) r (outcome_told e _ _ ∙ step_rows_lem e w);
      collect = λ e w. collected_exactly e (collect_told e w) _ _ _ _ (collect_rows e w) r (collect_rows_lem e w);
      drop = λ e w. by_rows _ (drop_rows e w) r (outcome_told e _ _ ∙ drop_rows_lem e w);
      setup = λ rec. by_rows _ (setup_rows rec) r (outcome_told blank_of _ _ ∙ setup_rows_lem rec);
      read_word =
          λ e i.
          by_told Err (λ s q h. cc) _ (Ok (word_at e i)) (word_rows e i) r
          (λ s h. let z : ◌≡◌ {A = ℕ} 0 1 = cc in absurd (omega arith)) refl;
      read_lock =
          λ e l.
          by_told Err (λ s q h. cc) _ (Ok (lock_at e l)) (lock_rows e l) r
          (λ s h. let z : ◌≡◌ {A = ℕ} 0 1 = cc in absurd (omega arith)) refl;
      show = λ e s room. write_exactly _ (sheet_record e s) (show_rows e s room) r (show_rows_lem e s room);
      park = λ e room. write_exactly _ (state_record e) (park_rows e room) r (park_rows_lem e room);
      plain =
          λ values guards l rec.
          by_told Err (λ s q h. cc) _ (ran_told (alone_of (job_of rec) values)) (plain_rows values guards l rec) r
          (λ s h. let z : ◌≡◌ {A = ℕ} 0 1 = cc in absurd (omega arith)) (plain_rows_lem values guards l rec);
    }

-- a refused call gives back the state and the buffer as they came; a refused setup the blank state
pub refused_state : (r : Refusal) → Kept r
unfolding begin_of step_of drop_of setup_of collect_of show_of park_of shown_of parked_of plain_of plain_left
refused_state r =
    record {
      begin = λ e w l rec h. outcome_kept e (begin_told e w l rec) _ r h;
      step = λ e w h. outcome_kept e (step_told e w) _ r h;
      collect = λ e w h. collected_kept e (collect_told e w) _ _ _ _ r h;
      drop = λ e w h. outcome_kept e (drop_told e w) _ r h;
      setup = λ rec h. outcome_kept blank_of (setup_told rec) _ r h;
      show = λ e s buf h. write_kept (show_told e s (length buf)) (sheet_record e s) buf r h;
      park = λ e buf h. write_kept (park_told e (length buf)) (state_record e) buf r h;
      plain = λ values guards l rec h. plain_kept values guards l rec (plain_told values guards l rec) r h;
    }

-- an outcome that is refused with r
outcome_refusing :
    (e : Engine) (t : Told) (next : Engine) (r : Refusal) →
    t ≡ Err r → Refusing e (outcome_of e t next) (refusal_number r) (refusal_place r)
outcome_refusing e (Ok _) next r h = let z : ◌≡◌ {A = ℕ} 0 1 = cc in absurd (omega arith)
outcome_refusing e (Err s) next r h =
    let q : s ≡ r = cc in
    record { told = (ap refusal_number q, ap refusal_place q); state = refl }

-- a worker that isn't idle can't begin
pub busy : Busy
unfolding begin_of begin_told worker.begin_by_state refusal_number refusal_place
busy =
    record {
      under_way = λ e w l rec p h k. outcome_refusing e (begin_told e w l rec) _ WorkerUnderWay (simp (lt-leb workers w h, k));
      finished = λ e w l rec x h k. outcome_refusing e (begin_told e w l rec) _ NotCollected (simp (lt-leb workers w h, k));
    }
