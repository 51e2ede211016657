-- By what lent calls tell (`carried`) and the table of the calls by value (tables): lists of 12,868 numbers are not computed.
use Rattle.std.specs.Prelude.{Err, None, Ok, Result, Some}
use Prim.Native.Nat.{ℕ, ◌-◌, ◌%◌, ◌^◌, ◌≤◌}
use native.Mathlib.Omega.{arith}
use mathlib.Core.Path.{◌≡◌, refl, ap, ◌∙◌}
use mathlib.Core.List.{List, [], ◌∷◌, ◌++◌}
use lib.ListN.{length, length-replicate}
use Rattle.parts.specs.Told.{refusal_number, refusal_place}
use Rattle.parts.specs.declared.Refusal.TheVariants.{WorkerUnderWay, WorkerIdle}
use Rattle.parts.specs.Told.{Told}
use Rattle.cells.specs.Layout.{numbers}
use Rattle.engine.specs.Calls.{begin_of, collect_of}
use Rattle.door.specs.Calls.{begin_reply}
use Rattle.door.specs.Door.{refusal_reply, told_fields, collected_fields, word_fields, lock_fields}
use Rattle.past.specs.Past.{Call, Begin, Step, Drop, AllRecords, after_all, steps}
use Rattle.refusals.specs.Orders.{Refuses}
use Rattle.tables.specs.Table.{setup_s, job_a, job_skipping, fresh, on, Answers, End, Ends, Stands, calls_c, calls_d, calls_e, calls_g, calls_h}
use Rattle.tables.proofs.Bytes.{setup_bytes_lem, job_bytes_lem, job_b_bytes}
use Rattle.histories.proofs.Rules.Records.{both_records, steps_records}
use Rattle.there_and_back.proofs.Exhibit.{past, premises_met}
use Rattle.tables.proofs.Table.{table}
use Rattle.carried.specs.Carried.{Tells}
use Rattle.carried.specs.Shown.{zeros, lent_on, refused_by, LentStands, LentEnds, LentTable}
use Rattle.carried.proofs.Carried.{past_tells, tells}
use Rattle.engine.specs.declared.Answered.{Answered}
use Rattle.parts.specs.declared.LockWord.{LockWord}
use Rattle.parts.specs.declared.Refusal.{Refusal}
use Rattle.parts.specs.declared.Word.{Word}

pub wide : numbers ≤ length zeros
unfolding zeros
wide = omega (arith, length-replicate {A = ℕ} numbers 0)

-- what is told on the numbers after a lent setup of S and these calls
tells_on : (calls : List Call) → AllRecords calls → Tells (lent_on calls) (on calls)
unfolding fresh
tells_on calls b = past_tells zeros (record { setup = setup_s; calls = calls; setup_bytes = setup_bytes_lem; calls_bytes = b }) wide

-- a begin of worker 0 on S
begin_on :
    (l : ℕ) (rec : List ℕ) (t : Told) → (begin_of fresh 0 l rec).told ≡ t → begin_reply (lent_on []) 0 l rec ≡ told_fields t
unfolding AllRecords after_all
begin_on l rec t h = (tells_on [] tt).begin 0 l rec ∙ ap (λ (t : Told). told_fields t) h

begun : (begin_of fresh 0 0 job_a).told ≡ Ok tt
unfolding fresh after_all past
begun = premises_met.begun

-- in the fields of the C interface
answered_lem :
    (t : Result Answered Refusal) (answer steps filled : ℕ) → Answers t answer steps filled →
    collected_fields t ≡ record { number = 0; place = 0; answer = answer; steps = steps; filled = filled }
answered_lem (Ok _) answer steps filled h =
    λ i. record { number = 0; place = 0; answer = h.0 i; steps = h.1 i; filled = h.2 i }
answered_lem (Err r) answer steps filled h = absurd h

under_way_lem : (t : Result Answered Refusal) → t ≡ Err WorkerUnderWay → collected_fields t ≡ refused_by 3
unfolding refusal_reply refusal_number refusal_place
under_way_lem t h = ap (λ (t : Result Answered Refusal). collected_fields t) h

idle : (t : Result Answered Refusal) → t ≡ Err WorkerIdle → collected_fields t ≡ refused_by 11
unfolding refusal_reply refusal_number refusal_place
idle t h = ap (λ (t : Result Answered Refusal). collected_fields t) h

refuses : (t : Told) (number place : ℕ) → place % 2 ^ 32 ≡ place → Refuses t number place → told_fields t ≡ record { number = number; place = place }
unfolding refusal_reply
refuses (Ok _) number place m h = absurd h
refuses (Err r) number place m (p, q) = λ i. record { number = p i; place = (ap (λ (n : ℕ). n % 2 ^ 32) q ∙ m) i }

free_stands :
    (calls : List Call) (value count turn : ℕ) → AllRecords calls → Stands (on calls) value count turn None →
    LentStands (lent_on calls) value count turn 0 0
free_stands calls value count turn b h =
    let t = tells_on calls b in
    record {
      word = t.read_word 0 ∙ ap (λ (x : Result Word Refusal). word_fields x) h.word;
      lock = t.read_lock 0 ∙ ap (λ (x : Result LockWord Refusal). lock_fields x) h.lock;
    }

held_stands :
    (calls : List Call) (value count turn sheet : ℕ) → AllRecords calls → Stands (on calls) value count turn (Some sheet) →
    LentStands (lent_on calls) value count turn 1 sheet
held_stands calls value count turn sheet b h =
    let t = tells_on calls b in
    record {
      word = t.read_word 0 ∙ ap (λ (x : Result Word Refusal). word_fields x) h.word;
      lock = t.read_lock 0 ∙ ap (λ (x : Result LockWord Refusal). lock_fields x) h.lock;
    }

ends : (calls : List Call) (w : ℕ) (end : End) → AllRecords calls → Ends calls w end → LentEnds calls w end
ends calls w end b h =
    let before = both_records calls (steps (end.more - 1) w) b (steps_records (end.more - 1) w) in
    let last = both_records calls (steps end.more w) b (steps_records end.more w) in
    record {
      before = (tells_on (calls ++ steps (end.more - 1) w) before).collect w ∙ under_way_lem _ h.before;
      told = (tells_on (calls ++ steps end.more w) last).collect w ∙ answered_lem (collect_of (on (calls ++ steps end.more w)) w).told end.answer end.steps end.filled h.told;
      left = free_stands (calls ++ steps end.more w) end.value end.count end.turn last h.left;
    }

pub lent_table : LentTable
unfolding AllRecords calls_c calls_d calls_e calls_g calls_h
lent_table =
    record {
      s = (tells zeros wide).setup setup_s ∙ ap (λ (t : Told). told_fields t) table.s;
      begun = begin_on 0 job_a (Ok tt) begun;
      a = ends _ 0 _ (job_bytes_lem, tt) table.a;
      b = ends _ 0 _ (job_b_bytes, tt) table.b;
      c = (
        held_stands calls_c 5 0 1 0 (job_bytes_lem, tt) table.c.0,
        (tells_on calls_c (job_bytes_lem, tt)).collect 0 ∙ idle _ table.c.1,
      );
      d = ends calls_d 1 _ (job_bytes_lem, (job_b_bytes, tt)) table.d;
      e = (
        ends calls_e 1 _ (job_bytes_lem, (job_b_bytes, tt)) table.e.0,
        ends (calls_e ++ steps 11 1) 0 _ (job_bytes_lem, (job_b_bytes, tt)) table.e.1,
      );
      f = (
        (tells_on (Begin 0 0 job_a ∷ Step 0 ∷ []) (job_bytes_lem, tt)).collect 0 ∙ under_way_lem _ table.f.0,
        free_stands (Begin 0 0 job_a ∷ Step 0 ∷ Drop 0 ∷ []) 5 0 0 (job_bytes_lem, tt) table.f.1,
        (tells_on (Begin 0 0 job_a ∷ Step 0 ∷ Drop 0 ∷ []) (job_bytes_lem, tt)).collect 0 ∙ idle _ table.f.2,
      );
      g = ends calls_g 1 _ (job_bytes_lem, (job_b_bytes, tt)) table.g;
      h = (
        ends calls_h 1 _ (job_bytes_lem, (job_b_bytes, tt)) table.h.0,
        ends (calls_h ++ steps 11 1) 0 _ (job_bytes_lem, (job_b_bytes, tt)) table.h.1,
      );
      i = begin_on 0 (job_skipping 2) _ refl ∙ refuses (begin_of fresh 0 0 (job_skipping 2)).told 7 2 refl table.i.told;
      j = begin_on 1 job_a _ refl ∙ refuses (begin_of fresh 0 1 job_a).told 8 0 refl table.j.told;
    }
