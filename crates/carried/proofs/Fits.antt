-- By the rows of each call's order: those that tell a place of a record stand behind the one that bounds its length.
use Rattle.std.specs.Prelude.{Err, Ok}
use Prim.Native.Nat.{ℕ, zero, suc, ◌+◌, ◌*◌, ◌^◌, ◌≤◌, ◌<◌}
use native.Mathlib.Omega.{arith}
use mathlib.Core.Path.{◌≡◌, refl, subst, ap}
use mathlib.Core.Bool.{Bool, true, false}
use mathlib.Core.List.{List, [], ◌∷◌, ◌++◌, append-nil}
use lib.Dec.{eqb, leb, ltb}
use lib.ListN.{length, take, drop, length-take, length-drop, length-append, length-map}
use borrow.Author.Tests.{ltb-false}
use Rattle.arrays.specs.Fresh.{guards_of, values_of, turns_of}
use Rattle.parts.specs.Numbers.{workers, most_locks, most_words, instructions, last_turn}
use Rattle.parts.specs.Parts.{registers0, worn_of}
use Rattle.parts.specs.Pick.{pick, ◌or◌, ◌isnt◌}
use Rattle.parts.specs.Told.{refuse_if, refusal_place, on_told, first_of, FirstAt}
use Rattle.parts.specs.declared.Instr.{Instr}
use Rattle.parts.specs.declared.LockWord.{LockWord}
use Rattle.parts.specs.declared.Refusal.{Refusal}
use Rattle.parts.specs.declared.Refusal.TheVariants.{NoWorker, NoLock, WorkerUnderWay, NotCollected, Length, Kind, Instruction, Guard, LastTurn, WorkerIdle, Range, Buffer, SheetFree, Held, NoWord, CallRecord}
use Rattle.parts.specs.Told.{Told}
use Rattle.parts.proofs.Order.{first_exactly, both_pass, neither, not_isnt}
use Rattle.records.specs.Bytes.{wrong_length, u32s_bytes, kind_field}
use Rattle.records.specs.Job.{forms, job_of, job_told, badly_formed, ends_otherwise, strays_at, no_job_kind, outside_kind, form_order}
use Rattle.records.proofs.Form.{job_count, form_known, formed, job_formed}
use Rattle.records.specs.Setup.{setup_kind, locks_field, words_field, guards_field, turns_field, setup_length, outside}
use Rattle.records.proofs.Fours.{u32s_length, code_length, bytes_length}
use Rattle.engine.specs.Calls.{is_free, write_of, show_told, show_of, park_told, park_of}
use Rattle.engine.specs.State.{lock_at, lock_count, word_count, locks_of, words_of, base_of, program_length, program_of, sheet_record, state_record}
use Rattle.engine.specs.declared.Engine.{Engine}
use Rattle.calls.specs.Record.{last_call, call_with, call_record, record_length, write_order, write_told, recorded_of}
use Rattle.calls.proofs.Laws.{record_size, fits as written}
use Rattle.refusals.specs.Orders.{state_of, is_idle, is_under_way, is_finished, code_rows, begin_rows, plain_rows, step_rows, collect_rows, drop_rows, guard_rows, turn_rows, setup_rows, word_rows, lock_rows, show_rows, is_held, held_rows, park_rows, Given}
use Rattle.there_and_back.proofs.Park.{wrote}
use Rattle.plain.specs.Plain.{plain_told, ran_told, plain_of}
use Rattle.alone.specs.Alone.{alone_of}
use Rattle.alone.proofs.Bounds.{from_executed}
use Rattle.refusals.proofs.Refusals.{exactly}
use Rattle.carried.specs.Fits.{Fits}
use Rattle.alone.specs.declared.Ran.{Ran}
use Rattle.plain.specs.Plain.{ran}
use Rattle.alone.specs.declared.Ran.{Ran}

-- each row that can be the first to refuse tells a place below n
Below : ℕ → List Told → Type 0
Below n [] = Unit {0}
Below n (t ∷ ts) = ((r : Refusal) → t ≡ Err r → refusal_place r < n) × (t ≡ Ok tt → Below n ts)

-- so the refusal that is given tells one
given_below : (n : ℕ) (rows : List Told) (r : Refusal) → Below n rows → Given rows r → refusal_place r < n
unfolding Below
given_below n rows r b (i, h) = go rows b i h
  where
    go : (ts : List Told) → Below n ts → (i : ℕ) → FirstAt ts r i → refusal_place r < n
    go [] b i (k, e, p) = absurd (omega arith)
    go (t ∷ ts) b zero (k, e, p) = b.0 r e
    go (t ∷ ts) b (suc i) (k, e, p) =
        go ts (b.1 (p zero (omega arith))) i (omega arith, e, λ j q. p (suc j) (omega arith))

-- no row; one row, and those after it, which can refuse only where its test does not hold
end : (n : ℕ) → Below n []
unfolding Below
end n = tt

row :
    (n : ℕ) (b : Bool) (r : Refusal) (ts : List Told) → refusal_place r < n → (b ≡ false → Below n ts) →
    Below n (refuse_if b r ∷ ts)
unfolding Below
row n true r ts h k = (
  λ q e. let z : r ≡ q = cc in subst (λ (x : Refusal). refusal_place x < n) z h,
  λ e. let z : ◌≡◌ {A = ℕ} 0 1 = cc in absurd (omega arith),
)
row n false r ts h k = (λ q e. let z : ◌≡◌ {A = ℕ} 0 1 = cc in absurd (omega arith), λ e. k refl)

-- one that is itself an order of rows
told_row :
    (n : ℕ) (t : Told) (ts : List Told) → ((r : Refusal) → t ≡ Err r → refusal_place r < n) → Below n ts →
    Below n (t ∷ ts)
unfolding Below
told_row n t ts h k = (h, λ _. k)

-- the rows of the instructions, of the guards, of the turns and of the locks, before others
code_below :
    (n : ℕ) (is : List Instr) (place l : ℕ) (guards : List ℕ) (ts : List Told) → place + length is ≤ n → Below n ts →
    Below n (code_rows is place l guards ++ ts)
unfolding code_rows refusal_place
code_below n [] place l guards ts h k = k
code_below n (i ∷ is) place l guards ts h k =
    let rest = code_rows is (place + 1) l guards ++ ts in
    row n (badly_formed i (length is) or ends_otherwise i (length is)) (Instruction place)
    (refuse_if (strays_at i l guards) (Guard place) ∷ rest) (omega arith) (λ _.
    row n (strays_at i l guards) (Guard place) rest (omega arith) (λ _.
    code_below n is (place + 1) l guards ts (omega arith) k))

guards_below :
    (n : ℕ) (gs : List ℕ) (locks place : ℕ) (ts : List Told) → place + length gs ≤ n → Below n ts →
    Below n (guard_rows gs locks place ++ ts)
unfolding guard_rows refusal_place
guards_below n [] locks place ts h k = k
guards_below n (g ∷ gs) locks place ts h k =
    row n (leb locks g) (Range place) _ (omega arith) (λ _. guards_below n gs locks (place + 1) ts (omega arith) k)

turns_below : (n : ℕ) (ts : List ℕ) (place : ℕ) → place + 4 * length ts ≤ n → Below n (turn_rows ts place)
unfolding turn_rows refusal_place
turns_below n [] place h = end n
turns_below n (t ∷ ts) place h =
    row n (ltb last_turn t) (Range place) _ (omega arith) (λ _. turns_below n ts (place + 4) (omega arith))

held_below :
    (n : ℕ) (ls : List LockWord) (at : ℕ) (ts : List Told) → at + length ls ≤ n → Below n ts → Below n (held_rows ls at ++ ts)
unfolding held_rows refusal_place
held_below n [] at ts h k = k
held_below n (l ∷ ls) at ts h k =
    row n (is_held l) (Held at) _ (omega arith) (λ _. held_below n ls (at + 1) ts (omega arith) k)

-- the first n elements are at most n
most : {A : Type 0} (n : ℕ) (l : List A) → length (take n l) ≤ n
most n l = omega (arith, length-take n l)

-- a record that passed the rows on a job's kind and length has a job of at most so many instructions
job_most :
    (rec : List ℕ) → no_job_kind forms (kind_field rec) ≡ false → outside_kind forms (kind_field rec) (length rec) ≡ false →
    length (job_of rec) ≤ instructions
job_most rec a b = (form_known (kind_field rec) (length rec) (length (job_of rec)) (job_count rec) a b).2

begin_below : (e : Engine) (w l : ℕ) (rec : List ℕ) → Below (2 ^ 32) (begin_rows e w l rec)
unfolding refusal_place
begin_below e w l rec =
    row (2 ^ 32) (leb workers w) NoWorker _ (omega arith) (λ _.
    row (2 ^ 32) (is_under_way (state_of e w)) WorkerUnderWay _ (omega arith) (λ _.
    row (2 ^ 32) (is_finished (state_of e w)) NotCollected _ (omega arith) (λ _.
    row (2 ^ 32) (leb (lock_count e) l) NoLock _ (omega arith) (λ _.
    row (2 ^ 32) (wrong_length rec) Length _ (omega arith) (λ _.
    row (2 ^ 32) (no_job_kind forms (kind_field rec)) Kind _ (omega arith) (λ k.
    row (2 ^ 32) (outside_kind forms (kind_field rec) (length rec)) Length _ (omega arith) (λ h.
    code_below (2 ^ 32) (job_of rec) 0 l (guards_of (words_of e)) _ (omega (arith, job_most rec k h)) (
    row (2 ^ 32) (worn_of (lock_at e l)) LastTurn _ (omega arith) (λ _.
    end (2 ^ 32))))))))))

setup_below : (rec : List ℕ) → Below (2 ^ 32) (setup_rows rec)
unfolding refusal_place
setup_below rec =
    row (2 ^ 32) (wrong_length rec) Length _ (omega arith) (λ _.
    row (2 ^ 32) (kind_field rec isnt setup_kind) Kind _ (omega arith) (λ _.
    row (2 ^ 32) (ltb (length rec) 6) Length _ (omega arith) (λ _.
    row (2 ^ 32) (outside most_locks (locks_field rec)) (Range 4) _ (omega arith) (λ h.
    row (2 ^ 32) (outside most_words (words_field rec)) (Range 5) _ (omega arith) (λ k.
    row (2 ^ 32) (length rec isnt setup_length (locks_field rec) (words_field rec)) Length _ (omega arith) (λ q.
    last h k q))))))
  where
    last :
        outside most_locks (locks_field rec) ≡ false → outside most_words (words_field rec) ≡ false →
        (length rec isnt setup_length (locks_field rec) (words_field rec)) ≡ false →
        Below (2 ^ 32)
        (guard_rows (guards_field rec) (locks_field rec) 6 ++ turn_rows (turns_field rec) (6 + 5 * words_field rec))
    last h k q =
        let l : locks_field rec ≤ most_locks = ltb-false most_locks (locks_field rec) (neither (ltb (locks_field rec) 1) _ h).1 in
        let w : words_field rec ≤ most_words = ltb-false most_words (words_field rec) (neither (ltb (words_field rec) 1) _ k).1 in
        let all = not_isnt (length rec) (setup_length (locks_field rec) (words_field rec)) q in
        let rest = drop (6 + 5 * words_field rec) rec in
        guards_below (2 ^ 32) (guards_field rec) (locks_field rec) 6 _ (omega (arith, most (words_field rec) (drop 6 rec)))
        (turns_below (2 ^ 32) (turns_field rec) (6 + 5 * words_field rec)
        (omega (arith, u32s_length rest, length-drop (6 + 5 * words_field rec) rec)))

park_below : (e : Engine) (room : ℕ) → Below (2 ^ 32) (park_rows e room)
unfolding refusal_place
park_below e room =
    row (2 ^ 32) (eqb (lock_count e) 0) (Range 4) _ (omega arith) (λ _.
    held_below (2 ^ 32) (locks_of e) 0 _ (omega (arith, most (lock_count e) e.lock)) (
    row (2 ^ 32) (ltb room (setup_length (lock_count e) (word_count e))) Buffer _ (omega arith) (λ _.
    end (2 ^ 32))))

-- of rows that tell no place, the refusal that is given tells none
none : (rows : List Told) (r : Refusal) → Below 1 rows → Given rows r → refusal_place r ≡ 0
none rows r b g = omega (arith, given_below 1 rows r b g)

-- the plain engine: its rows; and a job executes no more instructions than it has
plain_below : (values guards : List ℕ) (l : ℕ) (rec : List ℕ) → Below (2 ^ 32) (plain_rows values guards l rec ++ [])
unfolding refusal_place
plain_below values guards l rec =
    row (2 ^ 32) (length values isnt length guards or ltb most_words (length values)) NoWord _ (omega arith) (λ _.
    row (2 ^ 32) (wrong_length rec) Length _ (omega arith) (λ _.
    row (2 ^ 32) (no_job_kind forms (kind_field rec)) Kind _ (omega arith) (λ k.
    row (2 ^ 32) (outside_kind forms (kind_field rec) (length rec)) Length _ (omega arith) (λ h.
    code_below (2 ^ 32) (job_of rec) 0 l guards [] (omega (arith, job_most rec k h)) (end (2 ^ 32))))))

plain_taken :
    (values guards : List ℕ) (l : ℕ) (rec : List ℕ) (said : Bool) (n : ℕ) (t : Told) → plain_told values guards l rec ≡ t →
    on_told t (ran_told (alone_of (job_of rec) values)) (λ r. Err r) ≡ Ok (ran said n) →
    (job_told rec l guards ≡ Ok tt) × (n ≡ (alone_of (job_of rec) values).executed)
unfolding plain_told
plain_taken values guards l rec said n (Ok _) e h =
    ((both_pass (refuse_if (length values isnt length guards or ltb most_words (length values)) NoWord) (job_told rec l guards) e).1, ap (λ (x : Ran). x.executed) same)
  where
    same : ran said n ≡ ran (alone_of (job_of rec) values).yes (alone_of (job_of rec) values).executed
    same = cc
plain_taken values guards l rec said n (Err r) e h = let z : ◌≡◌ {A = ℕ} 0 1 = cc in absurd (omega arith)

executed_most :
    (values guards : List ℕ) (l : ℕ) (rec : List ℕ) (said : Bool) (n : ℕ) → plain_of values guards l rec ≡ Ok (ran said n) → n ≤ instructions
unfolding plain_of
executed_most values guards l rec said n h =
    let taken = plain_taken values guards l rec said n (plain_told values guards l rec) refl h in
    let most = (job_formed rec l guards taken.0).most in
    omega (arith, taken.1, (from_executed zero (job_of rec) registers0 values 0).1)

-- the records that show and park write: at most 260 and 390 bytes
show_size : (e : Engine) (s : ℕ) → length (sheet_record e s) ≤ 4 + 4 * instructions
show_size e s =
    omega (arith, code_length (program_of e s), most (program_length e s) (drop (base_of s) e.program))

park_size : (e : Engine) → length (state_record e) ≤ setup_length most_locks most_words
park_size e =
    let words = words_of e in
    let locks = locks_of e in
    let guards = guards_of words in
    let values = u32s_bytes (values_of words) in
    let turns = u32s_bytes (turns_of locks) in
    let g : length guards ≡ length words = length-map words (λ w. w.guard) in
    let v : length values ≡ 4 * length words = omega (arith, bytes_length (values_of words), length-map words (λ w. w.value)) in
    let t : length turns ≡ 4 * length locks = omega (arith, bytes_length (turns_of locks), length-map locks (λ l. l.turn)) in
    omega (
      arith,
      length-append (guards ++ values) turns,
      length-append guards values,
      most (word_count e) e.word,
      most (lock_count e) e.lock,
    )

-- the rows that step, collect and drop begin with
worker_below :
    (e : Engine) (w : ℕ) (ts : List Told) → Below 1 ts →
    Below 1 (refuse_if (leb workers w) NoWorker ∷ refuse_if (is_idle (state_of e w)) WorkerIdle ∷ ts)
unfolding refusal_place
worker_below e w ts k =
    row 1 (leb workers w) NoWorker _ (omega arith) (λ _.
    row 1 (is_idle (state_of e w)) WorkerIdle ts (omega arith) (λ _. k))

-- one row that tells no place
one_below : (b : Bool) (r : Refusal) → refusal_place r < 1 → Below 1 (refuse_if b r ∷ [])
one_below b r h = row 1 b r [] h (λ _. end 1)

-- the rows of the writer of a call's record: for a begin, those of its job record's form
form_below : (rec : List ℕ) → Below 1 (form_order forms rec)
unfolding refusal_place
form_below rec =
    row 1 (wrong_length rec) Length _ (omega arith) (λ _.
    row 1 (no_job_kind forms (kind_field rec)) Kind _ (omega arith) (λ _.
    one_below (outside_kind forms (kind_field rec) (length rec)) Length (omega arith)))

record_below : (call : ℕ) (rec : List ℕ) (room : ℕ) → Below 1 (write_order call rec room)
unfolding refusal_place
record_below call rec room =
    row 1 (ltb last_call call) CallRecord _ (omega arith) (λ _.
    told_row 1 (pick (eqb call 0) (first_of (form_order forms rec)) (Ok tt)) _ (form (eqb call 0))
    (one_below (ltb room (record_length call rec)) Buffer (omega arith)))
  where
    form : (b : Bool) (r : Refusal) → pick b (first_of (form_order forms rec)) (Ok tt) ≡ Err r → refusal_place r < 1
    form true r h = given_below 1 (form_order forms rec) r (form_below rec) ((first_exactly (form_order forms rec) r).0 h)
    form false r h = let z : ◌≡◌ {A = ℕ} 0 1 = cc in absurd (omega arith)

-- a writer that tells a refusal was refused so
write_refused : (told : Told) (bytes : List ℕ) (r : Refusal) → write_of told bytes ≡ Err r → told ≡ Err r
write_refused (Ok _) bytes r h = let z : ◌≡◌ {A = ℕ} 0 1 = cc in absurd (omega arith)
write_refused (Err q) bytes r h = cc

-- the record of a call: at most 264 bytes
call_size :
    (call w l : ℕ) (rec : List ℕ) (room : ℕ) → write_told call rec room ≡ Ok tt →
    length (call_record (call_with call w l rec)) ≤ 8 + 4 * instructions
unfolding call_with call_record
call_size zero w l rec room h =
    let f = formed rec ((written zero rec room h).form refl) in
    omega (arith, record_size 0 w l (drop 4 rec), length-drop 4 rec, f.size, f.most)
call_size (suc zero) w l rec room h = omega (arith, record_size 1 w 0 [])
call_size (suc (suc zero)) w l rec room h = omega (arith, record_size 2 w 0 [])
call_size (suc (suc (suc zero))) w l rec room h = omega (arith, record_size 3 w 0 [])
call_size (suc (suc (suc (suc n)))) w l rec room h = absurd (omega (arith, (written (suc (suc (suc (suc n)))) rec room h).most))

pub fits : Fits
unfolding show_of park_of recorded_of write_told refusal_place
fits =
    record {
      begin =
          λ e w l rec r h.
          given_below (2 ^ 32) (begin_rows e w l rec) r (begin_below e w l rec) (((exactly r).begin e w l rec).0 h);
      setup = λ rec r h. given_below (2 ^ 32) (setup_rows rec) r (setup_below rec) (((exactly r).setup rec).0 h);
      park = λ e room r h. given_below (2 ^ 32) (park_rows e room) r (park_below e room) (((exactly r).park e room).0 h);
      plain =
          λ values guards l rec r h.
          let rows = plain_rows values guards l rec in
          given_below (2 ^ 32) rows r (subst (Below (2 ^ 32)) (append-nil rows) (plain_below values guards l rec))
          (((exactly r).plain values guards l rec).0 h);
      executed = λ values guards l rec said n h. omega (arith, executed_most values guards l rec said n h);
      step =
          λ e w r h.
          none (step_rows e w) r (worker_below e w _ (one_below (is_finished (state_of e w)) NotCollected (omega arith)))
          (((exactly r).step e w).0 h);
      collect =
          λ e w r h.
          none (collect_rows e w) r (worker_below e w _ (one_below (is_under_way (state_of e w)) WorkerUnderWay (omega arith)))
          (((exactly r).collect e w).0 h);
      drop = λ e w r h. none (drop_rows e w) r (worker_below e w [] (end 1)) (((exactly r).drop e w).0 h);
      read_word =
          λ e i r h.
          none (word_rows e i) r (one_below (leb (word_count e) i) NoWord (omega arith)) (((exactly r).read_word e i).0 h);
      read_lock =
          λ e l r h.
          none (lock_rows e l) r (one_below (leb (lock_count e) l) NoLock (omega arith)) (((exactly r).read_lock e l).0 h);
      show =
          λ e s room r h.
          none (show_rows e s room) r
          (row 1 (is_free e s) SheetFree _ (omega arith)
          (λ _. one_below (ltb room (4 + 4 * program_length e s)) Buffer (omega arith)))
          (((exactly r).show e s room).0 h);
      no_record =
          λ call w l rec room r h.
          let order = write_order call rec room in
          let refused = write_refused (write_told call rec room) (call_record (call_with call w l rec)) r h in
          none order r (record_below call rec room) ((first_exactly order r).0 refused);
      shown = λ e s room n h. omega (arith, (wrote (show_told e s room) (sheet_record e s) n h).1, show_size e s);
      parked = λ e room n h. omega (arith, (wrote (park_told e room) (state_record e) n h).1, park_size e);
      recorded =
          λ call w l rec room n h.
          let told = wrote (write_told call rec room) (call_record (call_with call w l rec)) n h in
          omega (arith, told.1, call_size call w l rec room told.0);
    }
