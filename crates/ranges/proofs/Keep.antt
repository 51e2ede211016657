-- Every call keeps `Good`: the blank state has it, and each call gives a state that has it.
use Rattle.std.specs.Prelude.{Ok}
use Prim.Native.Nat.{ℕ, ◌≤◌}
use native.Mathlib.Omega.{arith}
use mathlib.Core.Path.{◌≡◌, refl, ◌∙◌, subst}
use mathlib.Core.List.{List}
use mathlib.Core.Logic.{inl, inr}
use lib.ListN.{replicate, length-set, length-replicate}
use Rattle.parts.specs.Lay.{lay}
use Rattle.parts.specs.Numbers.{workers, most_locks, most_words, sheets, instructions, entries}
use Rattle.parts.specs.Parts.{instr0, entry0, lock0, word0}
use Rattle.parts.specs.Told.{Told}
use Rattle.parts.proofs.Lay.{length-lay}
use Rattle.records.specs.Bytes.{AllBytes}
use Rattle.records.specs.Job.{job_of}
use Rattle.records.specs.Setup.{locks_field, setup_told}
use Rattle.records.proofs.One.{setup_sized}
use Rattle.steps.specs.Try.{effect_of}
use Rattle.steps.specs.Worker.{worker0, looking_of, began_of, collected_of, dropped_of}
use Rattle.steps.specs.declared.Point.{Point}
use Rattle.steps.specs.declared.State.TheVariants.{UnderWay}
use Rattle.steps.specs.declared.Worker.{Worker}
use Rattle.engine.specs.State.{sheet0, blank_of, worker_at, free_sheet, base_of, with_worker}
use Rattle.engine.specs.Step.{places_of, view_at, put_at, stepped_of}
use Rattle.engine.specs.Calls.{outcome_of, fresh_of, setup_of, begun_of, begin_told, begin_of, step_told, onward_of, step_of, collect_told, collect_of, drop_told, drop_of}
use Rattle.engine.specs.Inner.{Begins}
use Rattle.engine.specs.Calls.{Collected}
use Rattle.engine.specs.declared.Engine.{Engine}
use Rattle.engine.specs.declared.Outcome.{Outcome}
use Rattle.ranges.specs.Good.{GoodPoint, GoodState, GoodLock, GoodWord, GoodInstr, GoodEntry, GoodSheet, GoodWorker, Good}
use Rattle.ranges.proofs.Frame.{set_all, lay_all, replicate_all, state_all, told_all}
use Rattle.ranges.proofs.Effect.{GoodView, effect_good}
use Rattle.engine.proofs.Begins.{begins, job_size, sheet_taken}
use Rattle.ranges.proofs.Taken.{job_good, instr0_good, word0_good, lock0_good, setup_words, setup_locks}

-- what the arrays have at the start
idle_good : (L : ℕ) → GoodWorker L worker0
idle_good L = record { lock = omega arith; own = omega arith; steps = omega arith; filled = omega arith; state = tt }

sheet0_good : GoodSheet sheet0
sheet0_good = omega arith

entry0_good : GoodEntry entry0
entry0_good = tt

pub good_blank : Good blank_of
unfolding blank_of
good_blank =
    record {
      numbers = record { locks = omega arith; words = omega arith; both = inl (refl, refl) };
      lengths =
          record {
            word = length-replicate most_words word0;
            lock = length-replicate most_locks lock0;
            sheet = length-replicate sheets sheet0;
            program = length-replicate entries instr0;
            entry = length-replicate entries entry0;
            worker = length-replicate workers worker0;
          };
      word = replicate_all (GoodWord 0) most_words word0 (word0_good 0);
      lock = replicate_all GoodLock most_locks lock0 lock0_good;
      sheet = replicate_all GoodSheet sheets sheet0 sheet0_good;
      program = replicate_all GoodInstr entries instr0 instr0_good;
      entry = replicate_all GoodEntry entries entry0 entry0_good;
      worker = replicate_all (GoodWorker 0) workers worker0 (idle_good 0);
    }

-- a call that tells `told` on state e, and gives the state `next` where it is accepted
outcome_good :
    (e : Engine) (told : Told) (next : Engine) → Good e → (told ≡ Ok tt → Good next) → Good (outcome_of e told next).engine
outcome_good e told next g h =
    told_all (λ (o : Outcome). Good o.engine) told _ (λ r. record { engine = e; told = _ }) h (λ r q. g)

fresh_good : (rec : List ℕ) → AllBytes rec → setup_told rec ≡ Ok tt → Good (fresh_of rec)
unfolding fresh_of blank_of
fresh_good rec b h =
    let z = setup_sized rec h in
    let L = locks_field rec in
    record {
      numbers = record { locks = z.locks.1; words = z.words.1; both = inr (z.locks.0, z.words.0) };
      lengths =
          record {
            word = length-lay 0 _ (replicate most_words word0) ∙ length-replicate most_words word0;
            lock = length-lay 0 _ (replicate most_locks lock0) ∙ length-replicate most_locks lock0;
            sheet = length-replicate sheets sheet0;
            program = length-replicate entries instr0;
            entry = length-replicate entries entry0;
            worker = length-replicate workers worker0;
          };
      word = lay_all (GoodWord L) 0 _ _ word0 (setup_words rec b h) (replicate_all (GoodWord L) most_words word0 (word0_good L));
      lock = lay_all GoodLock 0 _ _ lock0 (setup_locks rec h) (replicate_all GoodLock most_locks lock0 lock0_good);
      sheet = good_blank.sheet;
      program = good_blank.program;
      entry = good_blank.entry;
      worker = replicate_all (GoodWorker L) workers worker0 (idle_good L);
    }

pub good_setup : (rec : List ℕ) → AllBytes rec → Good (setup_of rec).engine
unfolding setup_of
good_setup rec b = outcome_good blank_of (setup_told rec) (fresh_of rec) good_blank (fresh_good rec b)

-- one worker changed
with_worker_lem : (e : Engine) (w : ℕ) (k : Worker) → Good e → GoodWorker e.locks k → Good (with_worker e w k)
with_worker_lem e w k g h =
    record {
      numbers = g.numbers;
      lengths =
          record {
            word = g.lengths.word;
            lock = g.lengths.lock;
            sheet = g.lengths.sheet;
            program = g.lengths.program;
            entry = g.lengths.entry;
            worker = length-set e.worker w k ∙ g.lengths.worker;
          };
      word = g.word;
      lock = g.lock;
      sheet = g.sheet;
      program = g.program;
      entry = g.entry;
      worker = set_all (GoodWorker e.locks) e.worker worker0 w k g.worker h;
    }

looking_good :
    (e : Engine) (w l : ℕ) (rec : List ℕ) → Good e → Begins e w l rec →
    GoodWorker e.locks (began_of (worker_at e w) l (free_sheet e))
unfolding began_of
looking_good e w l rec g t =
    let most = g.numbers.locks in
    let lock = t.lock in
    state_all (GoodWorker e.locks) (worker_at e w).state (looking_of l (free_sheet e)) (λ p. worker_at e w) (λ x. worker_at e w)
    (λ q. record { lock = omega arith; own = sheet_taken e; steps = omega arith; filled = omega arith; state = (omega arith, tt) })
    (λ p q. g.worker w) (λ x q. g.worker w)

begun_good :
    (e : Engine) (w l : ℕ) (rec : List ℕ) → Good e → AllBytes rec → Begins e w l rec →
    Good (begun_of e w l rec (free_sheet e))
unfolding begun_of
begun_good e w l rec g b t =
    let s = free_sheet e in
    let blanks = replicate_all GoodInstr instructions instr0 instr0_good in
    let emptied = lay_all GoodInstr (base_of s) _ _ instr0 blanks g.program in
    record {
      numbers = g.numbers;
      lengths =
          record {
            word = g.lengths.word;
            lock = g.lengths.lock;
            sheet = length-set e.sheet s _ ∙ g.lengths.sheet;
            program =
                length-lay (base_of s) (job_of rec) (lay (base_of s) (replicate instructions instr0) e.program) ∙
                length-lay (base_of s) (replicate instructions instr0) e.program ∙ g.lengths.program;
            entry = length-lay (base_of s) (replicate instructions entry0) e.entry ∙ g.lengths.entry;
            worker = length-set e.worker w _ ∙ g.lengths.worker;
          };
      word = g.word;
      lock = g.lock;
      sheet = set_all GoodSheet e.sheet sheet0 s _ g.sheet (job_size rec l _ t.job).1;
      program = lay_all GoodInstr (base_of s) (job_of rec) _ instr0 (job_good rec b) emptied;
      entry = lay_all GoodEntry (base_of s) _ _ entry0 (replicate_all GoodEntry instructions entry0 entry0_good) g.entry;
      worker = set_all (GoodWorker e.locks) e.worker worker0 w _ g.worker (looking_good e w l rec g t);
    }

pub good_begin : (e : Engine) (w l : ℕ) (rec : List ℕ) → Good e → AllBytes rec → Good (begin_of e w l rec).engine
unfolding begin_of
good_begin e w l rec g b =
    outcome_good e (begin_told e w l rec) (begun_of e w l rec (free_sheet e)) g
    (λ h. begun_good e w l rec g b (begins e w l rec h))

-- the point of a worker that is under way
pub point_good : (L : ℕ) (k : Worker) (p : Point) → GoodWorker L k → k.state ≡ UnderWay p → (1 ≤ L) × GoodPoint p
point_good L k p g q = subst (GoodState L) q g.state

stepped_good : (e : Engine) (w : ℕ) (p : Point) → Good e → (1 ≤ e.locks) × GoodPoint p → Good (stepped_of e w p)
unfolding view_at put_at
stepped_good e w p g h =
    record {
      numbers = g.numbers;
      lengths =
          record {
            word = length-set e.word _ _ ∙ g.lengths.word;
            lock = length-set e.lock _ _ ∙ g.lengths.lock;
            sheet = length-set e.sheet _ _ ∙ g.lengths.sheet;
            program = g.lengths.program;
            entry = length-set e.entry _ _ ∙ g.lengths.entry;
            worker = length-set e.worker _ _ ∙ g.lengths.worker;
          };
      word = set_all (GoodWord e.locks) e.word word0 _ _ g.word after.word;
      lock = set_all GoodLock e.lock lock0 _ _ g.lock after.lock;
      sheet = set_all GoodSheet e.sheet sheet0 _ _ g.sheet (g.sheet (places_of e w p).sheet);
      program = g.program;
      entry = set_all GoodEntry e.entry entry0 _ _ g.entry after.entry;
      worker = set_all (GoodWorker e.locks) e.worker worker0 _ _ g.worker after.worker;
    }
  where
    before : GoodView e.locks (view_at e (places_of e w p))
    before =
        record {
          worker = g.worker (places_of e w p).worker;
          lock = g.lock (places_of e w p).lock;
          word = g.word (places_of e w p).word;
          entry = g.entry (places_of e w p).entry;
          instr = g.program (places_of e w p).instr;
        }

    after : GoodView e.locks (effect_of p (view_at e (places_of e w p)))
    after = effect_good e.locks h.0 p (view_at e (places_of e w p)) h.1 before

pub good_step : (e : Engine) (w : ℕ) → Good e → Good (step_of e w).engine
unfolding step_of
good_step e w g =
    outcome_good e (step_told e w) (onward_of e w) g
    (λ t.
    state_all Good (worker_at e w).state e (λ p. stepped_of e w p) (λ x. e) (λ q. g)
    (λ p q. stepped_good e w p g (point_good e.locks (worker_at e w) p (g.worker w) q)) (λ x q. g))

pub good_collect : (e : Engine) (w : ℕ) → Good e → Good (collect_of e w).engine
unfolding collect_of collected_of
good_collect e w g =
    told_all (λ (o : Collected). Good o.engine) (collect_told e w) _ _
    (λ t.
    with_worker_lem e w (collected_of (worker_at e w)) g
    (state_all (GoodWorker e.locks) (worker_at e w).state (worker_at e w) (λ p. worker_at e w) (λ x. worker0)
    (λ q. g.worker w) (λ p q. g.worker w) (λ x q. idle_good e.locks)))
    (λ r q. g)

pub good_drop : (e : Engine) (w : ℕ) → Good e → Good (drop_of e w).engine
unfolding drop_of dropped_of
good_drop e w g =
    outcome_good e (drop_told e w) (with_worker e w (dropped_of (worker_at e w))) g
    (λ t.
    with_worker_lem e w (dropped_of (worker_at e w)) g
    (state_all (GoodWorker e.locks) (worker_at e w).state (worker_at e w) (λ p. worker0) (λ x. worker0)
    (λ q. g.worker w) (λ p q. idle_good e.locks) (λ x q. idle_good e.locks)))
