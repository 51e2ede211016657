-- What an accepted begin found: every row of its order accepts.
use Rattle.std.specs.Prelude.{Err, Ok}
use Prim.Native.Nat.{ℕ, ◌+◌, ◌*◌, ◌≤◌, ◌<◌}
use mathlib.Core.Path.{◌≡◌, refl, ◌∙◌, sym}
use mathlib.Core.List.{List}
use native.Mathlib.Omega.{arith}
use lib.ListN.{length}
use borrow.Author.Tests.{leb-false}
use Rattle.parts.specs.Numbers.{workers, sheets, instructions}
use Rattle.parts.specs.declared.Refusal.TheVariants.{NoWorker, NoLock, WorkerUnderWay, NotCollected, LastTurn}
use Rattle.parts.specs.Told.{Told}
use Rattle.parts.proofs.Order.{first_all, row_passes}
use Rattle.records.specs.Job.{job_of, job_told}
use Rattle.records.proofs.Form.{job_formed}
use Rattle.sheets.proofs.Lowest.{taken_one}
use Rattle.steps.specs.Worker as steps
use Rattle.steps.specs.Worker.{on_state, looking_of, began_of}
use Rattle.steps.specs.declared.State.{State}
use Rattle.steps.specs.declared.State.TheVariants.{Idle, UnderWay, Finished}
use Rattle.steps.specs.declared.Worker.{Worker}
use Rattle.engine.specs.State.{lock_count, free_sheet}
use Rattle.engine.specs.Calls.{begin_order, begin_told}
use Rattle.engine.specs.Inner.{Begins}
use Rattle.engine.specs.declared.Engine.{Engine}

pub begins : (e : Engine) (w l : ℕ) (rec : List ℕ) → begin_told e w l rec ≡ Ok tt → Begins e w l rec
unfolding begin_told
begins e w l rec h =
    let row = first_all (begin_order e w l rec) h in
    record {
      worker = leb-false workers w (row_passes _ NoWorker (row 0));
      idle = row 1;
      lock = leb-false (lock_count e) l (row_passes _ NoLock (row 2));
      job = row 3;
      worn = row_passes _ LastTurn (row 4);
    }

-- by what a callee told
pub begins_by : (e : Engine) (w l : ℕ) (rec : List ℕ) (q : Told) → q ≡ begin_told e w l rec → q ≡ Ok tt → Begins e w l rec
begins_by e w l rec q h k = begins e w l rec (sym h ∙ k)

-- the sheet that it takes is one, in whatever state
pub sheet_taken : (e : Engine) → free_sheet e < sheets
sheet_taken e = taken_one e.lock e.worker

-- a worker that begins was idle, and is then to look at its lock with its own sheet
pub looks : (k : Worker) (l s : ℕ) → steps.begin_by_state k ≡ Ok tt → began_of k l s ≡ looking_of l s
unfolding steps.begin_by_state began_of
looks k l s h = go k.state h
  where
    go :
        (t : State) → on_state {A = Told} t (Ok tt) (λ p. Err WorkerUnderWay) (λ x. Err NotCollected) ≡ Ok tt →
        on_state t (looking_of l s) (λ p. k) (λ x. k) ≡ looking_of l s
    go Idle q = refl
    go (UnderWay p) q = let z : ◌≡◌ {A = ℕ} 0 1 = cc in absurd (omega arith)
    go (Finished x) q = let z : ◌≡◌ {A = ℕ} 0 1 = cc in absurd (omega arith)

-- "length 4 + 4n, n from 1 to 32", to 64 since request 04
pub job_size :
    (rec : List ℕ) (lock : ℕ) (guards : List ℕ) → job_told rec lock guards ≡ Ok tt →
    (1 ≤ length (job_of rec)) × (length (job_of rec) ≤ instructions) × (length rec ≡ 4 + 4 * length (job_of rec))
job_size rec lock guards h = let f = job_formed rec lock guards h in (f.fewest, f.most, f.size)
