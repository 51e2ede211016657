-- What begin makes of the lent numbers, and of the state that they say.
use Rattle.std.specs.Prelude.{Ok}
use Prim.Native.Nat.{ℕ, ◌-◌, ◌/◌, ◌<◌}
use mathlib.Core.Bool.{false}
use mathlib.Core.List.{List}
use mathlib.Core.Path.{◌≡◌, ◌∙◌, sym, ap}
use native.Mathlib.Omega.{arith}
use lib.ListN.{length, take, drop, replicate, length-drop}
use Rattle.parts.specs.Numbers.{sheets, instructions}
use Rattle.parts.specs.Parts.{instr0, entry0}
use Rattle.records.specs.Job.{instrs_of, job_of}
use Rattle.records.proofs.Fours.{instrs_length}
use Rattle.records.proofs.Laws.{part_end}
use Rattle.steps.specs.Worker as steps
use Rattle.steps.specs.Worker.{looking_of, began_of}
use Rattle.steps.specs.declared.Worker.{Worker}
use Rattle.engine.specs.Calls.{begun_of}
use Rattle.engine.proofs.Begins.{sheet_taken, looks}
use Rattle.engine.specs.State.{worker_at, free_sheet, base_of, with_worker}
use Rattle.cells.specs.Layout.{instr_part, entry_part, unpack, put_sheet, put_worker}
use Rattle.cells.specs.State.{with_sheet}
use Rattle.lent_in.specs.Calls.{copied_numbers, copied_of, begun_numbers}
use Rattle.lent_in.specs.Laid.{lay_program, lay_log, Laid}

-- zeros, the job and an empty log were written
pub copied_by :
    (s t u v rec : List ℕ) (sheet : ℕ) →
    Laid instr_part lay_program s t (base_of sheet) (replicate instructions instr0) →
    Laid instr_part lay_program t u (base_of sheet) (instrs_of (take (length rec - 4) (drop 4 rec))) →
    Laid entry_part lay_log u v (base_of sheet) (replicate instructions entry0) →
    (v ≡ copied_numbers s rec sheet) × (unpack v ≡ copied_of (unpack s) rec sheet)
unfolding copied_numbers copied_of
copied_by s t u v rec sheet a b c = (
  c.0 ∙ simp (b.0, a.0, part_end 4 rec),
  c.1 ∙ simp (b.1, a.1, part_end 4 rec),
)

-- the sheet and the worker were written after that
pub begun_by :
    (s t u v rec : List ℕ) (w l sheet n : ℕ) (next : Worker) →
    steps.begin_by_state (worker_at (unpack s) w) ≡ Ok tt →
    next ≡ looking_of l sheet →
    (t ≡ copied_numbers s rec sheet) × (unpack t ≡ copied_of (unpack s) rec sheet) →
    n ≡ (length rec - 4) / 4 →
    (u ≡ put_sheet t sheet (record { length = n; done = false })) ×
    (unpack u ≡ with_sheet (unpack t) sheet (record { length = n; done = false })) →
    (v ≡ put_worker u w next) × (unpack v ≡ with_worker (unpack u) w next) →
    (v ≡ begun_numbers s w l rec sheet) × (unpack v ≡ begun_of (unpack s) w l rec sheet)
unfolding begun_numbers begun_of copied_of
begun_by s t u v rec w l sheet n next i b c m x y =
    let j : length (job_of rec) ≡ n = instrs_length (drop 4 rec) ∙ ap (λ (i : ℕ). i / 4) (length-drop 4 rec) ∙ sym m in
    let k : next ≡ began_of (worker_at (unpack s) w) l sheet = b ∙ sym (looks (worker_at (unpack s) w) l sheet i) in (
      y.0 ∙ simp (x.0, c.0, k, j),
      y.1 ∙ simp (x.1, c.1, k, j),
    )

-- the sheet that the search found is one
pub one_found : (s : List ℕ) (sheet : ℕ) → sheet ≡ free_sheet (unpack s) → sheet < sheets
one_found s sheet f = omega (arith, sheet_taken (unpack s))

-- what a callee made of p, which another callee ensures to be q
pub said_of : {A B : Type 0} (f : A → B) (p q : A) (x : B) → x ≡ f p → p ≡ q → x ≡ f q
said_of f p q x h e = h ∙ ap f e
