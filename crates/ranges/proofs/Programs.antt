-- The program of a sheet: a begin copies its job to the free sheet and to no other, and no step changes an instruction.
use Prim.Native.Nat.{ℕ, ◌+◌, ◌%◌, ◌≤◌, ◌<◌}
use native.Mathlib.Omega.{arith}
use mathlib.Core.Path.{◌≡◌, refl, ◌∙◌, sym, ap}
use mathlib.Core.Bool.{false}
use mathlib.Core.List.{List}
use mathlib.Core.Logic.{◌⊎◌, inl, inr, ⊎_elim}
use native.Mathlib.Nat.{eq-or-lt_of_le}
use lib.ListN.{length, get_or, set, take, drop, replicate, length-replicate, length-drop}
use lib.Seq.{get_or-set_other, length-take-le, get_or-set_same}
use Rattle.parts.specs.Lay.{lay}
use Rattle.parts.specs.Numbers.{sheets, instructions}
use Rattle.parts.specs.Parts.{instr0}
use Rattle.parts.proofs.Order.{below_or_not}
use Rattle.records.specs.Job.{job_of}
use Rattle.steps.specs.declared.View.{View}
use Rattle.engine.specs.State.{sheet0, free_sheet, base_of, program_length, program_of}
use Rattle.engine.specs.Step.{put_at}
use Rattle.engine.specs.Calls.{begun_of}
use Rattle.engine.specs.Inner.{Begins}
use Rattle.engine.specs.declared.Engine.{Engine}
use Rattle.engine.specs.declared.Places.{Places}
use Rattle.engine.specs.declared.Sheet.{Sheet}
use Rattle.ranges.proofs.Laid.{part_lay, set_same, lay_there}
use Rattle.engine.proofs.Begins.{job_size, sheet_taken}
use Rattle.parts.proofs.Lay.{length-lay}
use Rattle.ranges.specs.Good.{Good}

-- the length of a sheet's program
pub program_length_lem : (e : Engine) (s : ℕ) → Good e → s < sheets → length (program_of e s) ≡ program_length e s
program_length_lem e s g h =
    let all = g.lengths.program in
    let d = length-drop (base_of s) e.program in
    length-take-le (program_length e s) (drop (base_of s) e.program) (omega arith)

-- two numbers that differ
apart : (a b : ℕ) → (a ≡ b → ⊥) → (a < b) ⊎ (b < a)
apart a b n = ⊎_elim inl (λ h. ⊎_elim (λ q. absurd (n (sym q))) inr (eq-or-lt_of_le h)) (below_or_not a b)

-- another sheet's part of an array ends before the sheet's, or begins after it
pub beside : (s t m n : ℕ) → (s ≡ t → ⊥) → m ≤ instructions → n ≤ instructions → (base_of s + n ≤ base_of t) ⊎ (base_of t + m ≤ base_of s)
beside s t m n d h k = ⊎_elim (λ q. inl (omega arith)) (λ q. inr (omega arith)) (apart s t d)

-- a begin copies its job to the free sheet, and no other
pub begun_program :
    (e : Engine) (w l : ℕ) (rec : List ℕ) (s : ℕ) → (s ≡ free_sheet e → ⊥) → Begins e w l rec →
    program_of (begun_of e w l rec (free_sheet e)) s ≡ program_of e s
unfolding begun_of
begun_program e w l rec s d b =
    let t = free_sheet e in
    let blanks = replicate instructions instr0 in
    let n = program_length e s in
    let size = length-replicate instructions instr0 in
    let same : get_or (set e.sheet t _) s sheet0 ≡ get_or e.sheet s sheet0 = get_or-set_other e.sheet t s _ sheet0 d in
    let emptied = lay (base_of t) blanks e.program in
    let copied = lay (base_of t) (job_of rec) emptied in
    ap (λ (x : Sheet). take (x.length % (instructions + 1)) (drop (base_of s) copied)) same ∙
    part_lay (base_of s) n (base_of t) (job_of rec) emptied
    (beside s t (length (job_of rec)) n d (job_size rec l _ b.job).1 (omega arith)) ∙
    part_lay (base_of s) n (base_of t) blanks e.program (beside s t (length blanks) n d (omega arith) (omega arith))

-- a step changes no instruction, and of a sheet only the done mark
pub put_program : (e : Engine) (at : Places) (v : View) (s : ℕ) → program_of (put_at e at v) s ≡ program_of e s
unfolding put_at
put_program e at v s =
    ap (λ (n : ℕ). take (n % (instructions + 1)) (drop (base_of s) e.program))
    (set_same (λ (x : Sheet). x.length) e.sheet at.sheet _ sheet0 refl s)

-- the sheet that an accepted begin takes has the record's job
pub begun_job :
    (e : Engine) (w l : ℕ) (rec : List ℕ) → Good e → Begins e w l rec →
    program_of (begun_of e w l rec (free_sheet e)) (free_sheet e) ≡ job_of rec
unfolding begun_of
begun_job e w l rec g t =
    let s = free_sheet e in
    let job = job_of rec in
    let x : Sheet = record { length = length job; done = false } in
    let emptied = lay (base_of s) (replicate instructions instr0) e.program in
    let most = (job_size rec l _ t.job).1 in
    let here : get_or (set e.sheet s x) s sheet0 ≡ x =
    get_or-set_same e.sheet s x sheet0 (omega (arith, g.lengths.sheet, sheet_taken e)) in
    let n : length job % (instructions + 1) ≡ length job = omega arith in
    let all : length emptied ≡ length e.program = length-lay (base_of s) (replicate instructions instr0) e.program in
    ap (λ (y : Sheet). take (y.length % (instructions + 1)) (drop (base_of s) (lay (base_of s) job emptied))) here ∙
    ap (λ (m : ℕ). take m (drop (base_of s) (lay (base_of s) job emptied))) n ∙
    lay_there (base_of s) job emptied (omega (arith, g.lengths.program, sheet_taken e))
