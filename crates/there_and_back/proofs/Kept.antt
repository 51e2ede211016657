-- A sheet in use keeps its program, and so its record: a begin takes another sheet, and no step changes a program.
use Rattle.std.specs.Prelude.{Err, Ok}
use Prim.Native.Nat.{ℕ}
use native.Mathlib.Omega.{arith}
use mathlib.Core.Path.{◌≡◌, refl, ap}
use mathlib.Core.Bool.{true, false}
use mathlib.Core.List.{List}
use Rattle.parts.specs.declared.Instr.{Instr}
use Rattle.parts.specs.Told.{Told}
use Rattle.records.specs.Job.{job_record}
use Rattle.engine.specs.State.{in_use, free_sheet, worker_at, program_of, sheet_record}
use Rattle.engine.specs.Step.{places_of, stepped_of}
use Rattle.engine.specs.Calls.{outcome_of, begin_told, begin_of, step_told, onward_of, step_of, collect_told, collect_of, drop_told, drop_of}
use Rattle.engine.specs.Calls.{Collected}
use Rattle.engine.specs.declared.Engine.{Engine}
use Rattle.engine.specs.declared.Outcome.{Outcome}
use Rattle.ranges.proofs.Frame.{state_all, told_all}
use Rattle.engine.proofs.Begins.{begins}
use Rattle.ranges.specs.Good.{Good}
use Rattle.ranges.proofs.Free.{begins_free}
use Rattle.ranges.proofs.Programs.{begun_program, put_program}

-- what is read of a state is the same after any call on it, accepted or refused; `setup` makes a state anew
pub record KeptBy {A : Type 0} (read : Engine → A) (e : Engine) : Type 0 where
  pub begin : (w l : ℕ) (rec : List ℕ) → read (begin_of e w l rec).engine ≡ read e
  pub step : (w : ℕ) → read (step_of e w).engine ≡ read e
  pub collect : (w : ℕ) → read (collect_of e w).engine ≡ read e
  pub drop : (w : ℕ) → read (drop_of e w).engine ≡ read e

-- the sheet that is taken is not one in use
other_sheet : (e : Engine) (s : ℕ) → in_use e s ≡ true → in_use e (free_sheet e) ≡ false → s ≡ free_sheet e → ⊥
other_sheet e s u free q = let z : ◌≡◌ {A = ℕ} 0 1 = cc in omega arith

-- of an outcome: the state as it came has it, and the next state where the call was accepted
outcome_kept :
    {A : Type 0} (read : Engine → A) (e : Engine) (told : Told) (next : Engine) →
    (told ≡ Ok tt → read next ≡ read e) → read (outcome_of e told next).engine ≡ read e
outcome_kept read e told next h =
    told_all (λ (o : Outcome). read o.engine ≡ read e) told _ (λ r. record { engine = e; told = Err r }) h (λ r q. refl)

-- each call, accepted or refused, keeps the program of a sheet in use
pub programs_kept : (e : Engine) (s : ℕ) → Good e → in_use e s ≡ true → KeptBy (λ e. program_of e s) e
unfolding begin_of step_of collect_of drop_of
programs_kept e s g u =
    record {
      begin =
          λ w l rec.
          outcome_kept (λ e. program_of e s) e (begin_told e w l rec) _
          (λ h.
          let b = begins e w l rec h in
          begun_program e w l rec s (other_sheet e s u (begins_free e g w l rec b)) b);
      step =
          λ w.
          outcome_kept (λ e. program_of e s) e (step_told e w) (onward_of e w)
          (λ t.
          state_all (λ (next : Engine). program_of next s ≡ program_of e s) (worker_at e w).state e (λ p. stepped_of e w p) (λ x. e)
          (λ q. refl) (λ p q. put_program e (places_of e w p) _ s) (λ x q. refl));
      collect =
          λ w.
          told_all (λ (o : Collected). program_of o.engine s ≡ program_of e s) (collect_told e w) _ _ (λ t. refl) (λ r q. refl);
      drop = λ w. outcome_kept (λ e. program_of e s) e (drop_told e w) _ (λ t. refl);
    }

-- so the record that show writes of a sheet in use stays the record that begin took
pub kept : (e : Engine) (s : ℕ) → Good e → in_use e s ≡ true → KeptBy (λ e. sheet_record e s) e
kept e s g u =
    let p = programs_kept e s g u in
    record {
      begin = λ w l rec. ap (λ (is : List Instr). job_record is) (p.begin w l rec);
      step = λ w. ap (λ (is : List Instr). job_record is) (p.step w);
      collect = λ w. ap (λ (is : List Instr). job_record is) (p.collect w);
      drop = λ w. ap (λ (is : List Instr). job_record is) (p.drop w);
    }
