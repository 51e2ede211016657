-- The old writer: it differs from ours at kind 4 alone.
use Rattle.std.specs.Prelude.{Err, Ok}
use Prim.Native.Nat.{ℕ}
use native.Mathlib.Omega.{arith}
use mathlib.Core.Bool.{Bool, true, false}
use mathlib.Core.List.{List}
use mathlib.Core.Logic.{◌≢◌}
use mathlib.Core.Path.{◌≡◌, refl, ◌∙◌, sym, ap}
use lib.Dec.{eqb}
use lib.ListN.{length}
use borrow.Author.Tests.{eqb-true, eqb-false, ne_eqb}
use Rattle.parts.specs.Told.{◌then◌, refuse_if}
use Rattle.parts.specs.declared.Refusal.TheVariants.{Kind, Length}
use Rattle.parts.specs.Told.{Told}
use Rattle.records.specs.Bytes.{kind_field, length_told}
use Rattle.records.specs.Job.{long, old_forms, job_of, no_job_kind, outside_kind, code_told, told_by, job_told}
use Rattle.records.specs.Old.{OldWriter}
use Rattle.records.proofs.One.{job_back}

refused_next : (t u : Told) → (t then (Err Kind then u)) ≡ (t then Err Kind)
refused_next (Ok _) u = refl
refused_next (Err r) u = refl

not_taken : (t : Told) → (t then Err Kind) ≡ Ok tt → ⊥
not_taken (Ok _) h = let z : ◌≡◌ {A = ℕ} 0 1 = cc in absurd (omega arith)
not_taken (Err r) h = let z : ◌≡◌ {A = ℕ} 0 1 = cc in absurd (omega arith)

module _ (rec : List ℕ) (lock : ℕ) (guards : List ℕ) where
  -- what comes after 6
  abbrev rest : Told
  rest = refuse_if (outside_kind old_forms (kind_field rec) (length rec)) Length then code_told (job_of rec) 0 lock guards

  long_refused : kind_field rec ≡ long.kind → told_by old_forms rec lock guards ≡ (length_told rec then Err Kind)
  unfolding told_by
  long_refused k =
      let none : no_job_kind old_forms (kind_field rec) ≡ true = ap (no_job_kind old_forms) k in
      ap (λ (b : Bool). length_told rec then (refuse_if b Kind then rest)) none ∙ refused_next (length_told rec) rest

  else_same : kind_field rec ≢ long.kind → told_by old_forms rec lock guards ≡ job_told rec lock guards
  unfolding told_by
  else_same k = simp (ne_eqb (kind_field rec) long.kind k)

  old_taken : told_by old_forms rec lock guards ≡ Ok tt → job_told rec lock guards ≡ Ok tt
  old_taken h = go (eqb (kind_field rec) long.kind) refl
    where
      go : (b : Bool) → eqb (kind_field rec) long.kind ≡ b → job_told rec lock guards ≡ Ok tt
      go true e = absurd (not_taken (length_told rec) (sym (long_refused (eqb-true (kind_field rec) long.kind e)) ∙ h))
      go false e = sym (else_same (eqb-false (kind_field rec) long.kind e)) ∙ h

pub old_writer : OldWriter
old_writer =
    record {
      refuses = long_refused;
      same = else_same;
      taken = old_taken;
      program = λ rec lock guards b h. job_back rec lock guards b (old_taken rec lock guards h);
    }
