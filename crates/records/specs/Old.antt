-- Request 04: "Stored jobs stay readable", and "an old writer refuses kind 4, with 6 if nothing before it applies". The old writer is
-- document 01's: the same check (`told_by`), of kind 1 alone (`old_forms`).
use Rattle.std.specs.Prelude.{ℕ, List, ◌≢◌, ◌≡◌, Err, Ok}
use Rattle.parts.specs.Told.{◌then◌}
use Rattle.parts.specs.declared.Refusal.TheVariants.{Kind}
use Rattle.records.specs.Bytes.{AllBytes, kind_field, length_told}
use Rattle.records.specs.Job.{long, old_forms, job_of, job_record, told_by, job_told}

pub record OldWriter : Type 0 where
  -- a record of kind 4: 5 where its length is wrong, which comes before, and else 6
  pub refuses :
      (rec : List ℕ) (lock : ℕ) (guards : List ℕ) → kind_field rec ≡ long.kind →
      told_by old_forms rec lock guards ≡ (length_told rec then Err Kind)
  -- of every other record the two tell the same, refusals with their places too
  pub same :
      (rec : List ℕ) (lock : ℕ) (guards : List ℕ) → kind_field rec ≢ long.kind →
      told_by old_forms rec lock guards ≡ job_told rec lock guards
  -- so what the old one took ours takes. Its program is `job_of` of the record for both; ours writes that as the very record
  pub taken :
      (rec : List ℕ) (lock : ℕ) (guards : List ℕ) → told_by old_forms rec lock guards ≡ Ok tt → job_told rec lock guards ≡ Ok tt
  pub program :
      (rec : List ℕ) (lock : ℕ) (guards : List ℕ) → AllBytes rec → told_by old_forms rec lock guards ≡ Ok tt →
      job_record (job_of rec) ≡ rec
