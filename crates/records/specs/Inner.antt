-- What only contracts of inner functions and proofs ask for: nothing here has to be believed.
use Rattle.std.specs.Prelude.{ℕ, ◌+◌, ◌*◌, ◌≤◌, ◌≡◌, List, [], ◌∷◌, length, Ok, Err}
use Rattle.parts.specs.Numbers.{instructions, most_locks, most_words}
use Rattle.parts.specs.Told.{Told}
use Rattle.parts.specs.declared.Instr.{Instr}
use Rattle.parts.specs.declared.Refusal.{Refusal}
use Rattle.records.specs.Bytes.{kind_field, length_told}
use Rattle.records.specs.Job.{kind_for, job_of}
use Rattle.records.specs.Setup.{setup_kind, locks_field, words_field, guards_field, turns_field, setup_length, guards_told, turns_told}

-- what is told of the instructions from `place` on, by what is told of each, its place, and how many others follow it: the lowest refusal
unfoldable pub Lowest : (Instr → ℕ → ℕ → Told → Type 0) → List Instr → ℕ → Told → Type 0
Lowest Tells [] place t = t ≡ Ok tt
Lowest Tells (i ∷ is) place t =
    (u : Told) × Tells i place (length is) u × (u ≡ Ok tt → Lowest Tells is (place + 1) t) × ((r : Refusal) → u ≡ Err r → t ≡ Err r)

-- what is known of a record that has a job record's form
pub record Formed (rec : List ℕ) : Type 0 where
  pub told : length_told rec ≡ Ok tt
  pub kind : kind_field rec ≡ kind_for (length (job_of rec))
  pub fewest : 1 ≤ length (job_of rec)
  pub most : length (job_of rec) ≤ instructions
  pub size : length rec ≡ 4 + 4 * length (job_of rec)

-- what is known of an accepted setup record
pub record Sized (rec : List ℕ) : Type 0 where
  pub told : length_told rec ≡ Ok tt
  pub kind : kind_field rec ≡ setup_kind
  pub locks : (1 ≤ locks_field rec) × (locks_field rec ≤ most_locks)
  pub words : (1 ≤ words_field rec) × (words_field rec ≤ most_words)
  pub size : length rec ≡ setup_length (locks_field rec) (words_field rec)
  pub guards : guards_told (guards_field rec) (locks_field rec) 6 ≡ Ok tt
  pub turns : turns_told (turns_field rec) (6 + 5 * words_field rec) ≡ Ok tt
