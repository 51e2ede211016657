-- What is known of a record that is accepted, and what each way tells and leaves.
use Rattle.std.specs.Prelude.{Ok}
use Prim.Native.Nat.{ℕ, ◌≤◌}
use native.Mathlib.Omega.{arith}
use mathlib.Core.List.{List}
use mathlib.Core.Path.{◌≡◌, ◌∙◌, sym}
use lib.Dec.{ltb}
use lib.ListN.{length}
use Rattle.parts.specs.Numbers.{most_words}
use Rattle.parts.specs.Pick.{◌or◌, ◌isnt◌}
use Rattle.parts.specs.Told.{refuse_if}
use Rattle.parts.specs.declared.Refusal.TheVariants.{NoWord}
use Rattle.parts.specs.Told.{Told}
use Rattle.parts.proofs.Order.{both_pass}
use Rattle.records.specs.Job.{job_told}
use Rattle.records.proofs.Form.{job_formed}
use Rattle.plain.specs.Plain.{plain_told}

-- by what a callee told
module _ (values guards : List ℕ) (lock : ℕ) (rec : List ℕ) (t : Told) (q : t ≡ plain_told values guards lock rec) where
  pub accepted_four : t ≡ Ok tt → 4 ≤ length rec
  unfolding plain_told
  accepted_four h =
      let tables = refuse_if (length values isnt length guards or ltb most_words (length values)) NoWord in
      let job : job_told rec lock guards ≡ Ok tt = (both_pass tables (job_told rec lock guards) (sym q ∙ h)).1 in
      omega (arith, (job_formed rec lock guards job).size)
