-- The lowest faulty instruction is told, and nothing else: `code_told` is the order of the instructions' rows.
use Rattle.std.specs.Prelude.{Err, Ok}
use Prim.Native.Nat.{ℕ, zero, suc, ◌+◌, ◌-◌, ◌<◌}
use mathlib.Core.Path.{◌≡◌, refl, ◌∙◌, sym, ap}
use mathlib.Core.List.{List, [], ◌∷◌}
use mathlib.Core.Logic.{◌↔◌}
use native.Mathlib.Nat.{zero-add}
use native.Mathlib.Omega.{arith}
use lib.ListN.{length, get_or}
use Rattle.parts.specs.Parts.{instr0}
use Rattle.parts.specs.Told.{◌then◌, first_of, FirstAt}
use Rattle.parts.specs.declared.Instr.{Instr}
use Rattle.parts.specs.declared.Refusal.{Refusal}
use Rattle.parts.specs.Told.{Told}
use Rattle.parts.proofs.Order.{first_cons, first_exactly}
use Rattle.records.specs.Job.{instr_told, code_told}

-- what is told of instruction k of a job, by itself
abbrev pub row_of : List Instr → ℕ → List ℕ → ℕ → Told
row_of is lock guards k = instr_told (get_or is k instr0) k (length is - (k + 1)) lock guards

-- instruction i is refused with r, and every lower one is accepted
abbrev pub LowestAt : List Instr → ℕ → List ℕ → Refusal → ℕ → Type 0
LowestAt is lock guards r i =
    (i < length is) × (row_of is lock guards i ≡ Err r) × ((j : ℕ) → j < i → row_of is lock guards j ≡ Ok tt)

module _ (lock : ℕ) (guards : List ℕ) where
  rows : List Instr → ℕ → List Told
  rows [] place = []
  rows (i ∷ is) place = instr_told i place (length is) lock guards ∷ rows is (place + 1)

  code_rows_lem : (is : List Instr) (place : ℕ) → code_told is place lock guards ≡ first_of (rows is place)
  unfolding code_told rows
  code_rows_lem [] place = refl
  code_rows_lem (i ∷ is) place =
      ap (λ (t : Told). instr_told i place (length is) lock guards then t) (code_rows_lem is (place + 1)) ∙
      sym (first_cons (instr_told i place (length is) lock guards) (rows is (place + 1)))

  rows_length : (is : List Instr) (place : ℕ) → length (rows is place) ≡ length is
  unfolding rows
  rows_length [] place = refl
  rows_length (i ∷ is) place = ap suc (rows_length is (place + 1))

  row_at :
      (is : List Instr) (place k : ℕ) →
      k < length is →
      get_or (rows is place) k (Ok tt) ≡ instr_told (get_or is k instr0) (place + k) (length is - (k + 1)) lock guards
  unfolding rows
  row_at [] place k h = absurd (omega arith)
  row_at (i ∷ is) place zero h =
      let p : place + zero ≡ place = omega arith in
      let q : suc (length is) - (zero + 1) ≡ length is = omega arith in
      simp (p, q)
  row_at (i ∷ is) place (suc k) h =
      let p : place + suc k ≡ place + 1 + k = omega arith in
      let q : suc (length is) - (suc k + 1) ≡ length is - (k + 1) = omega arith in
      row_at is (place + 1) k (omega arith) ∙ simp (p, q)

  row_is : (is : List Instr) (k : ℕ) → k < length is → get_or (rows is 0) k (Ok tt) ≡ row_of is lock guards k
  row_is is k h = row_at is 0 k h ∙ simp (zero-add k)

  -- refused with r exactly when an instruction is, at its place, and every lower one is accepted
  pub code_exactly :
      (is : List Instr) (r : Refusal) →
      code_told is 0 lock guards ≡ Err r ↔ ((i : ℕ) × LowestAt is lock guards r i)
  code_exactly is r = (λ h. there ((first_exactly (rows is 0) r).0 (sym (code_rows_lem is 0) ∙ h)), back)
    where
      there : ((i : ℕ) × FirstAt (rows is 0) r i) → (i : ℕ) × LowestAt is lock guards r i
      there (i, (h, e, p)) =
          let k : i < length is = omega (arith, rows_length is 0) in
          (i, (k, sym (row_is is i k) ∙ e, λ j q. sym (row_is is j (omega arith)) ∙ p j q))

      back : ((i : ℕ) × LowestAt is lock guards r i) → code_told is 0 lock guards ≡ Err r
      back (i, (h, e, p)) =
          let k : i < length (rows is 0) = omega (arith, rows_length is 0) in
          code_rows_lem is 0 ∙
          (first_exactly (rows is 0) r).1 (i, (k, row_is is i h ∙ e, λ j q. row_is is j (omega arith) ∙ p j q))
