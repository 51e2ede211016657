-- A job of a book is one that begin takes, but for what its instructions ask of the lock.
use Rattle.std.specs.Prelude.{Err, Ok}
use Prim.Native.Nat.{ℕ, ◌+◌}
use native.Mathlib.Omega.{arith}
use mathlib.Core.Bool.{Bool, true, false}
use mathlib.Core.List.{List, [], ◌∷◌}
use mathlib.Core.Logic.{◌⊎◌, inl, inr}
use mathlib.Core.Path.{◌≡◌, refl, ◌∙◌}
use lib.ListN.{length}
use Rattle.parts.specs.Pick.{◌or◌}
use Rattle.parts.specs.Told.{◌then◌, refuse_if, first_of}
use Rattle.parts.specs.declared.Instr.{Instr}
use Rattle.parts.specs.declared.Refusal.TheVariants.{Instruction, Guard}
use Rattle.parts.specs.Told.{Told}
use Rattle.parts.proofs.Order.{both_pass}
use Rattle.records.specs.Job.{forms, form_order, job_of, badly_formed, ends_otherwise, strays_at, instr_told, code_told, job_told}
use Rattle.records.proofs.Form.{told_by_form}
use Rattle.book.specs.Formed.{instr_formed, code_formed, formed_told}

-- accepted, or refused for a word
abbrev AtMostGuard : Told → Type 0
AtMostGuard t = (t ≡ Ok tt) ⊎ ((p : ℕ) × (t ≡ Err (Guard p)))

-- of two rows
either : (t u : Told) → AtMostGuard t → AtMostGuard u → AtMostGuard (t then u)
either t u (inl h) (inl k) = inl (simp (h, k))
either t u (inl h) (inr (p, k)) = inr (p, simp (h, k))
either t u (inr (p, h)) k = inr (p, simp h)

-- an instruction that is formed
instr_guard :
    (i : Instr) (place left lock : ℕ) (guards : List ℕ) → instr_formed i place left ≡ Ok tt →
    AtMostGuard (instr_told i place left lock guards)
unfolding instr_told
instr_guard i place left lock guards h = go (badly_formed i left or ends_otherwise i left) (strays_at i lock guards) h
  where
    go :
        (a b : Bool) → refuse_if a (Instruction place) ≡ Ok tt →
        AtMostGuard (first_of (refuse_if a (Instruction place) ∷ refuse_if b (Guard place) ∷ []))
    go true b k = let z : ◌≡◌ {A = ℕ} 0 1 = cc in absurd (omega arith)
    go false true k = inr (place, refl)
    go false false k = inl refl

-- the instructions of a job that are all formed
code_guard :
    (is : List Instr) (place lock : ℕ) (guards : List ℕ) → code_formed is place ≡ Ok tt →
    AtMostGuard (code_told is place lock guards)
unfolding code_formed code_told
code_guard [] place lock guards h = inl refl
code_guard (i ∷ is) place lock guards h =
    let b = both_pass (instr_formed i place (length is)) (code_formed is (place + 1)) h in
    either (instr_told i place (length is) lock guards) _ (instr_guard i place (length is) lock guards b.0)
    (code_guard is (place + 1) lock guards b.1)

-- and so of its record
pub begins :
    (rec : List ℕ) (l : ℕ) (guards : List ℕ) → formed_told rec ≡ Ok tt →
    (job_told rec l guards ≡ Ok tt) ⊎ ((p : ℕ) × (job_told rec l guards ≡ Err (Guard p)))
unfolding formed_told
begins rec l guards h =
    let b = both_pass (first_of (form_order forms rec)) (code_formed (job_of rec) 0) h in
    let e = told_by_form forms rec l guards in
    go e (either (first_of (form_order forms rec)) _ (inl b.0) (code_guard (job_of rec) 0 l guards b.1))
  where
    go : {t u : Told} → t ≡ u → AtMostGuard u → AtMostGuard t
    go e (inl k) = inl (e ∙ k)
    go e (inr (p, k)) = inr (p, e ∙ k)
