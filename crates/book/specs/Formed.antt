-- "jobs by 5, 6 and 7": a job record of a book, which is held against no lock.
use Rattle.std.specs.Prelude.{ℕ, ◌+◌, List, [], ◌∷◌, length, Ok}
use Rattle.parts.specs.Pick.{◌or◌}
use Rattle.parts.specs.Told.{refuse_if, ◌then◌, first_of}
use Rattle.parts.specs.declared.Instr.{Instr}
use Rattle.parts.specs.declared.Refusal.TheVariants.{Instruction}
use Rattle.parts.specs.Told.{Told}
use Rattle.records.specs.Job.{forms, form_order, job_of, badly_formed, ends_otherwise}

-- 7: "instruction badly formed, or the last is no halt": of one that `left` others follow, and of the lowest from `place` on
abbrev pub instr_formed : Instr → ℕ → ℕ → Told
instr_formed i place left = refuse_if (badly_formed i left or ends_otherwise i left) (Instruction place)

unfoldable pub code_formed : List Instr → ℕ → Told
code_formed [] place = Ok tt
code_formed (i ∷ is) place = instr_formed i place (length is) then code_formed is (place + 1)

-- 5, 6, 5 and then 7, by begin's own tests; there is no 8
unfoldable pub formed_told : List ℕ → Told
formed_told rec = first_of (form_order forms rec) then code_formed (job_of rec) 0
