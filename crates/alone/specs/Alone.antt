-- "A job alone is the same program on the words' plain values, without log, change counts or helpers. It also counts the
-- instructions executed: the halt counts, those passed over don't."
use Rattle.std.specs.Prelude.{ℕ, zero, suc, ◌+◌, Bool, false, List, [], ◌∷◌, get_or, set}
use Rattle.parts.specs.Instr.{asks_of, follows_of, on_asks, on_follows}
use Rattle.parts.specs.Parts.{registers0}
use Rattle.parts.specs.declared.Instr.{Instr}
use Rattle.parts.specs.declared.Registers.{Registers}

-- what a job alone leaves: its answer, the instructions executed, the words' values
pub record Left : Type 0 where
  pub yes : Bool
  pub executed : ℕ
  pub words : List ℕ

abbrev pub left_of : Bool → ℕ → List ℕ → Left
left_of said executed words = record { yes = said; executed = executed; words = words }

-- what a load, a store or a cam on word w leaves: the registers, and the words' values
abbrev pub touched_registers : Instr → Registers → ℕ → List ℕ → Registers
touched_registers i r w words = on_follows (follows_of i r (get_or words w 0)) (λ next. next) (λ new. r)

abbrev pub touched_words : Instr → Registers → ℕ → List ℕ → List ℕ
touched_words i r w words = on_follows (follows_of i r (get_or words w 0)) (λ next. words) (λ new. set words w new)

-- The rest of a program, from the instruction that is reached once n are passed over, with the registers, the words' values
-- and the number executed so far. "a skip goes on with the rest of the program from the instruction reached, and the length
-- of what is left falls". A program that ends with no halt answers no: no job that was checked does.
unfoldable pub alone_from : ℕ → List Instr → Registers → List ℕ → ℕ → Left
alone_from n [] r words k = record { yes = false; executed = k; words = words }
alone_from (suc n) (i ∷ is) r words k = alone_from n is r words k
alone_from zero (i ∷ is) r words k =
    on_asks (asks_of i r) (λ yes. record { yes = yes; executed = k + 1; words = words })
    (λ next n. alone_from n is next words (k + 1))
    (λ w.
    on_follows (follows_of i r (get_or words w 0)) (λ next. alone_from zero is next words (k + 1))
    (λ new. alone_from zero is r (set words w new) (k + 1)))

-- "from instruction 0 with registers 0"
abbrev pub alone_of : List Instr → List ℕ → Left
alone_of program words = alone_from zero program registers0 words 0
