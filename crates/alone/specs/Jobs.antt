-- Jobs run alone, one after the other; and a first part of one job.
use Rattle.std.specs.Prelude.{ℕ, zero, suc, ◌+◌, List, [], ◌∷◌, eqb, drop}
use Rattle.parts.specs.Instr.{asks_of, on_asks}
use Rattle.parts.specs.Parts.{registers0}
use Rattle.parts.specs.Pick.{pick}
use Rattle.parts.specs.declared.Instr.{Instr}
use Rattle.parts.specs.declared.Registers.{Registers}
use Rattle.alone.specs.Alone.{touched_registers, touched_words, alone_of}

-- a try: the number of its begin among those that were accepted (from 0), its lock, and the program that the begin gave
pub record Try : Type 0 where
  pub number : ℕ
  pub lock : ℕ
  pub program : List Instr

-- what the jobs of a list of tries give, run once each, alone, in order; the latest stands first
unfoldable pub gives_of : List Try → List ℕ → List ℕ
gives_of [] values = values
gives_of (t ∷ earlier) values = (alone_of t.program (gives_of earlier values)).words

-- how often a try stands in a list, by its number
unfoldable pub times : ℕ → List Try → ℕ
times n [] = 0
times n (t ∷ ts) = pick (eqb t.number n) 1 0 + times n ts

-- "some first part": the words' values after the first k instructions that a job alone executes, or after all of them where
-- they are fewer
unfoldable pub part_from : ℕ → List Instr → Registers → List ℕ → List ℕ
part_from zero is r words = words
part_from (suc k) [] r words = words
part_from (suc k) (i ∷ is) r words =
    on_asks (asks_of i r) (λ said. words) (λ next n. part_from k (drop n is) next words)
    (λ w. part_from k is (touched_registers i r w words) (touched_words i r w words))

abbrev pub part_of : ℕ → List Instr → List ℕ → List ℕ
part_of k program words = part_from k program registers0 words
