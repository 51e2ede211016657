-- What holds of jobs one after the other, and of a first part of one.
use Prim.Native.Nat.{ℕ, zero, suc, ◌+◌, ◌≤◌}
use mathlib.Core.Path.{◌≡◌, refl, sym, ap, ◌∙◌}
use mathlib.Core.Bool.{Bool}
use mathlib.Core.List.{List, [], ◌∷◌}
use native.Mathlib.Omega.{arith}
use lib.ListN.{length, get_or, drop, length-drop}
use Rattle.parts.specs.Instr.{asks_of, follows_of}
use Rattle.parts.specs.declared.Asks.{Asks}
use Rattle.parts.specs.declared.Asks.TheVariants.{Halt, Go, Touch}
use Rattle.parts.specs.declared.Instr.{Instr}
use Rattle.parts.specs.declared.Registers.{Registers}
use Rattle.alone.specs.Alone.{Left, left_of, touched_registers, touched_words, alone_from, alone_of}
use Rattle.alone.specs.Jobs.{Try, gives_of, part_from, part_of}
use Rattle.alone.proofs.Bounds.{alone_length}
use Rattle.alone.proofs.Laws.{alone_drop, touched_on}

pub gives_length : (ts : List Try) (values : List ℕ) → length (gives_of ts values) ≡ length values
unfolding gives_of
gives_length [] values = refl
gives_length (t ∷ ts) values = alone_length t.program (gives_of ts values) ∙ gives_length ts values

-- one instruction executed leads from here on to there: of what the job leaves, and of each first part
pub record Leads (is : List Instr) (r : Registers) (words : List ℕ) (is' : List Instr) (r' : Registers) (words' : List ℕ) :
    Type 0 where
  pub alone : (k : ℕ) → alone_from zero is r words k ≡ alone_from zero is' r' words' (k + 1)
  pub part : (k : ℕ) → part_from (suc k) is r words ≡ part_from k is' r' words'

module _ (i : Instr) (is : List Instr) (r : Registers) (words : List ℕ) where
  pub alone_halts :
      (said : Bool) → asks_of i r ≡ Halt said → (k : ℕ) → alone_from zero (i ∷ is) r words k ≡ left_of said (k + 1) words
  unfolding alone_from
  alone_halts said e k = rw e

  pub part_halts : (said : Bool) → asks_of i r ≡ Halt said → (k : ℕ) → part_from k (i ∷ is) r words ≡ words
  unfolding part_from
  part_halts said e zero = refl
  part_halts said e (suc k) = rw e

  pub go_leads : (next : Registers) (n : ℕ) → asks_of i r ≡ Go next n → Leads (i ∷ is) r words (drop n is) next words
  unfolding alone_from part_from
  go_leads next n e = record { alone = λ k. rw e (alone_drop n is next words (k + 1)); part = λ k. rw e }

  pub touch_leads :
      (w : ℕ) → asks_of i r ≡ Touch w →
      Leads (i ∷ is) r words is (touched_registers i r w words) (touched_words i r w words)
  unfolding alone_from part_from
  touch_leads w e =
      record {
        alone = λ k.
            rw e
            (touched_on (follows_of i r (get_or words w 0)) r w words (λ next after. alone_from zero is next after (k + 1)));
        part = λ k. rw e;
      }

-- the first part of as many instructions as there are is all of the job
from_all :
    (n : ℕ) (is : List Instr) (r : Registers) (words : List ℕ) (k : ℕ) → length is ≤ n →
    part_from n is r words ≡ (alone_from zero is r words k).words
unfolding alone_from part_from
from_all zero [] r words k h = refl
from_all zero (i ∷ is) r words k h = absurd (omega arith)
from_all (suc n) [] r words k h = refl
from_all (suc n) (i ∷ is) r words k h = by (asks_of i r) refl (from_all n)
  where
    on :
        (is' : List Instr) (r' : Registers) (words' : List ℕ) → Leads (i ∷ is) r words is' r' words' →
        part_from n is' r' words' ≡ (alone_from zero is' r' words' (k + 1)).words →
        part_from (suc n) (i ∷ is) r words ≡ (alone_from zero (i ∷ is) r words k).words
    on is' r' words' l e = l.part n ∙ e ∙ sym (ap (λ (t : Left). t.words) (l.alone k))

    by :
        (q : Asks) → asks_of i r ≡ q →
        ((is' : List Instr) (r' : Registers) (words' : List ℕ) (k' : ℕ) → length is' ≤ n →
        part_from n is' r' words' ≡ (alone_from zero is' r' words' k').words) →
        part_from (suc n) (i ∷ is) r words ≡ (alone_from zero (i ∷ is) r words k).words
    by (Halt said) e rest =
        part_halts i is r words said e (suc n) ∙
        sym (ap (λ (t : Left). t.words) (alone_halts i is r words said e k))
    by (Go next m) e rest =
        on _ _ _ (go_leads i is r words next m e) (rest _ _ _ _ (omega (arith, length-drop m is)))
    by (Touch w) e rest = on _ _ _ (touch_leads i is r words w e) (rest _ _ _ _ (omega arith))

pub part_all : (program : List Instr) (words : List ℕ) → part_of (length program) program words ≡ (alone_of program words).words
part_all program words = from_all (length program) program _ words 0 (omega arith)
