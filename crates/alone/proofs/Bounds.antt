-- What holds of every job alone: it leaves as many words as there were, and executes at least one instruction and at most all.
use Prim.Native.Nat.{ℕ, zero, suc, ◌+◌, ◌≤◌}
use mathlib.Core.Path.{◌≡◌, refl, ◌∙◌}
use mathlib.Core.Bool.{Bool}
use mathlib.Core.List.{List, [], ◌∷◌}
use native.Mathlib.Omega.{arith}
use lib.ListN.{length, get_or, set, length-set}
use Rattle.parts.specs.Instr.{asks_of, follows_of, on_asks, on_follows}
use Rattle.parts.specs.declared.Asks.{Asks}
use Rattle.parts.specs.declared.Asks.TheVariants.{Halt, Go, Touch}
use Rattle.parts.specs.declared.Follows.{Follows}
use Rattle.parts.specs.declared.Follows.TheVariants.{Done, Swap}
use Rattle.parts.specs.declared.Instr.{Instr}
use Rattle.parts.specs.declared.Registers.{Registers}
use Rattle.alone.specs.Alone.{Left, alone_from, alone_of}

-- what holds in each case of what an instruction asks, and of what follows, holds of every one
pub asks_all :
    {A : Type 0} (P : A → Type 0) (q : Asks) {h : Bool → A} {g : Registers → ℕ → A} {t : ℕ → A} →
    ((said : Bool) → P (h said)) →
    ((next : Registers) (n : ℕ) → P (g next n)) →
    ((w : ℕ) → P (t w)) →
    P (on_asks q h g t)
asks_all P (Halt said) ph pg pt = ph said
asks_all P (Go next n) ph pg pt = pg next n
asks_all P (Touch w) ph pg pt = pt w

pub follows_all :
    {A : Type 0} (P : A → Type 0) (f : Follows) {d : Registers → A} {s : ℕ → A} →
    ((next : Registers) → P (d next)) →
    ((new : ℕ) → P (s new)) →
    P (on_follows f d s)
follows_all P (Done next) pd ps = pd next
follows_all P (Swap new) pd ps = ps new

-- what holds of a halt, and of the rest of the program with any registers and any words that are as many, holds of one turn
turn_all :
    (P : Left → Type 0) (i : Instr) (is : List Instr) (r : Registers) (words : List ℕ) (k : ℕ) →
    ((said : Bool) → P (record { yes = said; executed = k + 1; words = words })) →
    ((n : ℕ) (next : Registers) (after : List ℕ) → length after ≡ length words → P (alone_from n is next after (k + 1))) →
    P (alone_from zero (i ∷ is) r words k)
unfolding alone_from
turn_all P i is r words k ph pf =
    asks_all P (asks_of i r) ph (λ next n. pf n next words refl)
    (λ w.
    follows_all P (follows_of i r (get_or words w 0)) (λ next. pf zero next words refl)
    (λ new. pf zero r (set words w new) (length-set words w new)))

-- words keep their number
pub from_length :
    (n : ℕ) (is : List Instr) (r : Registers) (words : List ℕ) (k : ℕ) →
    length (alone_from n is r words k).words ≡ length words
unfolding alone_from
from_length n [] r words k = refl
from_length (suc n) (i ∷ is) r words k = from_length n is r words k
from_length zero (i ∷ is) r words k =
    turn_all (λ l. length l.words ≡ length words) i is r words k (λ said. refl)
    (λ n next after e. from_length n is next after (k + 1) ∙ e)

pub alone_length : (program : List Instr) (words : List ℕ) → length (alone_of program words).words ≡ length words
alone_length program words = from_length zero program _ words 0

-- a number that lies between two
abbrev pub Between : ℕ → ℕ → ℕ → Type 0
Between low high n = (low ≤ n) × (n ≤ high)

wider : (low high low' high' n : ℕ) → low' ≤ low → high ≤ high' → Between low high n → Between low' high' n
wider low high low' high' n a b (p, q) = (omega arith, omega arith)

-- the first instruction counts, whatever it is
turn_executed :
    (i : Instr) (is : List Instr) (r : Registers) (words : List ℕ) (k : ℕ) →
    ((n : ℕ) (next : Registers) (after : List ℕ) →
    Between (k + 1) (k + 1 + length is) (alone_from n is next after (k + 1)).executed) →
    Between (k + 1) (k + 1 + length is) (alone_from zero (i ∷ is) r words k).executed
turn_executed i is r words k rest =
    turn_all (λ l. Between (k + 1) (k + 1 + length is) l.executed) i is r words k (λ said. (omega arith, omega arith))
    (λ n next after e. rest n next after)

-- once k were executed, no more than the instructions that are left
pub from_executed :
    (n : ℕ) (is : List Instr) (r : Registers) (words : List ℕ) (k : ℕ) →
    Between k (k + length is) (alone_from n is r words k).executed
unfolding alone_from
from_executed n [] r words k = (omega arith, omega arith)
from_executed (suc n) (i ∷ is) r words k =
    wider k (k + length is) _ _ _ (omega arith) (omega arith) (from_executed n is r words k)
from_executed zero (i ∷ is) r words k =
    wider (k + 1) (k + 1 + length is) _ _ _ (omega arith) (omega arith)
    (turn_executed i is r words k (λ n next after. from_executed n is next after (k + 1)))

-- a program that has an instruction executes at least one, and at most as many as it has
pub alone_executed :
    (i : Instr) (is : List Instr) (words : List ℕ) →
    Between 1 (length (i ∷ is)) (alone_of (i ∷ is) words).executed
alone_executed i is words =
    wider 1 (1 + length is) _ _ _ (omega arith) (omega arith)
    (turn_executed i is _ words 0 (λ n next after. from_executed n is next after 1))
