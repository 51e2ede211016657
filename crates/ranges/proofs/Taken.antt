-- What is known of the pieces that an accepted begin or setup takes out of its record.
use Rattle.std.specs.Prelude.{Ok}
use Prim.Native.Nat.{ℕ, zero, suc, ◌+◌, ◌-◌, ◌*◌, ◌≤◌}
use native.Mathlib.Omega.{arith}
use mathlib.Core.Path.{◌≡◌}
use mathlib.Core.List.{List, [], ◌∷◌, map}
use mathlib.Core.Logic.{⊎_elim}
use lib.ListN.{length, drop, get_or-eq_default}
use Rattle.arrays.specs.Fresh.{words_from, free_at}
use Rattle.parts.specs.Numbers.{last_turn}
use Rattle.parts.specs.Parts.{instr0, lock0, word0}
use Rattle.parts.proofs.Order.{below_or_not}
use Rattle.records.specs.Bytes.{AllBytes, u32s_of}
use Rattle.records.specs.Job.{instrs_of, job_of}
use Rattle.records.specs.Setup.{locks_field, words_field, guards_field, values_field, turns_field, setup_told}
use Rattle.records.proofs.One.{setup_sized}
use Rattle.records.proofs.Takes.{guards_below, turns_below}
use Rattle.ranges.specs.Good.{Fits32, Byte, GoodLock, GoodWord, GoodInstr}
use Rattle.ranges.proofs.Frame.{All, take_all, drop_all}

-- the instructions of bytes, and the numbers of bytes
pub instr0_good : GoodInstr instr0
instr0_good = record { op = omega arith; a = omega arith; b = omega arith; c = omega arith }

instrs_good : (s : List ℕ) → AllBytes s → All GoodInstr (instrs_of s) instr0
unfolding instrs_of
instrs_good [] h k = instr0_good
instrs_good (o ∷ []) h k = instr0_good
instrs_good (o ∷ a ∷ []) h k = instr0_good
instrs_good (o ∷ a ∷ b ∷ []) h k = instr0_good
instrs_good (o ∷ a ∷ b ∷ c ∷ s) h zero = record { op = h 0; a = h 1; b = h 2; c = h 3 }
instrs_good (o ∷ a ∷ b ∷ c ∷ s) h (suc k) = instrs_good s (λ j. h (suc (suc (suc (suc j))))) k

pub job_good : (rec : List ℕ) → AllBytes rec → All GoodInstr (job_of rec) instr0
job_good rec h = instrs_good (drop 4 rec) (drop_all Byte 4 rec 0 (omega arith) h)

u32s_fit : (s : List ℕ) → AllBytes s → All Fits32 (u32s_of s) 0
unfolding u32s_of
u32s_fit [] h k = omega arith
u32s_fit (a ∷ []) h k = omega arith
u32s_fit (a ∷ b ∷ []) h k = omega arith
u32s_fit (a ∷ b ∷ c ∷ []) h k = omega arith
u32s_fit (a ∷ b ∷ c ∷ d ∷ s) h zero =
    let p = h 0 in
    let q = h 1 in
    let r = h 2 in
    let t = h 3 in
    omega arith
u32s_fit (a ∷ b ∷ c ∷ d ∷ s) h (suc k) = u32s_fit s (λ j. h (suc (suc (suc (suc j))))) k

pub word0_good : (L : ℕ) → GoodWord L word0
word0_good L = record { value = omega arith; count = omega arith; guard = omega arith }

pub lock0_good : GoodLock lock0
lock0_good = record { turn = omega arith; holder = tt }

words_good :
    (L : ℕ) (guards values : List ℕ) → All (λ g. g ≤ L - 1) guards 0 → All Fits32 values 0 →
    All (GoodWord L) (words_from guards values) word0
unfolding words_from
words_good L [] values g v k = word0_good L
words_good L (x ∷ guards) [] g v k = word0_good L
words_good L (x ∷ guards) (y ∷ values) g v zero = record { value = v zero; count = omega arith; guard = g zero }
words_good L (x ∷ guards) (y ∷ values) g v (suc k) = words_good L guards values (λ j. g (suc j)) (λ j. v (suc j)) k

locks_good : (turns : List ℕ) → All (λ t. t ≤ last_turn) turns 0 → All GoodLock (map free_at turns) lock0
locks_good [] h k = lock0_good
locks_good (t ∷ turns) h zero = record { turn = h zero; holder = tt }
locks_good (t ∷ turns) h (suc k) = locks_good turns (λ j. h (suc j)) k

-- what setup reads
pub setup_words :
    (rec : List ℕ) → AllBytes rec → setup_told rec ≡ Ok tt →
    All (GoodWord (locks_field rec)) (words_from (guards_field rec) (values_field rec)) word0
setup_words rec b h =
    let z = setup_sized rec h in
    words_good (locks_field rec) (guards_field rec) (values_field rec) below
    (u32s_fit _ (take_all Byte (4 * words_field rec) _ 0 (omega arith) (drop_all Byte (6 + words_field rec) rec 0 (omega arith) b)))
  where
    below : All (λ g. g ≤ locks_field rec - 1) (guards_field rec) 0
    below k =
        ⊎_elim
        (λ q. omega (arith, guards_below (guards_field rec) (locks_field rec) 6 (setup_sized rec h).guards k q))
        (λ q. omega (arith, get_or-eq_default (guards_field rec) 0 q))
        (below_or_not k (length (guards_field rec)))

pub setup_locks : (rec : List ℕ) → setup_told rec ≡ Ok tt → All GoodLock (map free_at (turns_field rec)) lock0
setup_locks rec h = locks_good (turns_field rec) (turns_below (turns_field rec) _ (setup_sized rec h).turns)
