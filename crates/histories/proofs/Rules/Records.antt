-- Every record of a history that is made of others, and of steps, is a string of bytes.
use Prim.Native.Nat.{ℕ, zero, suc}
use mathlib.Core.List.{List, [], ◌∷◌, ◌++◌}
use Rattle.past.specs.Past.{Call, Begin, Step, Collect, Drop, ReadWord, ReadLock, Show, Park, AllRecords, steps}

pub both_records : (a b : List Call) → AllRecords a → AllRecords b → AllRecords (a ++ b)
unfolding AllRecords
both_records [] b h k = k
both_records (Begin w l rec ∷ a) b h k = (h.0, both_records a b h.1 k)
both_records (Step w ∷ a) b h k = both_records a b h k
both_records (Collect w ∷ a) b h k = both_records a b h k
both_records (Drop w ∷ a) b h k = both_records a b h k
both_records (ReadWord i ∷ a) b h k = both_records a b h k
both_records (ReadLock l ∷ a) b h k = both_records a b h k
both_records (Show s room ∷ a) b h k = both_records a b h k
both_records (Park room ∷ a) b h k = both_records a b h k

pub steps_records : (n w : ℕ) → AllRecords (steps n w)
unfolding AllRecords
steps_records zero w = tt
steps_records (suc n) w = steps_records n w
