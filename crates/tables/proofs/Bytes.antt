-- Setup S and the jobs A and B of the example table are strings of bytes.
use Prim.Native.Nat.{ℕ, zero, suc}
use native.Mathlib.Omega.{arith}
use mathlib.Core.Path.{◌≡◌, refl}
use mathlib.Core.Bool.{Bool, true, false}
use mathlib.Core.List.{List, [], ◌∷◌}
use lib.Dec.{ltb}
use borrow.Author.Tests.{ltb-true}
use Rattle.parts.specs.Pick.{pick}
use Rattle.records.specs.Bytes.{AllBytes}
use Rattle.tables.specs.Table.{setup_s, job_a, job_skipping, job_b}

-- every element passes the test
unfoldable pub all_below : List ℕ → Bool
all_below [] = true
all_below (b ∷ s) = pick (ltb b 256) (all_below s) false

pub all_bytes : (s : List ℕ) → all_below s ≡ true → AllBytes s
unfolding all_below
all_bytes [] h k = omega arith
all_bytes (b ∷ s) h k = go (ltb b 256) refl h (all_bytes s) k
  where
    go :
        (t : Bool) → ltb b 256 ≡ t → pick t (all_below s) false ≡ true → (all_below s ≡ true → AllBytes s) → AllBytes (b ∷ s)
    go false e q rest j = let z : ◌≡◌ {A = ℕ} 0 1 = cc in absurd (omega arith)
    go true e q rest zero = ltb-true b 256 e
    go true e q rest (suc j) = rest q j

pub setup_bytes_lem : AllBytes setup_s
unfolding all_below setup_s
setup_bytes_lem = all_bytes setup_s refl

pub job_bytes_lem : AllBytes job_a
unfolding all_below job_a
job_bytes_lem = all_bytes job_a refl

pub job_b_bytes : AllBytes job_b
unfolding all_below job_skipping
job_b_bytes = all_bytes job_b refl
