-- How an array, or a lent buffer, is written: elements laid one after the other from a place on, all others as they were.
use Rattle.std.specs.Prelude.{ℕ, ◌+◌, List, [], ◌∷◌, slice_set}

-- xs over l, from place `at` on
unfoldable pub lay : {A : Type 0} → ℕ → List A → List A → List A
lay at [] l = l
lay at (x ∷ xs) l = lay (at + 1) xs (slice_set l at x)
