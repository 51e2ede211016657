-- One turn and the end of a loop over a list.
use Prim.Native.Nat.{ℕ, ◌+◌, ◌≤◌, ◌<◌}
use mathlib.Core.Path.{◌≡◌, ◌∙◌, ap}
use mathlib.Core.List.{List, [], ◌∷◌}
use native.Mathlib.Numerals.{add-one}
use lib.ListN.{length, get_or, drop, drop_of_length-le}
use lib.Seq.{drop-cons}

-- a loop at place j of s: the byte there, and those after it; at the end there are none
pub turn :
    {A : Type 0} (f : List ℕ → A) (goal : A) (s : List ℕ) (j : ℕ) →
    goal ≡ f (drop j s) →
    j < length s →
    goal ≡ f (get_or s j 0 ∷ drop (j + 1) s)
turn f goal s j g h = g ∙ ap f (drop-cons s j 0 h ∙ simp (add-one j))

pub end : {A : Type 0} (f : List ℕ → A) (goal : A) (s : List ℕ) (j : ℕ) → goal ≡ f (drop j s) → length s ≤ j → goal ≡ f []
end f goal s j g h = g ∙ ap f (drop_of_length-le s h)
