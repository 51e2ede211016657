-- arrays' turns of a loop, where the element is what a state read it as.
use Prim.Native.Nat.{ℕ, ◌+◌, ◌*◌, ◌≤◌, ◌<◌}
use mathlib.Core.Path.{◌≡◌, ◌∙◌, sym, ap}
use mathlib.Core.List.{List, [], ◌∷◌, map}
use lib.ListN.{length, get_or, take, drop, set}
use Rattle.parts.specs.Lay.{lay}
use Rattle.parts.specs.declared.Instr.{Instr}
use Rattle.records.specs.Job.{code_bytes}
use Rattle.arrays.proofs.Laws.{Fours, map_turn, four_turn, code_put}

module _
    {A : Type 0} (xs : List A) (d x : A) (n j : ℕ) (q : x ≡ get_or xs j d) (h : j < n) (k : n ≤ length xs) where
  -- its f is laid
  pub map_lent :
      {B : Type 0} (f : A → B) (goal l : List B) (at next : ℕ) →
      goal ≡ lay at (map f (drop j (take n xs))) l →
      next ≡ at + 1 →
      goal ≡ lay next (map f (drop (j + 1) (take n xs))) (set l at (f x))
  map_lent f goal l at next g e =
      map_turn f goal l xs at next n j d g e h k ∙
      ap (λ (y : A). lay next (map f (drop (j + 1) (take n xs))) (set l at (f y))) (sym q)

  -- its four bytes are laid
  pub four_lent :
      (f : List A → List ℕ) (goal l next : List ℕ) (at : ℕ) →
      Fours f →
      goal ≡ lay (at + 4 * j) (f (drop j (take n xs))) l →
      next ≡ lay (at + 4 * j) (f (x ∷ [])) l →
      goal ≡ lay (at + 4 * (j + 1)) (f (drop (j + 1) (take n xs))) next
  four_lent f goal l next at w g e =
      four_turn f goal l next xs at n j d w g (e ∙ ap (λ (y : A). lay (at + 4 * j) (f (y ∷ [])) l) q) h k

-- the same, of the instructions from `base` on
pub code_lent :
    (goal l next : List ℕ) (program : List Instr) (base at n j : ℕ) (d x : Instr) →
    x ≡ get_or program (base + j) d →
    goal ≡ lay (at + 4 * j) (code_bytes (drop j (take n (drop base program)))) l →
    next ≡ lay (at + 4 * j) (code_bytes (x ∷ [])) l →
    j < n →
    base + n ≤ length program →
    goal ≡ lay (at + 4 * (j + 1)) (code_bytes (drop (j + 1) (take n (drop base program)))) next
code_lent goal l next program base at n j d x q g e h k =
    code_put goal l next program base at n j d g (e ∙ ap (λ (y : Instr). lay (at + 4 * j) (code_bytes (y ∷ [])) l) q) h k
