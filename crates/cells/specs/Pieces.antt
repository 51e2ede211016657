-- Arrays of pieces, of some numbers each, in one list of numbers.
use Rattle.std.specs.Prelude.{ℕ, zero, suc, ◌+◌, ◌*◌, List, [], ◌∷◌, get_or}
use Rattle.parts.specs.Lay.{lay}

-- k numbers from at + j on
abbrev pub reads : List ℕ → ℕ → ℕ → ℕ → List ℕ
reads s at j zero = []
reads s at j (suc k) = get_or s (at + j) 0 ∷ reads s at (j + 1) k

-- f j, f (j + 1), .., n of them
unfoldable pub tab : {A : Type 0} → ℕ → ℕ → (ℕ → A) → List A
tab j zero f = []
tab j (suc n) f = f j ∷ tab (suc j) n f

-- An array of pieces: what a piece's numbers say and what they are, where the array begins, from one piece to the next, how many
-- numbers of a piece are used, and how many pieces there are.
pub record Part (A : Type 0) : Type 0 where
  pub reading : List ℕ → A
  pub writing : A → List ℕ
  pub base : ℕ
  pub width : ℕ
  pub used : ℕ
  pub count : ℕ

abbrev pub place_of : {A : Type 0} → Part A → ℕ → ℕ
place_of p i = p.base + i * p.width

-- where the array ends
abbrev pub end_of : {A : Type 0} → Part A → ℕ
end_of p = p.base + p.count * p.width

unfoldable pub pieces_of : {A : Type 0} → Part A → List ℕ → List A
pieces_of p s = tab 0 p.count (λ i. p.reading (reads s (place_of p i) 0 p.used))

-- the numbers with piece i written
unfoldable pub put_piece : {A : Type 0} → Part A → List ℕ → ℕ → A → List ℕ
put_piece p s i x = lay (place_of p i) (p.writing x) s
