-- What stands where after elements were laid over a list.
use Prim.Native.Nat.{ℕ, zero, suc, ◌+◌, ◌-◌, ◌≤◌, ◌<◌}
use native.Mathlib.Omega.{arith}
use mathlib.Core.Path.{◌≡◌, refl, ◌∙◌, sym, ap}
use mathlib.Core.List.{List, [], ◌∷◌, ◌++◌, append_assoc}
use mathlib.Core.Logic.{◌⊎◌, inl, inr}
use lib.ListN.{length, get_or, take, drop, set}
use lib.Seq.{length-take-le, take_at, drop_at, drop-set-lt, drop-set-add, take-set-le}
use Rattle.parts.specs.Lay.{lay}
use Rattle.parts.proofs.Lay.{lay_is}

-- the elements stand where they were laid
pub lay_there :
    {A : Type 0} (at : ℕ) (xs l : List A) → at + length xs ≤ length l → take (length xs) (drop at (lay at xs l)) ≡ xs
lay_there at xs l h =
    let rest = drop (at + length xs) l in
    let parted : lay at xs l ≡ take at l ++ (xs ++ rest) = lay_is at xs l h ∙ append_assoc (take at l) xs rest in
    ap (λ (m : List _). take (length xs) (drop at m)) parted ∙
    ap (λ (m : List _). take (length xs) m) (drop_at (take at l) (xs ++ rest) at (length-take-le at l (omega arith))) ∙
    take_at xs rest (length xs) refl

-- from the start they stand first, and all after them is as it was
pub lay_first : {A : Type 0} (xs l : List A) → length xs ≤ length l → lay 0 xs l ≡ xs ++ drop (length xs) l
lay_first xs l h =
    let n : 0 + length xs ≡ length xs = omega arith in
    lay_is 0 xs l (omega arith) ∙ ap (λ (k : ℕ). xs ++ drop k l) n

-- a part that ends before a store, or begins after it, is as it was
part_set :
    {A : Type 0} (base n at : ℕ) (l : List A) (x : A) → (base + n ≤ at) ⊎ (at < base) →
    take n (drop base (set l at x)) ≡ take n (drop base l)
part_set base n at l x (inl h) =
    let i : base + (at - base) ≡ at = omega arith in
    ap (λ (k : ℕ). take n (drop base (set l k x))) (sym i) ∙ ap (take n) (drop-set-add base l (at - base) x) ∙
    take-set-le n (drop base l) (at - base) x (omega arith)
part_set base n at l x (inr h) = ap (take n) (drop-set-lt base l at x h)

-- and so is a part that ends before what is laid, or begins after it
pub part_lay :
    {A : Type 0} (base n at : ℕ) (xs l : List A) → (base + n ≤ at) ⊎ (at + length xs ≤ base) →
    take n (drop base (lay at xs l)) ≡ take n (drop base l)
unfolding lay
part_lay base n at [] l h = refl
part_lay base n at (x ∷ xs) l (inl h) =
    part_lay base n (at + 1) xs (set l at x) (inl (omega arith)) ∙ part_set base n at l x (inl h)
part_lay base n at (x ∷ xs) l (inr h) =
    part_lay base n (at + 1) xs (set l at x) (inr (omega arith)) ∙ part_set base n at l x (inr (omega arith))

-- a store that changes nothing of what f reads
pub set_same :
    {A B : Type 0} (f : A → B) (l : List A) (i : ℕ) (x d : A) → f x ≡ f (get_or l i d) →
    (k : ℕ) → f (get_or (set l i x) k d) ≡ f (get_or l k d)
set_same f [] i x d h k = refl
set_same f (y ∷ l) zero x d h zero = h
set_same f (y ∷ l) zero x d h (suc k) = refl
set_same f (y ∷ l) (suc i) x d h zero = refl
set_same f (y ∷ l) (suc i) x d h (suc k) = set_same f l i x d h k
