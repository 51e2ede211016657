-- The laws of `lay`: one turn of a loop that lays, its end, four elements at once, one list after another, and what stands
-- where afterwards.
use Rattle.std.proofs.Common.{◌≡◌, ℕ, suc, ◌+◌, ◌≤◌, List, [], ◌∷◌, ◌++◌, length, take, drop, set, sym, refl, ap, ◌∙◌, append-nil, add-one, arith, drop_of_length-le}
use lib.Seq.{sets, length-sets, sets-eq}
use Rattle.parts.specs.Lay.{lay}

lay_sets : {A : Type 0} (at : ℕ) (xs l : List A) → lay at xs l ≡ sets l at xs
unfolding lay
lay_sets at [] l = refl
lay_sets at (x ∷ xs) l = rw add-one (lay_sets (suc at) xs (set l at x))

pub length-lay : {A : Type 0} (at : ℕ) (xs l : List A) → length (lay at xs l) ≡ length l
length-lay at xs l = ap length (lay_sets at xs l) ∙ length-sets l at xs

-- xs stand from `at` on, and all else is as it was
pub lay_is :
    {A : Type 0} (at : ℕ) (xs l : List A) →
    at + length xs ≤ length l →
    lay at xs l ≡ take at l ++ xs ++ drop (at + length xs) l
lay_is at xs l h = lay_sets at xs l ∙ sets-eq xs l at h

-- one element, and the rest from the next place on
pub lay_cons : {A : Type 0} (at next : ℕ) (x : A) (xs l : List A) → next ≡ at + 1 → lay at (x ∷ xs) l ≡ lay next xs (set l at x)
unfolding lay
lay_cons at next x xs l e = ap (λ (k : ℕ). lay k xs (set l at x)) (sym e)

-- a list laid after another is laid past it
pub lay-append :
    {A : Type 0} (at : ℕ) (xs ys l : List A) →
    lay at (xs ++ ys) l ≡ lay (at + length xs) ys (lay at xs l)
unfolding lay
lay-append at [] ys l = ap (λ (k : ℕ). lay k ys l) (omega arith)
lay-append at (x ∷ xs) ys l =
    lay-append (at + 1) xs ys (set l at x) ∙ ap (λ (k : ℕ). lay k ys (lay (at + 1) xs (set l at x))) (omega arith)

-- a list laid over one as long
pub lay_whole : {A : Type 0} (xs l : List A) → length xs ≡ length l → lay 0 xs l ≡ xs
lay_whole xs l h =
    let q : length l ≤ 0 + length xs = omega arith in
    lay_is 0 xs l (omega arith) ∙ ap (λ (r : List _). xs ++ r) (drop_of_length-le l q) ∙ append-nil xs

-- a loop that has ys yet to lay from `at` on lays the first of them
pub lay_step :
    {A : Type 0} (goal l xs ys : List A) (at next : ℕ) (x : A) →
    next ≡ at + 1 →
    ys ≡ x ∷ xs →
    goal ≡ lay at ys l →
    goal ≡ lay next xs (set l at x)
lay_step goal l xs ys at next x n e g = g ∙ ap (λ (r : List _). lay at r l) e ∙ lay_cons at next x xs l n

-- a loop that has none yet to lay is done
pub lay_done : {A : Type 0} (goal l ys : List A) (at : ℕ) → ys ≡ [] → goal ≡ lay at ys l → l ≡ goal
unfolding lay
lay_done goal l ys at e g = sym (g ∙ ap (λ (r : List _). lay at r l) e)
