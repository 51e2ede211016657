-- Numbers overwritten, and what is known by a case.
use Rattle.std.proofs.Common.{◌≡◌, ℕ, ◌+◌, ◌≤◌, List, ◌++◌, length, drop, replicate, sym, ap, subst, ◌∙◌, arith}
use Rattle.std.proofs.lemmas.List.{length-replicate}
use Rattle.parts.specs.Lay.{lay}
use Rattle.parts.proofs.Lay.{lay_is}

-- the first numbers overwritten by one that is the same for all
pub lay_first :
    (n m x : ℕ) (ys l : List ℕ) →
    ys ≡ replicate m x →
    m ≡ n →
    n ≤ length l →
    ys ++ drop n l ≡ lay 0 (replicate n x) l
lay_first n m x ys l q e h =
    let k : n ≡ 0 + length (replicate n x) = omega (arith, length-replicate n x) in
    ap (λ (r : List ℕ). r ++ drop n l) (q ∙ ap (λ (i : ℕ). replicate i x) e) ∙
    ap (λ (i : ℕ). replicate n x ++ drop i l) k ∙ sym (lay_is 0 (replicate n x) l (omega arith))

-- what F says of a value whose case is known
pub known_of : {A : Type 0} (F : A → Type 0) (p q : A) → p ≡ q → F q → F p
known_of F p q e o = subst F (sym e) o
