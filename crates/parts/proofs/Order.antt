-- The order in which refusals are given: a refusal is told exactly when its row refuses and every row before it accepts.
-- And what is known of the test of a row that accepts.
use Rattle.std.specs.Prelude.{Err, Ok}
use Rattle.std.proofs.Common.{◌≡◌, ℕ, zero, suc, ◌<◌, ◌≤◌, Bool, true, false, eqb, ltb, ◌⊎◌, ◌↔◌, List, [], ◌∷◌, get_or, sym, refl, ◌∙◌, inl, inr, arith, ltb-false, ltb-true, eqb-true}
use Rattle.parts.specs.Pick.{pick, ◌or◌, ◌isnt◌}
use Rattle.parts.specs.Told.{◌then◌, refuse_if, first_of, FirstAt}
use Rattle.parts.specs.declared.Refusal.{Refusal}
use Rattle.parts.specs.Told.{Told}

-- the first row, and the order of those after it
pub first_cons : (t : Told) (ts : List Told) → first_of (t ∷ ts) ≡ (t then first_of ts)
first_cons (Ok _) [] = refl
first_cons (Err r) [] = refl
first_cons t (u ∷ ts) = refl

first_told_lem : (rows : List Told) (r : Refusal) → first_of rows ≡ Err r → (i : ℕ) × FirstAt rows r i
first_told_lem [] r h = let z : ◌≡◌ {A = ℕ} 0 1 = cc in absurd (omega arith)
first_told_lem (Err s ∷ ts) r h =
    let e : Err s ≡ Err r = sym (first_cons (Err s) ts) ∙ h in
    (zero, (omega arith, e, λ j k. absurd (omega arith)))
first_told_lem (Ok _ ∷ ts) r h = go (first_told_lem ts r (sym (first_cons (Ok tt) ts) ∙ h))
  where
    go : ((i : ℕ) × FirstAt ts r i) → (i : ℕ) × FirstAt (Ok tt ∷ ts) r i
    go (i, (k, e, p)) = (suc i, (omega arith, e, before))
      where
        before : (j : ℕ) → j < suc i → get_or (Ok tt ∷ ts) j (Ok tt) ≡ Ok tt
        before zero q = refl
        before (suc j) q = p j (omega arith)

told_first : (rows : List Told) (r : Refusal) (i : ℕ) → FirstAt rows r i → first_of rows ≡ Err r
told_first [] r i (k, e, p) = absurd (omega arith)
told_first (t ∷ ts) r zero (k, e, p) = first_cons t ts ∙ simp e
told_first (t ∷ ts) r (suc i) (k, e, p) =
    let q : t ≡ Ok tt = p zero (omega arith) in
    first_cons t ts ∙ simp q (told_first ts r i (omega arith, e, λ j l. p (suc j) (omega arith)))

-- refused so exactly when some row refuses so and all rows before it accept
pub first_exactly : (rows : List Told) (r : Refusal) → first_of rows ≡ Err r ↔ ((i : ℕ) × FirstAt rows r i)
first_exactly rows r = (first_told_lem rows r, λ (i, h). told_first rows r i h)

-- accepted: every row accepts
pub first_all : (rows : List Told) → first_of rows ≡ Ok tt → (k : ℕ) → get_or rows k (Ok tt) ≡ Ok tt
first_all [] h k = refl
first_all (Err r ∷ ts) h k = let z : ◌≡◌ {A = ℕ} 0 1 = cc (first_cons (Err r) ts) in absurd (omega arith)
first_all (Ok _ ∷ ts) h zero = refl
first_all (Ok _ ∷ ts) h (suc k) = first_all ts (sym (first_cons (Ok tt) ts) ∙ h) k

-- two rows accept
pub both_pass : (t u : Told) → (t then u) ≡ Ok tt → (t ≡ Ok tt) × (u ≡ Ok tt)
both_pass (Ok _) u h = (refl, h)
both_pass (Err r) u h = let z : ◌≡◌ {A = ℕ} 0 1 = cc in absurd (omega arith)

-- a row that accepts: its test does not hold
pub row_passes : (b : Bool) (r : Refusal) → refuse_if b r ≡ Ok tt → b ≡ false
row_passes true r h = let z : ◌≡◌ {A = ℕ} 0 1 = cc in absurd (omega arith)
row_passes false r h = refl

-- neither of two tests holds
pub neither : (a b : Bool) → (a or b) ≡ false → (a ≡ false) × (b ≡ false)
neither true b h = let z : ◌≡◌ {A = ℕ} 0 1 = cc in absurd (omega arith)
neither false b h = (refl, h)

-- two numbers do not differ
pub not_isnt : (a b : ℕ) → (a isnt b) ≡ false → a ≡ b
not_isnt a b h = go (eqb a b) refl h
  where
    go : (q : Bool) → eqb a b ≡ q → pick q false true ≡ false → a ≡ b
    go true e k = eqb-true a b e
    go false e k = let z : ◌≡◌ {A = ℕ} 0 1 = cc in absurd (omega arith)

-- of two numbers
pub below_or_not : (a b : ℕ) → (a < b) ⊎ (b ≤ a)
below_or_not a b = go (ltb a b) refl
  where
    go : (q : Bool) → ltb a b ≡ q → (a < b) ⊎ (b ≤ a)
    go true e = inl (ltb-true a b e)
    go false e = inr (ltb-false a b e)
