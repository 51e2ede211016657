-- One entry put into the array of entries: what was filled by that, and the filled entries of each sheet; and a log that is emptied.
use Rattle.std.specs.Prelude.{None, Option, Some}
use Prim.Native.Nat.{ℕ, zero, suc, ◌+◌, ◌<◌}
use mathlib.Core.Bool.{Bool, true, false}
use mathlib.Core.List.{List, [], ◌∷◌}
use mathlib.Core.Path.{◌≡◌, refl, sym, ap, ◌∙◌}
use native.Mathlib.Omega.{arith}
use borrow.Author.Tests.{eqb-true, eqb-false, eq-eqb, ne_eqb, lt-ltb}
use lib.Dec.{eqb}
use lib.ListN.{get_or, set, length, replicate}
use lib.Seq.{get_or-set_same, get_or-set_other}
use Rattle.parts.specs.Lay.{lay}
use Rattle.parts.specs.Numbers.{sheets, instructions, entries}
use Rattle.parts.specs.Parts.{entry0}
use Rattle.parts.specs.Pick.{pick, on_option}
use Rattle.parts.specs.declared.Entry.{Entry}
use Rattle.parts.specs.declared.Reading.{Reading}
use Rattle.engine.specs.State.{base_of}
use Rattle.helping.specs.Machine.{put}
use Rattle.histories.specs.Filled.{sum_of}
use Rattle.histories.specs.Filling.{Filling, new_from}
use Rattle.histories.proofs.Map.Put.{logs_of, lay_log_lem}

module _ (make : ℕ → Reading → Filling) where
  same_fill : (f : Option Reading) (rest : List Filling) (n : ℕ) → on_option f (on_option f rest (λ what. make n what ∷ rest)) (λ first. rest) ≡ rest
  same_fill None rest n = refl
  same_fill (Some r) rest n = refl

  new_none : (n : ℕ) (l : List Entry) → new_from make n l l ≡ []
  unfolding new_from
  new_none n [] = refl
  new_none n (x ∷ l) = same_fill x.fill (new_from make (n + 1) l l) n ∙ new_none (n + 1) l

  -- what one entry put fills: it, if it was empty and is filled
  abbrev pub filled_at : ℕ → Option Reading → Option Reading → List Filling
  filled_at n f g = on_option f (on_option g [] (λ what. make n what ∷ [])) (λ first. [])

  pub new_set :
      (n k : ℕ) (l : List Entry) (y : Entry) → k < length l →
      new_from make n l (set l k y) ≡ filled_at (n + k) (get_or l k entry0).fill y.fill
  unfolding new_from
  new_set n k [] y h = absurd (omega arith)
  new_set n zero (x ∷ l) y h =
      ap
      (λ (rest : List Filling).
      on_option x.fill (on_option y.fill rest (λ what. make n what ∷ rest)) (λ first. rest)) (new_none (n + 1) l) ∙
      ap (λ (m : ℕ). filled_at m x.fill y.fill) (let q : n ≡ n + 0 = omega arith in q)
  new_set n (suc k) (x ∷ l) y h =
      same_fill x.fill (new_from make (n + 1) l (set l k y)) n ∙ new_set (n + 1) k l y (omega arith) ∙
      ap (λ (m : ℕ). filled_at m (get_or l k entry0).fill y.fill) (let q : n + 1 + k ≡ n + suc k = omega arith in q)

-- sums that differ nowhere, and at one place
pub sum_same : (n : ℕ) (f g : ℕ → ℕ) → ((p : ℕ) → p < n → g p ≡ f p) → sum_of n g ≡ sum_of n f
unfolding sum_of
sum_same zero f g h = refl
sum_same (suc n) f g h =
    let q = h n (omega arith) in
    let r = sum_same n f g (λ p b. h p (omega arith)) in
    omega arith

pub sum_but :
    (n : ℕ) (f g : ℕ → ℕ) (k : ℕ) → k < n → ((p : ℕ) → p < n → (p ≡ k → ⊥) → g p ≡ f p) → sum_of n g + f k ≡ sum_of n f + g k
unfolding sum_of
sum_but zero f g k b h = absurd (omega arith)
sum_but (suc n) f g k b h = go (eqb n k) refl (λ l. sum_but n f g k l (λ p c. h p (omega arith)))
  where
    go : (t : Bool) → eqb n k ≡ t → (k < n → sum_of n g + f k ≡ sum_of n f + g k) → g n + sum_of n g + f k ≡ f n + sum_of n f + g k
    go true e less =
        let q = eqb-true n k e in
        let r = sum_same n f g (λ p l. h p (omega arith) (λ z. omega arith)) in
        let a : f k ≡ f n = ap f (sym q) in
        let c : g k ≡ g n = ap g (sym q) in
        omega arith
    go false e less =
        let q = eqb-false n k e in
        let r = less (omega arith) in
        let c = h n (omega arith) q in
        omega arith

-- the filled entries of each sheet of an array
abbrev pub marked : Option Reading → ℕ
marked f = on_option f 0 (λ what. 1)

abbrev pub filled_of : List Entry → ℕ → ℕ
filled_of l s = sum_of instructions (λ p. marked (get_or l (base_of s + p) entry0).fill)

module _ (l : List Entry) (s k : ℕ) (y : Entry) (b : k < instructions) (h : base_of s + k < length l) where
  pub filled_here : filled_of (set l (base_of s + k) y) s + marked (get_or l (base_of s + k) entry0).fill ≡ filled_of l s + marked y.fill
  filled_here =
      let now : ℕ → ℕ = λ p. marked (get_or (set l (base_of s + k) y) (base_of s + p) entry0).fill in
      let at : now k ≡ marked y.fill = ap (λ (x : Entry). marked x.fill) (get_or-set_same l (base_of s + k) y entry0 h) in
      let all = sum_but instructions (λ p. marked (get_or l (base_of s + p) entry0).fill) now k b
      (λ p c n. ap (λ (x : Entry). marked x.fill) (get_or-set_other l (base_of s + k) (base_of s + p) y entry0 (λ e. n (omega arith)))) in
      all ∙ ap (λ (m : ℕ). filled_of l s + m) at

  pub filled_there : (t : ℕ) → (t ≡ s → ⊥) → filled_of (set l (base_of s + k) y) t ≡ filled_of l t
  filled_there t n =
      sum_same instructions _ _
      (λ p c. ap (λ (x : Entry). marked x.fill) (get_or-set_other l (base_of s + k) (base_of t + p) y entry0 (λ e. n (omega arith))))

-- a log that begin empties, and the others
pub sum_none : (n : ℕ) → sum_of n (λ p. 0) ≡ 0
unfolding sum_of
sum_none zero = refl
sum_none (suc n) = let q = sum_none n in omega arith

pub log_at : (l : List Entry) (t p : ℕ) → p < instructions → logs_of l t p ≡ (get_or l (base_of t + p) entry0).fill
log_at l t p b = simp (lt-ltb p instructions b)

module _ (l : List Entry) (s : ℕ) (n : length l ≡ entries) (h : s < sheets) where
  abbrev now : List Entry
  now = lay (base_of s) (replicate instructions entry0) l

  at : (t p : ℕ) → p < instructions → (get_or now (base_of t + p) entry0).fill ≡ put (logs_of l) s (λ p. None) t p
  at t p b = sym (log_at now t p b) ∙ ap (λ (f : ℕ → ℕ → Option Reading). f t p) (lay_log_lem l s n h)

  pub emptied_here : filled_of now s ≡ 0
  emptied_here =
      sum_same instructions (λ p. 0) _ (λ p b. ap marked (at s p b ∙ ap (λ (t : Bool). pick t (λ (p : ℕ). None) (logs_of l s) p) (eq-eqb s s refl))) ∙
      sum_none instructions

  pub emptied_there : (t : ℕ) → (t ≡ s → ⊥) → filled_of now t ≡ filled_of l t
  emptied_there t q =
      sum_same instructions _ _
      (λ p b.
      ap marked (at t p b ∙ ap (λ (c : Bool). pick c (λ (p : ℕ). None) (logs_of l t) p) (ne_eqb t s q) ∙ log_at l t p b))
