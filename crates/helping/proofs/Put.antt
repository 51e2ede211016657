-- A function of which one value was put anew: what it gives there and elsewhere, and what is then said of every number.
use Prim.Native.Nat.{ℕ}
use mathlib.Core.Path.{◌≡◌, refl, sym, ap, ◌∙◌, subst}
use mathlib.Core.Logic.{◌≢◌}
use mathlib.Core.Bool.{Bool, true, false}
use lib.Dec.{eqb}
use borrow.Author.Tests.{eqb-true, eqb-false}
use Rattle.parts.specs.Pick.{pick}
use Rattle.helping.specs.Machine.{put}

module _ {A : Type 0} (f : ℕ → A) (k : ℕ) (x : A) where
  -- by whether it is the number put anew
  pub put_case : (P : A → Type 0) (i : ℕ) → (i ≡ k → P x) → (i ≢ k → P (f i)) → P (put f k x i)
  put_case P i h g = go (eqb i k) refl
    where
      go : (b : Bool) → eqb i k ≡ b → P (pick b x (f i))
      go true e = h (eqb-true i k e)
      go false e = g (eqb-false i k e)

  pub put_same : put f k x k ≡ x
  put_same = put_case (λ y. y ≡ x) k (λ e. refl) (λ n. absurd (n refl))

  pub put_other : (i : ℕ) → i ≢ k → put f k x i ≡ f i
  put_other i n = put_case (λ y. y ≡ f i) i (λ e. absurd (n e)) (λ d. refl)

  -- what was there already changes nothing
  pub put_idle_lem : x ≡ f k → put f k x ≡ f
  put_idle_lem h = λ t i. put_case (λ y. y ≡ f i) i (λ e. h ∙ ap f (sym e)) (λ n. refl) t

-- what is said of each number once one of them is put anew
pub put_at_lem :
    {A : Type 0} (P : ℕ → A → Type 0) (f : ℕ → A) (i : ℕ) (x : A) → P i x → ((k : ℕ) → k ≢ i → P k (f k)) →
    (k : ℕ) → P k (put f i x k)
put_at_lem P f i x h g k = put_case f i x (P k) k (λ e. subst (λ (m : ℕ). P m x) (sym e) h) (g k)

-- what holds of one number, and of all others
pub all_but : (P : ℕ → Type 0) (s : ℕ) → P s → ((m : ℕ) → m ≢ s → P m) → (m : ℕ) → P m
all_but P s = put_at_lem (λ (m : ℕ) (u : Unit {0}). P m) (λ m. tt) s tt
