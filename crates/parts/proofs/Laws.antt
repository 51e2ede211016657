-- What a test, or the case of a value, that is known picks: `search laws` closes a return by them.
use Rattle.std.specs.Prelude.{Err, None, Ok, Option, Some}
use Rattle.std.proofs.Common.{◌≡◌, ℕ, ◌<◌, ◌≤◌, Bool, true, false, not, T, eqb, ltb, leb, sym, ◌∙◌, le-ltb, lt-ltb, eq-eqb, ne_eqb, le-leb}
use borrow.Author.Tests.{lt-leb}
use Rattle.parts.specs.Pick.{pick, ◌or◌, on_option}
use Rattle.parts.specs.Told.{◌then◌}
use Rattle.parts.specs.declared.Refusal.{Refusal}
use Rattle.parts.specs.Told.{Told}

pub pick_eq : {A : Type 0} (a b : ℕ) (x y z : A) → a ≡ b → x ≡ y → x ≡ pick (eqb a b) y z
pick_eq a b x y z h e = simp (eq-eqb a b h) e

pub pick_ne : {A : Type 0} (a b : ℕ) (x y z : A) → (a ≡ b → ⊥) → x ≡ z → x ≡ pick (eqb a b) y z
pick_ne a b x y z h e = simp (ne_eqb a b h) e

-- the number is the key k of a match, which is not the j that is tested
pub pick_key : {A : Type 0} (a j k : ℕ) (x y z : A) → a ≡ k → T (not (eqb k j)) → x ≡ z → x ≡ pick (eqb a j) y z
pick_key a j k x y z h t e = simp h (go (eqb k j) t)
  where
    go : (b : Bool) → T (not b) → x ≡ pick b y z
    go true t = absurd t
    go false t = e

pub pick_le : {A : Type 0} (a b : ℕ) (x y z : A) → a ≤ b → x ≡ y → x ≡ pick (leb a b) y z
pick_le a b x y z h e = simp (le-leb a b h) e

pub pick_nle : {A : Type 0} (a b : ℕ) (x y z : A) → b < a → x ≡ z → x ≡ pick (leb a b) y z
pick_nle a b x y z h e = simp (lt-leb a b h) e

pub pick_lt : {A : Type 0} (a b : ℕ) (x y z : A) → a < b → x ≡ y → x ≡ pick (ltb a b) y z
pick_lt a b x y z h e = simp (lt-ltb a b h) e

pub pick_nlt : {A : Type 0} (a b : ℕ) (x y z : A) → b ≤ a → x ≡ z → x ≡ pick (ltb a b) y z
pick_nlt a b x y z h e = simp (le-ltb a b h) e

pub pick_true : {A : Type 0} (b : Bool) (x y z : A) → b ≡ true → x ≡ y → x ≡ pick b y z
pick_true b x y z h e = simp h e

pub pick_false : {A : Type 0} (b : Bool) (x y z : A) → b ≡ false → x ≡ z → x ≡ pick b y z
pick_false b x y z h e = simp h e

-- the number that is tested is a callee's result r, of which the callee ensures what it is
pub pick_eq_by : {A : Type 0} (r a b : ℕ) (x y z : A) → r ≡ a → r ≡ b → x ≡ y → x ≡ pick (eqb a b) y z
pick_eq_by r a b x y z q h e = simp (eq-eqb a b (sym q ∙ h)) e

pub pick_ne_by : {A : Type 0} (r a b : ℕ) (x y z : A) → r ≡ a → (r ≡ b → ⊥) → x ≡ z → x ≡ pick (eqb a b) y z
pick_ne_by r a b x y z q h e = simp (ne_eqb a b (λ k. h (q ∙ k))) e

-- the same, of two callees' results
pub pick_eq_both : {A : Type 0} (r q a b : ℕ) (x y z : A) → r ≡ a → q ≡ b → r ≡ q → x ≡ y → x ≡ pick (eqb a b) y z
pick_eq_both r q a b x y z h k e f = simp (eq-eqb a b (sym h ∙ e ∙ k)) f

pub pick_ne_both : {A : Type 0} (r q a b : ℕ) (x y z : A) → r ≡ a → q ≡ b → (r ≡ q → ⊥) → x ≡ z → x ≡ pick (eqb a b) y z
pick_ne_both r q a b x y z h k e f = simp (ne_eqb a b (λ p. e (h ∙ p ∙ sym k))) f

-- a test that is made of tests
pub pick-or : {A : Type 0} (a b : Bool) (x y z : A) → x ≡ pick a y (pick b y z) → x ≡ pick (a or b) y z
pick-or true b x y z e = e
pick-or false b x y z e = e

pub pick-not : {A : Type 0} (b : Bool) (x y z : A) → x ≡ pick b z y → x ≡ pick (pick b false true) y z
pick-not true x y z e = e
pick-not false x y z e = e

pub option_none : {A B : Type 0} (o : Option B) (x a : A) (f : B → A) → o ≡ None → x ≡ a → x ≡ on_option o a f
option_none o x a f q e = simp q e

pub option_some : {A B : Type 0} (o : Option B) (b : B) (x a : A) (f : B → A) → o ≡ Some b → x ≡ f b → x ≡ on_option o a f
option_some o b x a f q e = simp q e

-- a row that accepts is passed; one that refuses is told
pub then_pass : (t u x : Told) → Ok tt ≡ t → x ≡ u → x ≡ (t then u)
then_pass t u x h e = simp (← h) e

pub then_stop : (t u : Told) (r : Refusal) → Err r ≡ t → Err r ≡ (t then u)
then_stop t u r h = simp (← h)

-- the test is a callee's result r, of which the callee ensures what it is
pub pick_true_by : {A : Type 0} (r b : Bool) (x y z : A) → r ≡ b → r ≡ true → x ≡ y → x ≡ pick b y z
pick_true_by r b x y z q h e = simp (sym q ∙ h) e

pub pick_false_by : {A : Type 0} (r b : Bool) (x y z : A) → r ≡ b → r ≡ false → x ≡ z → x ≡ pick b y z
pick_false_by r b x y z q h e = simp (sym q ∙ h) e

-- the first of two rows is a callee's result t
pub then_pass_by : (t u v x : Told) → t ≡ u → t ≡ Ok tt → x ≡ v → x ≡ (u then v)
then_pass_by t u v x q h e = simp (sym q ∙ h) e

pub then_stop_by : (t u v : Told) (r : Refusal) → t ≡ u → t ≡ Err r → t ≡ (u then v)
then_stop_by t u v r q h = simp (sym q ∙ h) h

pub at_case_of : {A B C : Type 0} (f : A → B → C) (p q : A) (y : B) (x : C) → p ≡ q → x ≡ f q y → x ≡ f p y
at_case_of f p q y x h e = simp h e

pub ruleset tests = (pick_eq, pick_key, pick_ne, pick_le, pick_nle, pick_lt, pick_nlt, pick_true, pick_false, pick_eq_by, pick_ne_by, pick_eq_both, pick_ne_both, pick-or, pick-not)

pub ruleset cases = (option_none, option_some)

pub ruleset order = (then_pass, then_stop)

pub ruleset laws = (tt, tests, cases)

pub ruleset calls = (pick_true_by, pick_false_by, then_pass_by, then_stop_by)
