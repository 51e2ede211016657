-- How the definitions choose: by a test, and by the case of a value.
use Rattle.std.specs.Prelude.{ℕ, Bool, true, false, ◌==◌, None, Option, Some}

infixr 25 ◌or◌
infixr 30 ◌isnt◌
-- the first where the test holds, the second where not
abbrev pub pick : {A : Type 0} → Bool → A → A → A
pick true a b = a
pick false a b = b

-- one or the other
abbrev pub ◌or◌ : Bool → Bool → Bool
a or b = pick a true b

-- two numbers differ
abbrev pub ◌isnt◌ : ℕ → ℕ → Bool
a isnt b = pick (a == b) false true

-- of an option: where it has none; of what it has
abbrev pub on_option : {A B : Type 0} → Option A → B → (A → B) → B
on_option None b f = b
on_option (Some a) b f = f a
