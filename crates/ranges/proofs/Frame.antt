-- What holds at every place of a list holds after a change of it, and what holds of each way holds of the way that is picked.
use Rattle.std.specs.Prelude.{Err, Ok}
use Prim.Native.Nat.{ℕ, zero, suc, ◌+◌}
use mathlib.Core.Path.{◌≡◌, refl}
use mathlib.Core.Bool.{Bool, true, false}
use mathlib.Core.List.{List, [], ◌∷◌, map}
use lib.ListN.{get_or, set, take, drop, replicate}
use Rattle.parts.specs.Lay.{lay}
use Rattle.parts.specs.Pick.{pick}
use Rattle.parts.specs.Told.{on_told}
use Rattle.parts.specs.declared.Answer.{Answer}
use Rattle.parts.specs.declared.Refusal.{Refusal}
use Rattle.parts.specs.Told.{Told}
use Rattle.steps.specs.Worker.{on_state}
use Rattle.steps.specs.declared.Point.{Point}
use Rattle.steps.specs.declared.State.{State}
use Rattle.steps.specs.declared.State.TheVariants.{Idle, UnderWay, Finished}

-- every element has P, and so does what stands past the end
abbrev pub All : {A : Type 0} → (A → Type 0) → List A → A → Type 0
All P l d = (k : ℕ) → P (get_or l k d)

pub set_all : {A : Type 0} (P : A → Type 0) (l : List A) (d : A) (i : ℕ) (a : A) → All P l d → P a → All P (set l i a) d
set_all P [] d i a h q k = h k
set_all P (x ∷ l) d zero a h q zero = q
set_all P (x ∷ l) d zero a h q (suc k) = h (suc k)
set_all P (x ∷ l) d (suc i) a h q zero = h zero
set_all P (x ∷ l) d (suc i) a h q (suc k) = set_all P l d i a (λ j. h (suc j)) q k

pub lay_all : {A : Type 0} (P : A → Type 0) (at : ℕ) (xs l : List A) (d : A) → All P xs d → All P l d → All P (lay at xs l) d
unfolding lay
lay_all P at [] l d p h = h
lay_all P at (x ∷ xs) l d p h = lay_all P (at + 1) xs (set l at x) d (λ k. p (suc k)) (set_all P l d at x h (p zero))

pub replicate_all : {A : Type 0} (P : A → Type 0) (n : ℕ) (d : A) → P d → All P (replicate n d) d
replicate_all P zero d p k = p
replicate_all P (suc n) d p zero = p
replicate_all P (suc n) d p (suc k) = replicate_all P n d p k

pub take_all : {A : Type 0} (P : A → Type 0) (n : ℕ) (l : List A) (d : A) → P d → All P l d → All P (take n l) d
take_all P zero l d p h k = p
take_all P (suc n) [] d p h k = p
take_all P (suc n) (x ∷ l) d p h zero = h zero
take_all P (suc n) (x ∷ l) d p h (suc k) = take_all P n l d p (λ j. h (suc j)) k

pub drop_all : {A : Type 0} (P : A → Type 0) (n : ℕ) (l : List A) (d : A) → P d → All P l d → All P (drop n l) d
drop_all P zero l d p h k = h k
drop_all P (suc n) [] d p h k = p
drop_all P (suc n) (x ∷ l) d p h k = drop_all P n l d p (λ j. h (suc j)) k

pub map_all : {A B : Type 0} (P : B → Type 0) (f : A → B) (l : List A) (d : A) → All (λ x. P (f x)) l d → All P (map f l) (f d)
map_all P f [] d h k = h k
map_all P f (x ∷ l) d h zero = h zero
map_all P f (x ∷ l) d h (suc k) = map_all P f l d (λ j. h (suc j)) k

pub pick_all : {A : Type 0} (P : A → Type 0) (b : Bool) (x y : A) → P x → P y → P (pick b x y)
pick_all P true x y p q = p
pick_all P false x y p q = q

pub state_all :
    {A : Type 0} (P : A → Type 0) (s : State) (a : A) (f : Point → A) (g : Answer → A) →
    (s ≡ Idle → P a) →
    ((p : Point) → s ≡ UnderWay p → P (f p)) →
    ((x : Answer) → s ≡ Finished x → P (g x)) →
    P (on_state s a f g)
state_all P Idle a f g h k m = h refl
state_all P (UnderWay p) a f g h k m = k p refl
state_all P (Finished x) a f g h k m = m x refl

-- of a call: where it was accepted; where it was refused
pub told_all :
    {A : Type 0} (P : A → Type 0) (t : Told) (a : A) (f : Refusal → A) →
    (t ≡ Ok tt → P a) → ((r : Refusal) → t ≡ Err r → P (f r)) → P (on_told t a f)
told_all P (Ok _) a f h k = h refl
told_all P (Err r) a f h k = k r refl
