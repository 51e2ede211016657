-- By the laws of the numbers that each call leaves (lent_step, lent, lent_in), one call after the other; then by demand 3.
use Rattle.std.specs.Prelude.{Err, Ok}
use Prim.Native.Nat.{ℕ, ◌≤◌, ◌<◌}
use mathlib.Core.Path.{◌≡◌, refl, sym, ap, ◌∙◌, subst}
use mathlib.Core.Bool.{Bool, true, false}
use mathlib.Core.List.{List, [], ◌∷◌}
use native.Mathlib.Omega.{arith}
use lib.Dec.{ltb}
use lib.ListN.{length}
use borrow.Author.Tests.{lt-ltb, le-ltb}
use Rattle.parts.specs.Pick.{pick}
use Rattle.parts.specs.Told.{on_told}
use Rattle.parts.specs.declared.Refusal.{Refusal}
use Rattle.parts.specs.Told.{Told}
use Rattle.cells.specs.Layout.{numbers, unpack, blanked}
use Rattle.cells.proofs.Unpack.{Says}
use Rattle.records.specs.Setup.{setup_told}
use Rattle.steps.specs.Worker.{dropped_of}
use Rattle.engine.specs.State.{blank_of, worker_at, with_worker}
use Rattle.engine.specs.Calls.{outcome_of, fresh_of, setup_of, begin_told, taken_of, begin_of, step_told, onward_of, step_of, collect_told, collect_of, drop_told, drop_of}
use Rattle.engine.specs.declared.Engine.{Engine}
use Rattle.lent.specs.Calls.{collect_numbers, drop_numbers}
use Rattle.lent.proofs.Says.{collect_says, drop_says}
use Rattle.lent_step.specs.Points.{step_numbers}
use Rattle.lent_step.proofs.Says.{step_says}
use Rattle.lent_in.specs.Calls.{setup_numbers, begin_numbers}
use Rattle.lent_in.proofs.Says.{setup_says, begin_says}
use Rattle.door.specs.Calls.{setup_left}
use Rattle.door.specs.Door.{unless_short}
use Rattle.past.proofs.Accepted.{collected_to}
use Rattle.past.specs.Past.{Call, Begin, Step, Collect, Drop, ReadWord, ReadLock, Show, Park, AllRecords, Past, after, after_all, state_after}
use Rattle.histories.proofs.Demand.Demand.{demand_3}
use Rattle.histories.proofs.Filled.Filled.{shares}
use Rattle.histories.proofs.Plainly.Plainly.{plainly}
use Rattle.histories.proofs.Rules.Used.{used}
use Rattle.histories.proofs.Worn.Worn.{wears}
use Rattle.carried.specs.Carried.{lent_after, lent_all, lent_past, Tells, Short, Carried}

-- enough numbers, and too few
pub enough : {A : Type 0} (s : List ℕ) (x y : A) → numbers ≤ length s → unless_short s x y ≡ y
enough s x y n = ap (λ (b : Bool). pick b x y) (le-ltb (length s) numbers n)

few : {A : Type 0} (s : List ℕ) (x y : A) → length s < numbers → unless_short s x y ≡ x
few s x y n = ap (λ (b : Bool). pick b x y) (lt-ltb (length s) numbers n)

-- either way, where a call would leave them
either : (s t : List ℕ) → t ≡ s → unless_short s s t ≡ s
either s t h = go (ltb (length s) numbers)
  where
    go : (b : Bool) → pick b s t ≡ s
    go true = refl
    go false = h

left_says : (s t : List ℕ) (e : Engine) → numbers ≤ length s → Says s t e → Says s (unless_short s s t) e
left_says s t e n h = subst (λ (x : List ℕ). Says s x e) (sym (enough s s t n)) h

-- one lent call: the state that the numbers say, and how many they are
after_says :
    (s : List ℕ) (c : Call) (cs : List Call) → numbers ≤ length s → AllRecords (c ∷ cs) →
    Says s (lent_after s c) (after (unpack s) c) × AllRecords cs
unfolding lent_after after AllRecords
after_says s (Begin w l rec) cs n h = (left_says s _ _ n (begin_says s w l rec n h.0), h.1)
after_says s (Step w) cs n h = (left_says s _ _ n (step_says s w n), h)
after_says s (Collect w) cs n h = (left_says s _ _ n (collect_says s w n), h)
after_says s (Drop w) cs n h = (left_says s _ _ n (drop_says s w n), h)
after_says s (ReadWord i) cs n h = ((refl, refl), h)
after_says s (ReadLock l) cs n h = ((refl, refl), h)
after_says s (Show sheet room) cs n h = ((refl, refl), h)
after_says s (Park room) cs n h = ((refl, refl), h)

pub follows : (s : List ℕ) (cs : List Call) → numbers ≤ length s → AllRecords cs → Says s (lent_all s cs) (after_all (unpack s) cs)
unfolding lent_all after_all
follows s [] n h = (refl, refl)
follows s (c ∷ cs) n h =
    let one = after_says s c cs n h in
    let rest = follows (lent_after s c) cs (omega (arith, one.0.1)) one.1 in
    (rest.0 ∙ ap (λ (e : Engine). after_all e cs) one.0.0, rest.1 ∙ one.0.1)

-- a lent setup and what follows it
pub past_says : (s : List ℕ) (p : Past) → numbers ≤ length s → Says s (lent_past s p) (state_after p)
past_says s p n =
    let one = left_says s _ _ n (setup_says s p.setup n) in
    let rest = follows (setup_left s p.setup) p.calls (omega (arith, one.1)) p.calls_bytes in
    (rest.0 ∙ ap (λ (e : Engine). after_all e p.calls) one.0, rest.1 ∙ one.1)

pub tells : (s : List ℕ) → numbers ≤ length s → Tells s (unpack s)
tells s n =
    record {
      setup = λ rec. enough s _ _ n;
      begin = λ w l rec. enough s _ _ n;
      step = λ w. enough s _ _ n;
      collect = λ w. enough s _ _ n;
      drop = λ w. enough s _ _ n;
      read_word = λ i. enough s _ _ n;
      read_lock = λ l. enough s _ _ n;
      show = λ sheet buf. enough s _ _ n;
      shown = λ sheet buf. enough s _ _ n;
      park = λ buf. enough s _ _ n;
      parked = λ buf. enough s _ _ n;
    }

pub past_tells : (s : List ℕ) (p : Past) → numbers ≤ length s → Tells (lent_past s p) (state_after p)
past_tells s p n =
    let h = past_says s p n in
    subst (λ (e : Engine). Tells (lent_past s p) e) h.0 (tells (lent_past s p) (omega (arith, h.1)))

-- too few numbers
short_call : (s : List ℕ) (c : Call) → length s < numbers → lent_after s c ≡ s
unfolding lent_after
short_call s (Begin w l rec) n = few s _ _ n
short_call s (Step w) n = few s _ _ n
short_call s (Collect w) n = few s _ _ n
short_call s (Drop w) n = few s _ _ n
short_call s (ReadWord i) n = refl
short_call s (ReadLock l) n = refl
short_call s (Show sheet room) n = refl
short_call s (Park room) n = refl

short_all : (s : List ℕ) (cs : List Call) → length s < numbers → lent_all s cs ≡ s
unfolding lent_all
short_all s [] n = refl
short_all s (c ∷ cs) n = ap (λ (t : List ℕ). lent_all t cs) (short_call s c n) ∙ short_all s cs n

short : (s : List ℕ) → length s < numbers → Short s
short s n =
    record {
      setup = λ rec. (few s _ _ n, few s _ _ n);
      calls = λ cs. short_all s cs n;
      begin = λ w l rec. few s _ _ n;
      step = λ w. few s _ _ n;
      collect = λ w. few s _ _ n;
      drop = λ w. few s _ _ n;
      read_word = λ i. few s _ _ n;
      read_lock = λ l. few s _ _ n;
      show = λ sheet buf. (few s _ _ n, few s _ _ n);
      park = λ buf. (few s _ _ n, few s _ _ n);
    }

-- what an outcome tells that is refused
refused_by_lem : (e : Engine) (t : Told) (next : Engine) (r : Refusal) → (outcome_of e t next).told ≡ Err r → t ≡ Err r
refused_by_lem e (Ok _) next r h = let z : ◌≡◌ {A = ℕ} 0 1 = cc in absurd (omega arith)
refused_by_lem e (Err q) next r h = h

-- what a call leaves of the numbers where it is refused
left : (t : Told) (r : Refusal) (next s : List ℕ) → t ≡ Err r → on_told t next (λ q. s) ≡ s
left t r next s h = ap (λ (t : Told). on_told t next (λ q. s)) h

begin_left_lem :
    (s : List ℕ) (w l : ℕ) (rec : List ℕ) (r : Refusal) → (begin_of (unpack s) w l rec).told ≡ Err r →
    lent_after s (Begin w l rec) ≡ s
unfolding begin_of begin_numbers lent_after
begin_left_lem s w l rec r h =
    either s _
    (left (begin_told (unpack s) w l rec) r _ s
    (refused_by_lem (unpack s) (begin_told (unpack s) w l rec) (taken_of (unpack s) w l rec) r h))

step_left : (s : List ℕ) (w : ℕ) (r : Refusal) → (step_of (unpack s) w).told ≡ Err r → lent_after s (Step w) ≡ s
unfolding step_of step_numbers lent_after
step_left s w r h =
    either s _
    (left (step_told (unpack s) w) r _ s (refused_by_lem (unpack s) (step_told (unpack s) w) (onward_of (unpack s) w) r h))

drop_left_lem : (s : List ℕ) (w : ℕ) (r : Refusal) → (drop_of (unpack s) w).told ≡ Err r → lent_after s (Drop w) ≡ s
unfolding drop_of drop_numbers lent_after
drop_left_lem s w r h =
    either s _
    (left (drop_told (unpack s) w) r _ s
    (refused_by_lem (unpack s) (drop_told (unpack s) w) (with_worker (unpack s) w (dropped_of (worker_at (unpack s) w))) r h))

setup_left_lem :
    (s rec : List ℕ) (r : Refusal) → numbers ≤ length s → (setup_of rec).told ≡ Err r → setup_left s rec ≡ blanked s
unfolding setup_of setup_numbers
setup_left_lem s rec r n h =
    enough s _ _ n ∙ left (setup_told rec) r _ (blanked s) (refused_by_lem blank_of (setup_told rec) (fresh_of rec) r h)

collect_left_lem :
    (s : List ℕ) (w : ℕ) (r : Refusal) → (collect_of (unpack s) w).told ≡ Err r → lent_after s (Collect w) ≡ s
unfolding collect_of collect_numbers lent_after
collect_left_lem s w r h = either s _ (left (collect_told (unpack s) w) r _ s (go (collect_told (unpack s) w) h))
  where
    go : (t : Told) → (collected_to (unpack s) w t).told ≡ Err r → t ≡ Err r
    go (Ok _) e = let z : ◌≡◌ {A = ℕ} 0 1 = cc in absurd (omega arith)
    go (Err q) e = cc

pub carried : Carried
carried =
    record {
      begin = begin_left_lem;
      step = step_left;
      collect = collect_left_lem;
      drop = drop_left_lem;
      setup = setup_left_lem;
      short = short;
      follows = follows;
      tells = tells;
      carried = λ s p n. ((past_says s p n).0, past_tells s p n, demand_3 p, shares p, wears p, plainly p, used p);
    }
