-- What every call keeps of who filled what, and how it grows.
use Rattle.std.specs.Prelude.{Option, Some}
use Prim.Native.Nat.{ℕ, ◌<◌, ◌≤◌}
use mathlib.Core.Bool.{Bool, true}
use mathlib.Core.List.{List, [], ◌∷◌}
use mathlib.Core.Path.{◌≡◌, refl, sym, ap, ◌∙◌}
use native.Mathlib.Omega.{arith}
use borrow.Author.Tests.{ne_eqb}
use lib.ListN.{length}
use Rattle.parts.specs.Pick.{on_option}
use Rattle.alone.specs.Jobs.{Try}
use Rattle.steps.specs.Places.{helped_of}
use Rattle.steps.specs.declared.Point.{Point}
use Rattle.steps.specs.declared.Point.TheVariants.{Look, Grab, LookAgain, ReadMark}
use Rattle.steps.specs.declared.State.{State}
use Rattle.steps.specs.declared.State.TheVariants.{Idle, UnderWay, Finished}
use Rattle.steps.specs.declared.Worker.{Worker}
use Rattle.engine.specs.State.{worker_at, lock_at}
use Rattle.engine.specs.declared.Engine.{Engine}
use Rattle.helping.specs.Ok.{NotIdle}
use Rattle.histories.specs.Filled.{made_by, made_for, filled_entries}
use Rattle.histories.specs.Filling.{Filling, latest, runs_sheet}
use Rattle.histories.specs.History.{Sofar}
use Rattle.histories.proofs.Filled.Goes.{helped_in, not_free}

-- what a history comes to but for the state
pub record Ledger : Type 0 where
  pub begins : ℕ
  pub owners : ℕ → List Try
  pub fillings : List Filling
  pub ran : ℕ → ℕ → Bool

abbrev pub ledger_of : Sofar → Ledger
ledger_of x = record { begins = x.begins; owners = x.owners; fillings = x.fillings; ran = x.ran }

abbrev pub Owned : Ledger → ℕ → Type 0
Owned L s = 1 ≤ length (L.owners s)

abbrev pub Under : State → Type 0
Under Idle = ⊥
Under (UnderWay p) = Unit {0}
Under (Finished x) = ⊥

-- a worker in this state runs job j
pub record RunsOn (L : Ledger) (q : State) (j : ℕ) : Type 0 where
  pub sheet : ℕ
  pub at : runs_sheet q ≡ Some sheet
  pub job : latest (L.owners sheet) ≡ j

-- of worker k, whose try has the number t and made n steps
pub record Hand (L : Ledger) (k : Worker) (t n : ℕ) : Type 0 where
  pub count : k.filled ≡ made_by t L.fillings
  pub low : k.filled ≤ n
  pub own : Owned L k.own
  pub helped : (s : ℕ) → helped_in k.state ≡ Some s → Owned L s
  pub run : Under k.state → (j : ℕ) → L.ran t j ≡ true → RunsOn L k.state j

pub record Made (L : Ledger) (f : Filling) : Type 0 where
  pub by : f.by < L.begins
  pub job : f.job < L.begins
  pub ran : L.ran f.by f.job ≡ true

abbrev pub AllMade : Ledger → List Filling → Type 0
AllMade L [] = Unit {0}
AllMade L (f ∷ fs) = Made L f × AllMade L fs

-- of a state, and of each worker's try and steps
pub record Keeps (L : Ledger) (e : Engine) (tries steps : ℕ → ℕ) : Type 0 where
  pub hands : (w : ℕ) → NotIdle (worker_at e w).state → Hand L (worker_at e w) (tries w) (steps w)
  pub locks : (l s : ℕ) → (lock_at e l).holder ≡ Some s → Owned L s
  pub made : AllMade L L.fillings
  pub born : (n j : ℕ) → L.ran n j ≡ true → n < L.begins
  pub one : (n i j : ℕ) → L.ran n i ≡ true → L.ran n j ≡ true → i ≡ j
  pub owner : (s : ℕ) → Owned L s → latest (L.owners s) < L.begins
  pub apart : (s t : ℕ) → Owned L s → Owned L t → latest (L.owners s) ≡ latest (L.owners t) → s ≡ t
  pub sheet : (s : ℕ) → Owned L s → made_for (latest (L.owners s)) L.fillings ≡ filled_entries e s
  pub bare : (s : ℕ) → length (L.owners s) ≡ 0 → filled_entries e s ≡ 0

abbrev pub Kept : Sofar → Type 0
Kept x = Keeps (ledger_of x) x.state (λ w. (x.tries w).number) x.steps

pub by_is : (s t : ℕ) → Some s ≡ Some t → s ≡ t
by_is s t h = ap (λ (x : Option ℕ). on_option x 0 (λ (n : ℕ). n)) h

-- a run's sheet counts as helped
pub runs_helped : (q : State) (s : ℕ) → runs_sheet q ≡ Some s → helped_in q ≡ Some s
unfolding helped_of
runs_helped Idle s h = h
runs_helped (UnderWay Look) s h = h
runs_helped (UnderWay (Grab seen)) s h = h
runs_helped (UnderWay (LookAgain won)) s h = h
runs_helped (UnderWay (ReadMark seen won)) s h = absurd (not_free s h)
runs_helped (UnderWay (Point.Run r at)) s h = h
runs_helped (Finished x) s h = h

-- one worker has one job at a time
pub runs_one : (L : Ledger) (q : State) (i j : ℕ) → RunsOn L q i → RunsOn L q j → i ≡ j
runs_one L q i j a b =
    sym a.job ∙ ap (λ (s : ℕ). latest (L.owners s)) (by_is a.sheet b.sheet (sym a.at ∙ b.at)) ∙ b.job

-- the history goes on, and touches nothing of this worker
pub hand_grows :
    (L M : Ledger) (k : Worker) (t n : ℕ) → Hand L k t n → made_by t M.fillings ≡ made_by t L.fillings →
    ((j : ℕ) → M.ran t j ≡ true → L.ran t j ≡ true) → ((s : ℕ) → Owned L s → Owned M s) →
    ((s : ℕ) → Under k.state → helped_in k.state ≡ Some s → latest (M.owners s) ≡ latest (L.owners s)) → Hand M k t n
hand_grows L M k t n h a b c d =
    record {
      count = h.count ∙ sym a;
      low = h.low;
      own = c k.own h.own;
      helped = λ s e. c s (h.helped s e);
      run =
          λ u j e.
          let r = h.run u j (b j e) in
          record { sheet = r.sheet; at = r.at; job = d r.sheet u (runs_helped k.state r.sheet r.at) ∙ r.job };
    }

pub made_grows :
    (L M : Ledger) (fs : List Filling) → L.begins ≤ M.begins → ((n j : ℕ) → L.ran n j ≡ true → M.ran n j ≡ true) →
    AllMade L fs → AllMade M fs
made_grows L M [] b r a = tt
made_grows L M (f ∷ fs) b r (m, a) =
    let by = m.by in
    let job = m.job in
    (record { by = omega arith; job = omega arith; ran = r f.by f.job m.ran }, made_grows L M fs b r a)

-- a begin that is still to come made nothing, and has no filling
pub none_by : (L : Ledger) (fs : List Filling) (n : ℕ) → L.begins ≤ n → AllMade L fs → made_by n fs ≡ 0
unfolding made_by
none_by L [] n h a = refl
none_by L (f ∷ fs) n h (m, a) =
    let by = m.by in
    let rest = none_by L fs n h a in
    simp (ne_eqb f.by n (λ e. omega arith)) (omega arith)

pub none_for : (L : Ledger) (fs : List Filling) (j : ℕ) → L.begins ≤ j → AllMade L fs → made_for j fs ≡ 0
unfolding made_for
none_for L [] j h a = refl
none_for L (f ∷ fs) j h (m, a) =
    let job = m.job in
    let rest = none_for L fs j h a in
    simp (ne_eqb f.job j (λ e. omega arith)) (omega arith)
