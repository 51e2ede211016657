-- A worker made idle, and an accepted begin, keep it.
use Rattle.std.specs.Prelude.{Some}
use Prim.Native.Nat.{ℕ, suc, ◌<◌, ◌≤◌}
use mathlib.Core.Bool.{Bool, true, false}
use mathlib.Core.List.{List, ◌∷◌}
use mathlib.Core.Path.{◌≡◌, refl, sym, ap, ◌∙◌, subst}
use native.Mathlib.Omega.{arith}
use borrow.Author.Tests.{eqb-true, eqb-false, eq-eqb, ne_eqb}
use lib.Dec.{eqb}
use lib.ListN.{length}
use Rattle.parts.specs.Numbers.{workers}
use Rattle.parts.specs.Pick.{pick}
use Rattle.steps.specs.Places.{helped_of}
use Rattle.steps.specs.Worker.{worker0, looking_of}
use Rattle.steps.specs.declared.State.{State}
use Rattle.steps.specs.declared.State.TheVariants.{Idle, UnderWay, Finished}
use Rattle.steps.specs.declared.Worker.{Worker}
use Rattle.engine.specs.Calls.{taken_of, begun_of}
use Rattle.engine.specs.Inner.{Begins}
use Rattle.engine.specs.State.{free_sheet, worker_at, with_worker}
use Rattle.engine.specs.declared.Engine.{Engine}
use Rattle.engine.proofs.Begins.{sheet_taken}
use Rattle.helping.specs.Ok.{NotIdle}
use Rattle.ranges.specs.Good.{Good}
use Rattle.histories.specs.Filled.{made_for, filled_entries}
use Rattle.histories.specs.Filling.{latest}
use Rattle.histories.specs.History.{Sofar, new_try, began, and_now}
use Rattle.histories.proofs.Rules.Rules.{free_unused}
use Rattle.histories.proofs.Simulation.Pieces.{worker_put, worker_begun}
use Rattle.histories.proofs.Filled.Entries.{emptied_here, emptied_there}
use Rattle.histories.proofs.Filled.Goes.{helped_in, not_free}
use Rattle.histories.proofs.Filled.Kept.{Ledger, ledger_of, Owned, Under, Hand, Keeps, Kept, hand_grows, made_grows, none_by, none_for}

-- a worker made idle
pub idled_keeps : (x : Sofar) → Good x.state → (w : ℕ) → w < workers → Kept x → Kept (and_now x (with_worker x.state w worker0))
idled_keeps x g w h o =
    record {
      hands = λ v. subst (λ (k : Worker). NotIdle k.state → Hand (ledger_of x) k (x.tries v).number (x.steps v))
          (sym (worker_put x.state g w worker0 h v)) (go v (eqb v w));
      locks = o.locks;
      made = o.made;
      born = o.born;
      one = o.one;
      owner = o.owner;
      apart = o.apart;
      sheet = o.sheet;
      bare = o.bare;
    }
  where
    go :
        (v : ℕ) (b : Bool) → NotIdle (pick b worker0 (worker_at x.state v)).state →
        Hand (ledger_of x) (pick b worker0 (worker_at x.state v)) (x.tries v).number (x.steps v)
    go v true y = absurd y
    go v false y = o.hands v y

-- an accepted begin
module _ (x : Sofar) (g : Good x.state) (w l : ℕ) (rec : List ℕ) (b : Begins x.state w l rec) (o : Kept x) where
  abbrev e : Engine
  e = x.state

  abbrev s₀ : ℕ
  s₀ = free_sheet e

  abbrev now : Engine
  now = taken_of e w l rec

  abbrev L : Ledger
  L = ledger_of x

  -- the history, with the sheet's number for the worker's
  abbrev M : Ledger
  M =
      record {
        begins = suc x.begins;
        owners = λ s. pick (eqb s s₀) (new_try x l rec ∷ x.owners s) (x.owners s);
        fillings = x.fillings;
        ran = x.ran;
      }

  own_now_lem : (worker_at now w).own ≡ s₀
  own_now_lem = ap (λ (k : Worker). k.own) (worker_begun e g w l rec b w ∙ ap (λ (t : Bool). pick t (looking_of l s₀) (worker_at e w)) (eq-eqb w w refl))

  ledger_now : ledger_of (began x w l rec now) ≡ M
  ledger_now = ap (λ (n : ℕ). record { begins = suc x.begins; owners = λ s. pick (eqb s n) (new_try x l rec ∷ x.owners s) (x.owners s); fillings = x.fillings; ran = x.ran }) own_now_lem

  owned_there : (s : ℕ) → Owned L s → Owned M s
  owned_there s h = go (eqb s s₀)
    where
      go : (t : Bool) → 1 ≤ length (pick t (new_try x l rec ∷ x.owners s) (x.owners s))
      go true = omega arith
      go false = h

  latest_there : (s : ℕ) → (s ≡ s₀ → ⊥) → latest (M.owners s) ≡ latest (L.owners s)
  latest_there s n = ap (λ (t : Bool). latest (pick t (new_try x l rec ∷ x.owners s) (x.owners s))) (ne_eqb s s₀ n)

  latest_here : (s : ℕ) → s ≡ s₀ → latest (M.owners s) ≡ x.begins
  latest_here s n = ap (λ (t : Bool). latest (pick t (new_try x l rec ∷ x.owners s) (x.owners s))) (eq-eqb s s₀ n)

  owned_back : (s : ℕ) → (s ≡ s₀ → ⊥) → Owned M s → Owned L s
  owned_back s n = subst (λ (t : Bool). 1 ≤ length (pick t (new_try x l rec ∷ x.owners s) (x.owners s)) → Owned L s) (sym (ne_eqb s s₀ n)) (λ h. h)

  owned_new : Owned M s₀
  owned_new =
      subst (λ (t : Bool). 1 ≤ length (pick t (new_try x l rec ∷ x.owners s₀) (x.owners s₀))) (sym (eq-eqb s₀ s₀ refl)) (omega arith)

  hand_new : Hand M (looking_of l s₀) x.begins 0
  unfolding helped_of
  hand_new =
      record {
        count = sym (none_by L x.fillings x.begins (omega arith) o.made);
        low = omega arith;
        own = owned_new;
        helped = λ s h. absurd (not_free s h);
        run = λ u j h. let n = o.born x.begins j h in absurd (omega arith);
      }

  -- the sheet that is taken is none that a worker under way helps
  other : (v s : ℕ) → Under (worker_at e v).state → helped_in (worker_at e v).state ≡ Some s → s ≡ s₀ → ⊥
  other v s u h n = go (worker_at e v).state refl u h
    where
      go : (q : State) → (worker_at e v).state ≡ q → Under q → helped_in q ≡ Some s → ⊥
      go Idle z u h = u
      go (UnderWay p) z u h = (free_unused e g w l rec b).helped v p z (h ∙ ap Some n)
      go (Finished y) z u h = u

  hand_at :
      (v : ℕ) (t : Bool) → NotIdle (pick t (looking_of l s₀) (worker_at e v)).state →
      Hand M (pick t (looking_of l s₀) (worker_at e v)) (pick t (new_try x l rec) (x.tries v)).number (pick t 0 (x.steps v))
  hand_at v true y = hand_new
  hand_at v false y =
      hand_grows L M (worker_at e v) (x.tries v).number (x.steps v) (o.hands v y) refl (λ j h. h) owned_there
      (λ s u h. latest_there s (other v s u h))

  owner_now : (s : ℕ) → Owned M s → latest (M.owners s) < suc x.begins
  owner_now s h = go (eqb s s₀) refl
    where
      go : (t : Bool) → eqb s s₀ ≡ t → latest (M.owners s) < suc x.begins
      go true z = let n = latest_here s (eqb-true s s₀ z) in omega arith
      go false z =
          let q = eqb-false s s₀ z in
          let n = latest_there s q in
          let m = o.owner s (owned_back s q h) in
          omega arith

  -- the new number is no other sheet's
  new_apart : (s t : ℕ) → s ≡ s₀ → (t ≡ s₀ → ⊥) → Owned M t → latest (M.owners s) ≡ latest (M.owners t) → ⊥
  new_apart s t n m h z =
      let a = latest_here s n in
      let c = latest_there t m in
      let d = o.owner t (owned_back t m h) in
      omega arith

  apart_now : (s t : ℕ) → Owned M s → Owned M t → latest (M.owners s) ≡ latest (M.owners t) → s ≡ t
  apart_now s t h k z = go (eqb s s₀) (eqb t s₀) refl refl
    where
      go : (c d : Bool) → eqb s s₀ ≡ c → eqb t s₀ ≡ d → s ≡ t
      go true true p q = eqb-true s s₀ p ∙ sym (eqb-true t s₀ q)
      go true false p q = absurd (new_apart s t (eqb-true s s₀ p) (eqb-false t s₀ q) k z)
      go false true p q = absurd (new_apart t s (eqb-true t s₀ q) (eqb-false s s₀ p) h (sym z))
      go false false p q =
          let m = eqb-false s s₀ p in
          let n = eqb-false t s₀ q in
          o.apart s t (owned_back s m h) (owned_back t n k) (sym (latest_there s m) ∙ z ∙ latest_there t n)

  sheet_now_lem : (s : ℕ) → Owned M s → made_for (latest (M.owners s)) x.fillings ≡ filled_entries now s
  unfolding begun_of
  sheet_now_lem s h = go (eqb s s₀) refl
    where
      made : ℕ → ℕ
      made j = made_for j x.fillings

      go : (t : Bool) → eqb s s₀ ≡ t → made (latest (M.owners s)) ≡ filled_entries now s
      go true z =
          let n = eqb-true s s₀ z in
          ap made (latest_here s n) ∙ none_for L x.fillings x.begins (omega arith) o.made ∙
          sym (ap (filled_entries now) n ∙ emptied_here e.entry s₀ g.lengths.entry (sheet_taken e))
      go false z =
          let n = eqb-false s s₀ z in
          ap made (latest_there s n) ∙ o.sheet s (owned_back s n h) ∙
          sym (emptied_there e.entry s₀ g.lengths.entry (sheet_taken e) s n)

  bare_now : (s : ℕ) → length (M.owners s) ≡ 0 → filled_entries now s ≡ 0
  unfolding begun_of
  bare_now s h = go (eqb s s₀) refl
    where
      go : (t : Bool) → eqb s s₀ ≡ t → filled_entries now s ≡ 0
      go true z =
          let n = ap (λ (t : ℕ). length (M.owners t)) (eqb-true s s₀ z) in
          let m = owned_new in
          absurd (omega arith)
      go false z =
          let n = eqb-false s s₀ z in
          emptied_there e.entry s₀ g.lengths.entry (sheet_taken e) s n ∙
          o.bare s (subst (λ (t : Bool). length (pick t (new_try x l rec ∷ x.owners s) (x.owners s)) ≡ 0) z h)

  begun_by : Keeps M now (λ v. (pick (eqb v w) (new_try x l rec) (x.tries v)).number) (λ v. pick (eqb v w) 0 (x.steps v))
  unfolding begun_of
  begun_by =
      record {
        hands =
            λ v.
            subst
            (λ (k : Worker).
            NotIdle k.state →
            Hand M k (pick (eqb v w) (new_try x l rec) (x.tries v)).number (pick (eqb v w) 0 (x.steps v)))
            (sym (worker_begun e g w l rec b v)) (hand_at v (eqb v w));
        locks = λ k s h. owned_there s (o.locks k s h);
        made = made_grows L M x.fillings (omega arith) (λ n j h. h) o.made;
        born = λ n j h. let m = o.born n j h in omega arith;
        one = o.one;
        owner = owner_now;
        apart = apart_now;
        sheet = sheet_now_lem;
        bare = bare_now;
      }

  pub begun_keeps : Kept (began x w l rec now)
  begun_keeps =
      subst
      (λ (N : Ledger).
      Keeps N now (λ v. (pick (eqb v w) (new_try x l rec) (x.tries v)).number) (λ v. pick (eqb v w) 0 (x.steps v)))
      (sym ledger_now) begun_by
