-- An accepted step of the whole state: the entries that it fills, the worker's count, and the filled entries of each sheet.
use Rattle.std.specs.Prelude.{None, Option, Some}
use Prim.Native.Nat.{ℕ, suc, ◌+◌, ◌/◌, ◌%◌, ◌<◌}
use mathlib.Core.List.{[], ◌∷◌}
use mathlib.Core.Path.{◌≡◌, refl, sym, ap, ◌∙◌, subst}
use native.Mathlib.Omega.{arith}
use borrow.Author.Tests.{eqb-true, eqb-false}
use mathlib.Core.Bool.{Bool, true, false}
use lib.Dec.{eqb}
use lib.ListN.{length}
use Rattle.parts.specs.Numbers.{workers, sheets, instructions}
use Rattle.parts.specs.Parts.{next32}
use Rattle.parts.specs.declared.Reading.{Reading}
use Rattle.steps.specs.Places.{spot_of}
use Rattle.steps.specs.Try.{effect_of}
use Rattle.steps.specs.declared.Point.{Point}
use Rattle.steps.specs.declared.Run.{Run}
use Rattle.steps.specs.declared.Stage.{Stage}
use Rattle.steps.specs.declared.State.TheVariants.{UnderWay}
use Rattle.steps.specs.declared.View.{View}
use Rattle.steps.specs.declared.Worker.{Worker}
use Rattle.engine.specs.State.{worker_at, base_of}
use Rattle.engine.specs.Step.{spot_at, places_of, view_at, put_at, stepped_of}
use Rattle.engine.specs.declared.Engine.{Engine}
use Rattle.ranges.specs.Good.{GoodPoint, Good}
use Rattle.ranges.proofs.Keep.{point_good}
use Rattle.histories.specs.Filled.{filled_entries}
use Rattle.histories.specs.Filling.{Filling, latest, runs_sheet, runs_at}
use Rattle.histories.specs.History.{Sofar, filled_by}
use Rattle.histories.proofs.Simulation.Pieces.{worker_here}
use Rattle.histories.proofs.Filled.Entries.{marked, filled_at, new_set, filled_here, filled_there}
use Rattle.histories.proofs.Filled.Goes.{Touch, none, one}

-- worker w's step from x to state e fills nothing; or one entry of the sheet that it runs, and counts it
pub data Fills (x : Sofar) (w : ℕ) (e : Engine) : Type 0 where
  nothing :
      filled_by x w e ≡ [] → (worker_at e w).filled ≡ (worker_at x.state w).filled →
      ((t : ℕ) → filled_entries e t ≡ filled_entries x.state t) → Fills x w e
  entry :
      (s : ℕ) (f : Filling) → runs_sheet (worker_at x.state w).state ≡ Some s → f.job ≡ latest (x.owners s) →
      f.by ≡ (x.tries w).number → filled_by x w e ≡ f ∷ [] → (worker_at e w).filled ≡ next32 (worker_at x.state w).filled →
      filled_entries e s ≡ suc (filled_entries x.state s) →
      ((t : ℕ) → (t ≡ s → ⊥) → filled_entries e t ≡ filled_entries x.state t) → Fills x w e

filled_same : (make : ℕ → Reading → Filling) (n : ℕ) (f g : Option Reading) → g ≡ f → filled_at make n f g ≡ []
filled_same make n None g e = simp e
filled_same make n (Some r) g e = refl

module _ (x : Sofar) (g : Good x.state) (w : ℕ) (h : w < workers) (p : Point) (q : (worker_at x.state w).state ≡ UnderWay p) where
  abbrev e : Engine
  e = x.state

  abbrev v : View
  v = view_at e (places_of e w p)

  abbrev now : Engine
  now = stepped_of e w p

  -- the sheet and the place of the entry
  abbrev s : ℕ
  s = (spot_at e w p).sheet % sheets

  abbrev k : ℕ
  k = (spot_at e w p).place % instructions

  inside : base_of s + k < length e.entry
  inside = omega (arith, g.lengths.entry)

  abbrev make : ℕ → Reading → Filling
  make n what =
      record {
        job = latest (x.owners (n / instructions));
        by = (x.tries w).number;
        instruction = runs_at (worker_at e w).state;
        what = what;
      }

  new_now : filled_by x w now ≡ filled_at make (0 + (base_of s + k)) v.entry.fill (effect_of p v).entry.fill
  unfolding put_at places_of view_at
  new_now = new_set make 0 (base_of s + k) e.entry _ inside

  here_now : filled_entries now s + marked v.entry.fill ≡ filled_entries e s + marked (effect_of p v).entry.fill
  unfolding put_at places_of view_at
  here_now = filled_here e.entry s k _ (omega arith) inside

  there_now : (t : ℕ) → (t ≡ s → ⊥) → filled_entries now t ≡ filled_entries e t
  unfolding put_at places_of
  there_now = filled_there e.entry s k _ (omega arith) inside

  all_same : (effect_of p v).entry.fill ≡ v.entry.fill → (t : ℕ) → filled_entries now t ≡ filled_entries e t
  all_same f t = go (eqb t s) refl
    where
      go : (b : Bool) → eqb t s ≡ b → filled_entries now t ≡ filled_entries e t
      go true z =
          let m = ap marked f in
          let a = here_now in
          let c : filled_entries now s ≡ filled_entries e s = omega arith in
          ap (filled_entries now) (eqb-true t s z) ∙ c ∙ sym (ap (filled_entries e) (eqb-true t s z))
      go false z = there_now t (eqb-false t s z)

  count_was : v.worker.filled ≡ (worker_at e w).filled
  unfolding view_at places_of
  count_was = refl

  count_now : (n : ℕ) → (effect_of p v).worker.filled ≡ n → (worker_at now w).filled ≡ n
  count_now n c = ap (λ (k : Worker). k.filled) (worker_here e g w h p) ∙ c

  -- a run's step is at the run's sheet
  sheet_is : (r : Run) (at : Stage) → p ≡ Point.Run r at → s ≡ r.sheet
  unfolding spot_of
  sheet_is r at z =
      let good = subst GoodPoint z (point_good e.locks (worker_at e w) p (g.worker w) q).1 in
      let below = good.0.sheet in
      let same : s ≡ r.sheet % sheets = ap (λ (y : Point). (spot_of y (worker_at e w).own).sheet % sheets) z in
      omega arith

  filled_one : (read : Reading) → v.entry.fill ≡ None → (effect_of p v).entry.fill ≡ Some read →
      filled_by x w now ≡ make (0 + (base_of s + k)) read ∷ []
  filled_one read a b = new_now ∙ simp (a, b)

  one_more : (read : Reading) → v.entry.fill ≡ None → (effect_of p v).entry.fill ≡ Some read →
      filled_entries now s ≡ suc (filled_entries e s)
  one_more read a b =
      let m = ap marked a in
      let n = ap marked b in
      let all = here_now in
      omega arith

  pub stepped_fills : Touch v p (effect_of p v) → Fills x w now
  stepped_fills (none a b) = nothing (new_now ∙ filled_same make _ _ _ a) (count_now _ b ∙ count_was) (all_same a)
  stepped_fills (one r at read z a b c) =
      entry s (make (0 + (base_of s + k)) read)
      (ap runs_sheet (q ∙ ap UnderWay z) ∙ ap Some (sym (sheet_is r at z)))
      (ap (λ (n : ℕ). latest (x.owners n)) (let n : (0 + (base_of s + k)) / instructions ≡ s = omega arith in n)) refl
      (filled_one read a b) (count_now _ c ∙ ap next32 count_was) (one_more read a b) there_now
