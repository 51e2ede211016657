-- every index in its range: in a state that the calls gave, a remainder that keeps an index in its range changes nothing.
use Prim.Native.Nat.{ℕ, ◌+◌, ◌<◌}
use native.Mathlib.Omega.{arith}
use mathlib.Core.Path.{◌≡◌, subst}
use mathlib.Core.Logic.{⊎_elim}
use lib.ListN.{get_or}
use Rattle.parts.specs.Numbers.{sheets}
use Rattle.parts.specs.Parts.{next32}
use Rattle.steps.specs.Places.{spot_of}
use Rattle.steps.specs.declared.Point.{Point}
use Rattle.steps.specs.declared.Point.TheVariants.{Look, Grab, LookAgain, ReadMark}
use Rattle.steps.specs.declared.State.TheVariants.{UnderWay}
use Rattle.engine.specs.State.{sheet0, lock_count, word_count, word_at, worker_at, program_length}
use Rattle.engine.specs.Step.{spot_at, places_of}
use Rattle.engine.specs.declared.Engine.{Engine}
use Rattle.ranges.specs.Good.{GoodPoint, Good}
use Rattle.ranges.proofs.Keep.{point_good}

-- of worker w, under way at p
pub record PointWhole (e : Engine) (w : ℕ) (p : Point) : Type 0 where
  -- its lock is one of the L locks, and the lock of its step; so with the sheet of its spot
  pub below : (worker_at e w).lock < e.locks
  pub lock : (places_of e w p).lock ≡ (worker_at e w).lock
  pub sheet : (places_of e w p).sheet ≡ (spot_at e w p).sheet
  -- a turn that it grabs at rises by one
  pub turn : (seen : ℕ) → p ≡ Grab seen → next32 seen ≡ seen + 1

-- L and W, and a sheet's number of instructions, are what the state has; every word is guarded by one of the L locks
pub record Whole (e : Engine) : Type 0 where
  pub locks : lock_count e ≡ e.locks
  pub words : word_count e ≡ e.words
  pub guard : (i : ℕ) → i < e.words → (word_at e i).guard < e.locks
  pub program : (s : ℕ) → program_length e s ≡ (get_or e.sheet s sheet0).length
  pub point : (w : ℕ) (p : Point) → (worker_at e w).state ≡ UnderWay p → PointWhole e w p

-- the sheet of a point's spot is a sheet
spot_sheet : (p : Point) (own : ℕ) → own < sheets → GoodPoint p → (spot_of p own).sheet < sheets
unfolding spot_of
spot_sheet Look own h g = h
spot_sheet (Grab seen) own h g = h
spot_sheet (LookAgain won) own h g = h
spot_sheet (ReadMark seen won) own h g = h
spot_sheet (Point.Run r at) own h g = g.0.sheet

grab_turn : (p : Point) (seen : ℕ) → GoodPoint p → p ≡ Grab seen → next32 seen ≡ seen + 1
grab_turn p seen g q = let h : GoodPoint (Grab seen) = subst GoodPoint q g in omega arith

pub bites_not : (e : Engine) → Good e → Whole e
unfolding places_of
bites_not e g =
    let l = g.numbers.locks in
    let w = g.numbers.words in
    record {
      locks = omega arith;
      words = omega arith;
      guard = λ i h. ⊎_elim (λ z. absurd (omega arith)) (λ z. omega (arith, (g.word i).guard)) g.numbers.both;
      program = λ s. omega (arith, g.sheet s);
      point = point;
    }
  where
    point : (w : ℕ) (p : Point) → (worker_at e w).state ≡ UnderWay p → PointWhole e w p
    point w p q =
        let k = g.worker w in
        let at = point_good e.locks (worker_at e w) p k q in
        let sheet = spot_sheet p (worker_at e w).own k.own at.1 in
        record {
          below = omega (arith, k.lock, at.0);
          lock = omega (arith, k.lock, g.numbers.locks);
          sheet = omega arith;
          turn = λ seen e. grab_turn p seen at.1 e;
        }
