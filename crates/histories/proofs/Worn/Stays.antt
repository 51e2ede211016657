-- A worn lock stays worn, and no begin on it is accepted: of each call, and so of every history.
use Rattle.std.specs.Prelude.{Err, Ok}
use Prim.Native.Nat.{ℕ}
use mathlib.Core.Bool.{true, false}
use mathlib.Core.List.{List}
use mathlib.Core.Logic.{◌≢◌}
use mathlib.Core.Path.{◌≡◌, refl, sym, ap, ◌∙◌}
use native.Mathlib.Omega.{arith}
use Rattle.parts.specs.Parts.{worn_of}
use Rattle.parts.specs.declared.LockWord.{LockWord}
use Rattle.parts.specs.Told.{Told}
use Rattle.steps.specs.declared.Point.{Point}
use Rattle.steps.specs.declared.State.TheVariants.{UnderWay}
use Rattle.engine.specs.Calls.{begun_of, begin_told, begin_of}
use Rattle.engine.specs.State.{worker_at, lock_at}
use Rattle.engine.specs.Step.{places_of, view_at, stepped_of}
use Rattle.engine.specs.declared.Engine.{Engine}
use Rattle.engine.specs.declared.Outcome.{Outcome}
use Rattle.engine.proofs.Begins.{begins}
use Rattle.past.specs.Past.{Call, AllRecords}
use Rattle.past.proofs.Accepted.{begin_told_lem}
use Rattle.helping.specs.Machine.{Rules}
use Rattle.helping.proofs.Put.{put_case}
use Rattle.ranges.specs.Good.{Good}
use Rattle.ranges.proofs.Keep.{point_good}
use Rattle.histories.specs.History.{Sofar, follow}
use Rattle.histories.proofs.Simulation.Follows.{KeptBy, follow-keeps}
use Rattle.histories.proofs.Simulation.Pieces.{lock_stepped}
use Rattle.histories.proofs.Simulation.Standing.{Standing}
use Rattle.histories.proofs.Worn.Looks.{worn0, worn_is, worn0_worn, stays_worn}

-- a step of the whole state
pub step_stays :
    (e : Engine) → Good e → (w : ℕ) (p : Point) → (worker_at e w).state ≡ UnderWay p → (l : ℕ) → lock_at e l ≡ worn0 →
    lock_at (stepped_of e w p) l ≡ worn0
unfolding view_at
step_stays e g w p q l z =
    lock_stepped e g w p l ∙
    put_case (lock_at e) (places_of e w p).lock _ (λ (y : LockWord). y ≡ worn0) l
    (λ n.
    stays_worn (view_at e (places_of e w p)) (ap (λ (m : ℕ). lock_at e m) (sym n) ∙ z) p
    (point_good e.locks (worker_at e w) p (g.worker w) q).1)
    (λ n. z)

stays : (K : Rules) (l : ℕ) → KeptBy K (λ x. lock_at x.state l ≡ worn0)
unfolding begun_of
stays K l =
    record {
      begun = λ x s z w k rec b. z;
      moved = λ x s z w p h q. step_stays x.state s.good w p q l z;
      idled = λ x s z w h. z;
    }

pub worn_follow :
    (K : Rules) (x : Sofar) (cs : List Call) → Standing K x → AllRecords cs → (l : ℕ) → worn_of (lock_at x.state l) ≡ true →
    worn_of (lock_at (follow x cs).state l) ≡ true
worn_follow K x cs s b l z =
    ap worn_of (follow-keeps K _ (stays K l) x cs s b (worn_is (lock_at x.state l) z)) ∙ worn0_worn

-- "9": begin finds it worn
pub no_begin : (e : Engine) (w l : ℕ) (rec : List ℕ) → worn_of (lock_at e l) ≡ true → (begin_of e w l rec).told ≢ Ok tt
no_begin e w l rec z h = go (begin_told e w l rec) refl
  where
    go : (t : Told) → begin_told e w l rec ≡ t → ⊥
    go (Ok _) q =
        let b = begins e w l rec q in
        let both : true ≡ false = sym z ∙ b.worn in
        let z : ◌≡◌ {A = ℕ} 0 1 = cc in
        omega arith
    go (Err r) q =
        let both : Err r ≡ Ok tt = sym (ap (λ (o : Outcome). o.told) (begin_told_lem e w l rec (Err r) q)) ∙ h in
        let z : ◌≡◌ {A = ℕ} 0 1 = cc in
        omega arith
