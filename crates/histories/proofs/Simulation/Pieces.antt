-- The pieces of the state after an accepted call: one worker is another and the rest are as they were; after a step, so is one lock. And
-- what a Look found.
use Prim.Native.Nat.{ℕ, ◌<◌, ◌≤◌}
use mathlib.Core.Bool.{Bool}
use mathlib.Core.List.{List}
use mathlib.Core.Logic.{◌≢◌}
use mathlib.Core.Path.{◌≡◌, ap, ◌∙◌}
use native.Mathlib.Omega.{arith}
use borrow.Author.Tests.{eq-eqb, ne_eqb}
use Rattle.parts.specs.Numbers.{workers}
use Rattle.parts.specs.Parts.{lock0}
use Rattle.parts.specs.Pick.{pick}
use Rattle.parts.specs.declared.LockWord.{LockWord}
use Rattle.steps.specs.Try.{effect_of}
use Rattle.steps.specs.Worker.{worker0, looking_of, began_of}
use Rattle.steps.specs.declared.Point.{Point}
use Rattle.steps.specs.declared.Worker.{Worker}
use Rattle.engine.specs.Calls.{begun_of, taken_of}
use Rattle.engine.specs.Inner.{Begins}
use Rattle.engine.specs.State.{free_sheet, worker_at, lock_at, with_worker}
use Rattle.engine.specs.Step.{places_of, view_at, put_at, stepped_of}
use Rattle.engine.specs.declared.Engine.{Engine}
use Rattle.helping.specs.Machine.{put}
use Rattle.helping.proofs.Put.{put_same, put_other}
use Rattle.ranges.specs.Good.{Good}
use Rattle.engine.proofs.Begins.{looks}
use Rattle.histories.specs.History.{Sofar, found_by}
use Rattle.histories.proofs.Map.Put.{set-put}

pub worker_put : (e : Engine) → Good e → (w : ℕ) (k : Worker) → w < workers → (v : ℕ) → worker_at (with_worker e w k) v ≡ put (worker_at e) w k v
worker_put e g w k h v =
    ap (λ (f : ℕ → Worker). f v) (set-put (λ (x : Worker). x) e.worker w k worker0 (omega (arith, g.lengths.worker)))

pub worker_begun :
    (e : Engine) → Good e → (w l : ℕ) (rec : List ℕ) → Begins e w l rec → (v : ℕ) →
    worker_at (taken_of e w l rec) v ≡ put (worker_at e) w (looking_of l (free_sheet e)) v
unfolding begun_of
worker_begun e g w l rec b v =
    worker_put e g w (began_of (worker_at e w) l (free_sheet e)) b.worker v ∙
    ap (λ (k : Worker). put (worker_at e) w k v) (looks (worker_at e w) l (free_sheet e) b.idle)

-- a step
module _ (e : Engine) (g : Good e) (w : ℕ) (h : w < workers) (p : Point) where
  pub worker_stepped :
      (v : ℕ) → worker_at (stepped_of e w p) v ≡ put (worker_at e) w (effect_of p (view_at e (places_of e w p))).worker v
  unfolding put_at places_of
  worker_stepped v = worker_put e g w (effect_of p (view_at e (places_of e w p))).worker h v

  pub worker_here : worker_at (stepped_of e w p) w ≡ (effect_of p (view_at e (places_of e w p))).worker
  worker_here = worker_stepped w ∙ put_same (worker_at e) w _

  pub worker_there : (v : ℕ) → v ≢ w → worker_at (stepped_of e w p) v ≡ worker_at e v
  worker_there v d = worker_stepped v ∙ put_other (worker_at e) w _ v d

pub lock_stepped :
    (e : Engine) → Good e → (w : ℕ) (p : Point) (l : ℕ) →
    lock_at (stepped_of e w p) l ≡ put (lock_at e) (places_of e w p).lock (effect_of p (view_at e (places_of e w p))).lock l
unfolding put_at places_of
lock_stepped e g w p l =
    ap (λ (f : ℕ → LockWord). f l)
    (set-put (λ (x : LockWord). x) e.lock (places_of e w p).lock _ lock0 (omega (arith, g.lengths.lock)))

-- what the Look of a worker's try found, once its first step is made and once a later one is
pub found_first : (x : Sofar) (w : ℕ) → x.steps w ≡ 0 → found_by x w ≡ lock_at x.state (x.tries w).lock
found_first x w z = ap (λ (b : Bool). pick b (lock_at x.state (x.tries w).lock) (x.found w)) (eq-eqb (x.steps w) 0 z)

pub found_later : (x : Sofar) (w : ℕ) → 1 ≤ x.steps w → found_by x w ≡ x.found w
found_later x w z =
    ap (λ (b : Bool). pick b (lock_at x.state (x.tries w).lock) (x.found w)) (ne_eqb (x.steps w) 0 (λ y. omega arith))
