-- A try that is over fills nothing more: its number stays, whatever calls follow.
use Rattle.std.specs.Prelude.{Ok}
use Prim.Native.Nat.{ℕ, zero, suc, ◌<◌, ◌≤◌}
use mathlib.Core.Bool.{Bool, true, false}
use mathlib.Core.List.{List, [], ◌∷◌, ◌++◌}
use mathlib.Core.Logic.{◌≢◌, ⊎_elim}
use mathlib.Core.Path.{◌≡◌, refl, sym, ap, ◌∙◌, subst}
use native.Mathlib.Omega.{arith}
use borrow.Author.Tests.{ne_eqb, lt-leb}
use lib.Dec.{eqb}
use lib.ListN.{get_or, length}
use Rattle.parts.specs.Numbers.{workers}
use Rattle.parts.specs.Pick.{pick}
use Rattle.steps.specs.Worker as steps
use Rattle.steps.specs.Worker.{worker0, looking_of}
use Rattle.steps.specs.declared.Point.{Point}
use Rattle.steps.specs.declared.State.{State}
use Rattle.steps.specs.declared.State.TheVariants.{Idle, UnderWay, Finished}
use Rattle.steps.specs.declared.Worker.{Worker}
use Rattle.engine.specs.Calls.{taken_of, drop_told, drop_of}
use Rattle.engine.specs.Inner.{Begins}
use Rattle.engine.specs.State.{free_sheet, worker_at, with_worker}
use Rattle.engine.specs.Step.{stepped_of}
use Rattle.engine.specs.declared.Engine.{Engine}
use Rattle.engine.specs.declared.Outcome.{Outcome}
use Rattle.helping.specs.Machine.{Rules}
use Rattle.helping.specs.Ok.{NotIdle}
use Rattle.helping.proofs.Put.{put_case, all_but}
use Rattle.past.specs.Past.{Drop}
use Rattle.past.proofs.Accepted.{one_of, dropped_is, drop_told_lem}
use Rattle.ranges.specs.Good.{Good}
use Rattle.parts.proofs.Order.{below_or_not}
use Rattle.histories.specs.Filled.{made_by}
use Rattle.histories.specs.Filling.{Filling}
use Rattle.histories.specs.History.{Sofar, new_try, began, stepped, and_now, filled_by, then_of}
use Rattle.histories.proofs.Simulation.Follows.{KeptBy}
use Rattle.histories.proofs.Simulation.Pieces.{worker_put, worker_begun, worker_there}
use Rattle.histories.proofs.Simulation.Standing.{Standing}
use Rattle.histories.proofs.Filled.Fills.{Fills, nothing, entry}
use Rattle.histories.proofs.Filled.Kept.{Kept}
use Rattle.histories.proofs.Filled.Moved.{fills}
use Rattle.histories.proofs.Filled.Keep.{keeps}

-- no worker is under way with the try of number n
pub record Gone (x : Sofar) (n : ℕ) : Type 0 where
  pub born : n < x.begins
  pub none : (v : ℕ) (p : Point) → (worker_at x.state v).state ≡ UnderWay p → (x.tries v).number ≢ n

-- and it filled m entries
pub record Still (n m : ℕ) (x : Sofar) : Type 0 where
  pub kept : Kept x
  pub gone : Gone x n
  pub number : made_by n x.fillings ≡ m

made_other : (n : ℕ) (f : Filling) (fs : List Filling) → f.by ≢ n → made_by n (f ∷ fs) ≡ made_by n fs
unfolding made_by
made_other n f fs d = simp (ne_eqb f.by n d) (omega arith)

-- a worker that is under way once another is made idle
idle_other :
    (e : Engine) → Good e → (w : ℕ) → w < workers → (v : ℕ) (p : Point) →
    (worker_at (with_worker e w worker0) v).state ≡ UnderWay p → (v ≢ w) × ((worker_at e v).state ≡ UnderWay p)
idle_other e g w h v p q =
    put_case (worker_at e) w worker0 (λ (k : Worker). k.state ≡ UnderWay p → (v ≢ w) × ((worker_at e v).state ≡ UnderWay p)) v
    (λ n z. let z : ◌≡◌ {A = ℕ} 0 1 = cc in absurd (omega arith)) (λ n z. (n, z))
    (sym (ap (λ (k : Worker). k.state) (worker_put e g w worker0 h v)) ∙ q)

module _ (K : Rules) (n m : ℕ) (x : Sofar) (s : Standing K x) (i : Still n m x) where
  begun_still :
      (w l : ℕ) (rec : List ℕ) → Begins x.state w l rec → Still n m (began x w l rec (taken_of x.state w l rec))
  begun_still w l rec b =
      record {
        kept = (keeps K).begun x s i.kept w l rec b;
        gone =
            record {
              born = let c = i.gone.born in omega arith;
              none = λ v p q. at v p (eqb v w) (sym (ap (λ (k : Worker). k.state) (worker_begun x.state s.good w l rec b v)) ∙ q);
            };
        number = i.number;
      }
    where
      at :
          (v : ℕ) (p : Point) (t : Bool) → (pick t (looking_of l (free_sheet x.state)) (worker_at x.state v)).state ≡ UnderWay p →
          (pick t (new_try x l rec) (x.tries v)).number ≢ n
      at v p true q = λ m. let c = i.gone.born in omega arith
      at v p false q = i.gone.none v p q

  -- a worker that was under way may still be; no other is
  moved_still :
      (w : ℕ) (p : Point) → w < workers → (worker_at x.state w).state ≡ UnderWay p →
      Still n m (stepped x w (stepped_of x.state w p))
  moved_still w p h q =
      record {
        kept = (keeps K).moved x s i.kept w p h q;
        gone =
            record {
              born = i.gone.born;
              none =
                  all_but (λ (v : ℕ). (r : Point) → (worker_at now v).state ≡ UnderWay r → (x.tries v).number ≢ n) w
                  (λ r z. i.gone.none w p q)
                  (λ v d r z. i.gone.none v r (sym (ap (λ (k : Worker). k.state) (worker_there x.state s.good w h p v d)) ∙ z));
            };
        number = same (fills K x s i.kept w p h q) ∙ i.number;
      }
    where
      now : Engine
      now = stepped_of x.state w p

      same : Fills x w now → made_by n (filled_by x w now ++ x.fillings) ≡ made_by n x.fillings
      same (nothing a b c) = ap (λ (new : List Filling). made_by n (new ++ x.fillings)) a
      same (entry t f at job by a count here there) =
          ap (λ (new : List Filling). made_by n (new ++ x.fillings)) a ∙
          made_other n f x.fillings (λ z. i.gone.none w p q (sym by ∙ z))

  idled_still : (w : ℕ) → w < workers → Still n m (and_now x (with_worker x.state w worker0))
  idled_still w h =
      record {
        kept = (keeps K).idled x s i.kept w h;
        gone =
            record { born = i.gone.born; none = λ v p q. i.gone.none v p (idle_other x.state s.good w h v p q).1 };
        number = i.number;
      }

pub stills : (K : Rules) (n m : ℕ) → KeptBy K (Still n m)
stills K n m = record { begun = begun_still K n m; moved = moved_still K n m; idled = idled_still K n m }

-- a worker that isn't idle is one of the eight, and may be dropped
beyond : (l : List Worker) (w : ℕ) → length l ≤ w → get_or l w worker0 ≡ worker0
beyond [] w h = refl
beyond (k ∷ l) zero h = absurd (omega arith)
beyond (k ∷ l) (suc w) h = beyond l w (omega arith)

seated : (e : Engine) → Good e → (w : ℕ) → NotIdle (worker_at e w).state → w < workers
seated e g w y =
    ⊎_elim (λ h. h)
    (λ h. absurd (subst (λ (k : Worker). NotIdle k.state) (beyond e.worker w (omega (arith, g.lengths.worker))) y))
    (below_or_not w workers)

drop_accepted : (e : Engine) (w : ℕ) → w < workers → (q : State) → (worker_at e w).state ≡ q → NotIdle q → drop_told e w ≡ Ok tt
unfolding steps.drop_by_state
drop_accepted e w h Idle z y = absurd y
drop_accepted e w h (UnderWay p) z y = simp (lt-leb workers w h, z)
drop_accepted e w h (Finished a) z y = simp (lt-leb workers w h, z)

-- its try is over then, and has filled what it had filled
pub dropped_still :
    (K : Rules) (x : Sofar) → Standing K x → Kept x → (w : ℕ) → NotIdle (worker_at x.state w).state →
    Still (x.tries w).number (made_by (x.tries w).number x.fillings) (then_of x (Drop w))
unfolding then_of
dropped_still K x s o w y =
    let e = x.state in
    let n = (x.tries w).number in
    let h = seated e s.good w y in
    let told = drop_accepted e w h (worker_at e w).state refl y in
    let seat = one_of w (steps.drop_by_state (worker_at e w)) told in
    let state : (drop_of e w).engine ≡ with_worker e w worker0 =
    ap (λ (o : Outcome). o.engine) (drop_told_lem e w (Ok tt) told) ∙
    ap (λ (k : Worker). with_worker e w k) (dropped_is (worker_at e w) seat.1) in
    subst (λ (d : Engine). Still n (made_by n x.fillings) (and_now x d)) (sym state)
    (record {
      kept = (keeps K).idled x s o w h;
      gone =
          record {
            born = s.next.ok.begun w y;
            none =
                λ v p q m.
                let other = idle_other e s.good w h v p q in
                other.0 (s.next.ok.ids v w (subst NotIdle (sym other.1) tt) y m);
          };
      number = refl;
    })
