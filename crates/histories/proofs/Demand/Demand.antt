-- Demand 3: what is promised holds at every cut of every history, by the theory's invariant there.
use Rattle.std.specs.Prelude.{Err, None, Ok, Some}
use Prim.Native.Nat.{ℕ, zero, suc, ◌+◌, ◌≤◌, ◌<◌}
use native.Mathlib.Omega.{arith}
use mathlib.Core.Path.{◌≡◌, refl, sym, ap, ◌∙◌, subst}
use mathlib.Core.Logic.{◌≢◌}
use mathlib.Core.Bool.{Bool, true, false}
use mathlib.Core.List.{List, [], ◌∷◌, ◌++◌}
use borrow.Author.Tests.{eq-eqb}
use Rattle.parts.specs.Numbers.{workers, instructions, try_steps}
use Rattle.parts.specs.Pick.{pick}
use Rattle.parts.specs.declared.Answer.{Answer}
use Rattle.parts.specs.declared.Answer.TheVariants.{RanYes, RanNo, NotTaken, Worn}
use Rattle.parts.specs.Told.{Told}
use Rattle.alone.specs.Jobs.{Try, times}
use Rattle.steps.specs.Worker as steps
use Rattle.steps.specs.declared.Point.{Point}
use Rattle.steps.specs.declared.State.{State}
use Rattle.steps.specs.declared.State.TheVariants.{UnderWay, Finished}
use Rattle.steps.specs.declared.Worker.{Worker}
use Rattle.engine.specs.State.{worker_at, lock_at, lock_count}
use Rattle.engine.specs.Calls.{setup_of, collect_told, last_answer, collect_of}
use Rattle.engine.specs.Calls.{Collected}
use Rattle.engine.specs.declared.Engine.{Engine}
use Rattle.helping.specs.Machine.{Scene, machine_moved}
use Rattle.helping.specs.Ok.{NotIdle, LockOk, StateOk, view_of, Named, AnswerOk, Listed, Says}
use Rattle.past.specs.Past.{Past, state_after}
use Rattle.histories.specs.History.{Sofar, sofar, start, Hold, given, HeldWords, RanOnce, GoesOn, Demand3}
use Rattle.helping.proofs.Ranges.{ranged}
use Rattle.helping.proofs.Help.{held_part, to_do}
use Rattle.helping.proofs.Over.{over_told}
use Rattle.helping.proofs.Put.{put_same}
use Rattle.histories.proofs.Demand.Helped.{step_accepted, step_scene, completed}
use Rattle.histories.proofs.Rules.Rules.{under_start, held_below}
use Rattle.histories.proofs.Map.Map.{rules_of, scene_of, tale_of, Under}
use Rattle.past.proofs.Accepted.{one_of, finished_of, collect_told_lem}
use Rattle.histories.proofs.Demand.Sooner.{Soon, soon_under, soon_past}
use Rattle.histories.proofs.Demand.Uncut.{uncut}
use Rattle.histories.proofs.Simulation.Counted.{stepped_worker}
use Rattle.histories.proofs.Simulation.Standing.{Standing, guarded, standing_past, state_follow, over_follow}
use Rattle.histories.proofs.Demand.Listed.{listed_past}
use Rattle.histories.proofs.Demand.Turns.{turn_past}
use Rattle.engine.specs.declared.Answered.{Answered}
use Rattle.engine.specs.Calls.{answered}

-- what collect tells is the worker's answer, its number of steps and what it filled
pub record Tells (k : Worker) (a : Answer) (n m : ℕ) : Type 0 where
  pub state : k.state ≡ Finished a
  pub steps : n ≡ k.steps
  pub filled : m ≡ k.filled

pub tells : (e : Engine) (w : ℕ) (a : Answer) (n m : ℕ) → (collect_of e w).told ≡ Ok (answered a n m) → Tells (worker_at e w) a n m
tells e w a n m h = go (collect_told e w) refl
  where
    go : (t : Told) → collect_told e w ≡ t → Tells (worker_at e w) a n m
    go (Ok _) q =
        let end = finished_of (worker_at e w) (one_of w (steps.collect_by_state (worker_at e w)) q).1 in
        let same : Ok (answered (last_answer (worker_at e w)) (worker_at e w).steps (worker_at e w).filled) ≡ Ok (answered a n m) =
        sym (ap (λ (o : Collected). o.told) (collect_told_lem e w (Ok tt) q)) ∙ h in
        let last : last_answer (worker_at e w) ≡ end.0 =
        ap (λ (s : State). steps.on_state s NotTaken (λ p. NotTaken) (λ x. x)) end.1 in
        let parts : answered (last_answer (worker_at e w)) (worker_at e w).steps (worker_at e w).filled ≡ answered a n m = cc in
        record {
          state = end.1 ∙ ap Finished (sym last ∙ ap (λ (y : Answered). y.answer) parts);
          steps = sym (ap (λ (y : Answered). y.steps) parts);
          filled = sym (ap (λ (y : Answered). y.filled) parts);
        }
    go (Err r) q =
        let same : Err r ≡ Ok (answered a n m) =
        sym (ap (λ (o : Collected). o.told) (collect_told_lem e w (Err r) q)) ∙ h in
        let z : ◌≡◌ {A = ℕ} 0 1 = cc in
        absurd (omega arith)

-- how often a try stands in a list that is put together
times_both : (n : ℕ) (a b : List Try) → times n (a ++ b) ≡ times n a + times n b
unfolding times
times_both n [] b = omega arith
times_both n (t ∷ a) b =
    let rest = times_both n a b in
    omega arith

listed_once : (t : Try) (earlier : List Try) → 1 ≤ times t.number (t ∷ earlier)
unfolding times
listed_once t earlier = rw (eq-eqb t.number t.number refl) (omega arith)

-- at the end of a history
module _ (e₀ : Engine) (u₀ : Under (rules_of e₀) e₀) (x : Sofar) (s : Standing (rules_of e₀) x) where
  free_words : (l : ℕ) → (lock_at x.state l).holder ≡ None → Hold e₀ x.state l (given e₀ x (x.won l))
  free_words l h q g =
      let o =
      subst (LockOk (rules_of e₀) (scene_of x.state).word (tale_of x) s.next.st l (lock_at x.state l).turn) h
      (s.next.ok.lock l) in
      o.values q (guarded (rules_of e₀) e₀ u₀ l q g)

  held_words : (l h : ℕ) → (lock_at x.state l).holder ≡ Some h → HeldWords e₀ x l h
  held_words l h e =
      let part = held_part (rules_of e₀) (scene_of x.state) (tale_of x) s.next.st s.next.ok l h e in
      record {
        last = part.last;
        earlier = part.earlier;
        list = part.list;
        sheet = part.program;
        k = part.k;
        words = λ q g. part.words q (guarded (rules_of e₀) e₀ u₀ l q g);
      }

  -- a try that was told that it ran
  ran_once :
      (w : ℕ) (said : Bool) → Listed (Says (rules_of e₀) (x.tries w) said) (x.tries w) (x.won (x.tries w).lock) →
      RanOnce e₀ x (x.tries w) said
  ran_once w said r =
      let t = x.tries w in
      let at_least : 1 ≤ times t.number (x.won t.lock) =
      rw r.list (omega (arith, times_both t.number r.later (t ∷ r.earlier), listed_once t r.earlier)) in
      record {
        later = r.later;
        earlier = r.earlier;
        list = r.list;
        once = omega (arith, s.next.ok.once t.number t.lock);
        nowhere = λ l n. none l n at_least (times t.number (x.won l)) refl;
        answer = r.holds;
      }
    where
      none :
          (l : ℕ) → l ≢ (x.tries w).lock → 1 ≤ times (x.tries w).number (x.won (x.tries w).lock) →
          (m : ℕ) → times (x.tries w).number (x.won l) ≡ m → m ≡ 0
      none l n h zero e = refl
      none l n h (suc m) e =
          absurd (n (s.next.ok.only (x.tries w).number l (x.tries w).lock (omega arith) h))

  -- of a worker that has finished with this answer: its try, its steps
  tried :
      (w : ℕ) (a : Answer) (n m : ℕ) → (collect_of x.state w).told ≡ Ok (answered a n m) →
      AnswerOk (rules_of e₀) (tale_of x) (x.tries w) a
  tried w a n m h =
      let t = tells x.state w a n m h in
      (subst
      (Named (rules_of e₀) (tale_of x) (view_of (scene_of x.state) s.next.st) (x.tries w) ((scene_of x.state).worker w))
      t.state (s.next.ok.named w)).1

  ran_told_lem :
      (w n m : ℕ) (said : Bool) → (collect_of x.state w).told ≡ Ok (answered (pick said RanYes RanNo) n m) →
      RanOnce e₀ x (x.tries w) said
  ran_told_lem w n m true h = ran_once w true (tried w RanYes n m h)
  ran_told_lem w n m false h = ran_once w false (tried w RanNo n m h)

  -- what a worker has done, and has left, in its state
  state_ok : (w : ℕ) (t : State) → (worker_at x.state w).state ≡ t →
      StateOk (rules_of e₀) (view_of (scene_of x.state) s.next.st) ((scene_of x.state).worker w) t
  state_ok w t h =
      subst (StateOk (rules_of e₀) (view_of (scene_of x.state) s.next.st) ((scene_of x.state).worker w)) h
      (s.next.ok.worker w)

  counts :
      (w : ℕ) (a : Answer) (n m : ℕ) → (collect_of x.state w).told ≡ Ok (answered a n m) →
      (n ≡ x.steps w) × (n ≤ try_steps instructions)
  counts w a n m h =
      let t = tells x.state w a n m h in
      (t.steps ∙ s.counted w (rw t.state tt), omega (arith, t.steps, state_ok w (Finished a) t.state))

  goes_on : (w : ℕ) (p : Point) → w < workers → (worker_at x.state w).state ≡ UnderWay p → GoesOn x.state w
  goes_on w p h e =
      let k = (scene_of x.state).worker w in
      let to = stepped_worker (rules_of e₀) (scene_of x.state) w k p in
      let is = step_scene (rules_of e₀) x s w p h e in
      record {
        told = step_accepted x.state w p h e;
        on = λ idle. subst NotIdle (sym (ap (λ (k : Worker). k.state) (put_same (scene_of x.state).worker w (machine_moved k to.to))) ∙ sym (ap (λ (f : ℕ → Worker). (f w).state) to.worker) ∙ sym (ap (λ (E : Scene). (E.worker w).state) is) ∙ idle) to.busy;
      }

  ends :
      (w : ℕ) (p : Point) → w < workers → (worker_at x.state w).state ≡ UnderWay p →
      (x.steps w < try_steps instructions) × GoesOn x.state w
  ends w p h e =
      (omega (arith, s.counted w (rw e tt), (state_ok w (UnderWay p) e).0, to_do instructions p), goes_on w p h e)

pub demand_3 : (p : Past) → Demand3 p
demand_3 p =
    record {
      state = same;
      promised =
          record {
            free = free_words e₀ u₀ x s;
            held = held_words e₀ u₀ x s;
            helping =
                λ l h e w rec seat idle bytes job.
                completed e₀ u₀ x s w l h rec
                (subst (λ (y : Engine). l < lock_count y) (sym same)
                (held_below p l h (ap (λ (y : Engine). (lock_at y l).holder) (sym same) ∙ e)))
                e seat idle bytes job;
            ran = ran_told_lem e₀ u₀ x s;
            not_taken =
                λ w n m worn e more b l.
                (over_follow (rules_of e₀) x more (x.tries w).number s b
                (over_told (rules_of e₀) (scene_of x.state) (tale_of x) s.next.st s.next.ok w worn
                (tells x.state w (pick worn Worn NotTaken) n m e).state)
                ).none l;
            listed = listed_past p;
            once = s.next.ok.once;
            only = s.next.ok.only;
            turn = turn_past p;
            ends = ends e₀ u₀ x s;
            ends_helping = λ w h f. (λ q e. soon_under instructions (x.steps w) h q (soon w h f (UnderWay q) e), sooner w h f);
            counted = counts e₀ u₀ x s;
            uncut = uncut (rules_of e₀) x.state s.good s.under (ranged (rules_of e₀) _ _ s.next.st s.next.ok);
          };
    }
  where
    e₀ : Engine
    e₀ = (setup_of p.setup).engine

    u₀ : Under (rules_of (setup_of p.setup).engine) (setup_of p.setup).engine
    u₀ = under_start p.setup p.setup_bytes

    x : Sofar
    x = sofar p

    s : Standing (rules_of (setup_of p.setup).engine) (sofar p)
    s = standing_past p

    soon :
        (w h : ℕ) → ((sofar p).found w).holder ≡ Some h → (t : State) → (worker_at (sofar p).state w).state ≡ t →
        Soon instructions t ((sofar p).steps w) (Some h)
    soon w h f t e =
        subst (λ (t : State). Soon instructions t ((sofar p).steps w) (Some h)) e
        (subst (Soon instructions (worker_at (sofar p).state w).state ((sofar p).steps w)) f (soon_past p w))

    sooner :
        (w h : ℕ) → ((sofar p).found w).holder ≡ Some h → (a : Answer) (n m : ℕ) →
        (collect_of (sofar p).state w).told ≡ Ok (answered a n m) → n ≤ 193
    sooner w h f a n m e =
        let t = tells (sofar p).state w a n m e in
        omega (arith, (counts (setup_of p.setup).engine (under_start p.setup p.setup_bytes) (sofar p) (standing_past p) w a n m e).0, soon w h f (Finished a) t.state)

    same : (sofar p).state ≡ state_after p
    same = state_follow (start (setup_of p.setup).engine) p.calls
