-- Every history keeps the theory's invariant: of each call by the simulation, and so of all of them.
use Rattle.std.specs.Prelude.{Err, Ok}
use Prim.Native.Nat.{ℕ}
use mathlib.Core.Path.{◌≡◌, refl, sym, ap, ◌∙◌, subst}
use mathlib.Core.List.{List, [], ◌∷◌}
use Rattle.parts.specs.Told.{on_told}
use Rattle.parts.specs.Told.{Told}
use Rattle.records.specs.Bytes.{AllBytes}
use Rattle.steps.specs.declared.Worker.{Worker}
use Rattle.engine.specs.Calls.{setup_of, outcome_of, begin_told, begin_of, step_told, step_of}
use Rattle.engine.specs.declared.Engine.{Engine}
use Rattle.helping.specs.Machine.{Rules, Scene, Tale}
use Rattle.helping.specs.Ideal.{Guarded}
use Rattle.helping.specs.Ok.{NotIdle, Next, Over}
use Rattle.ranges.specs.Good.{Good}
use Rattle.past.specs.Past.{Call, Begin, Step, Collect, Drop, ReadWord, ReadLock, Show, Park, AllRecords, Past, after, after_all}
use Rattle.histories.specs.History.{Sofar, start, then_of, follow, sofar, Guards}
use Rattle.helping.proofs.Begin.{fresh_ok, begin_ok, idle_ok}
use Rattle.helping.proofs.Moves.{step_ok}
use Rattle.helping.proofs.Ranges.{ranged}
use Rattle.helping.proofs.Over.{over_begin, over_step, over_idle}
use Rattle.ranges.proofs.Keep.{good_setup}
use Rattle.histories.proofs.Map.Map.{rules_of, scene_of, tale_of, Under}
use Rattle.histories.proofs.Rules.Rules.{fresh_is, under_start, under_after}
use Rattle.past.proofs.Accepted.{begin_told_lem, step_told_lem}
use Rattle.histories.proofs.Simulation.Simulation.{Simulated, unchanged, begun, moved, idled, simulates}
use Rattle.ranges.proofs.Gave.{good_after}
use Rattle.histories.proofs.Simulation.Counted.{Counted, counted_then}

-- a word that a lock guards, in the theory's words
pub guarded : (K : Rules) (e : Engine) → Under K e → (l q : ℕ) → Guards e l q → Guarded K l q
guarded K e u l q g = (rw u.words g.0, sym (u.guard q) ∙ g.1)

pub record Standing (K : Rules) (x : Sofar) : Type 0 where
  pub good : Good x.state
  pub under : Under K x.state
  pub next : Next K (scene_of x.state) (tale_of x)
  pub counted : Counted (scene_of x.state) x.steps

-- one call: the state, the invariant, the steps, a try that is over
refused_same : (e : Engine) (t : Told) (next : Engine) → (outcome_of e t next).engine ≡ on_told t next (λ r. e)
refused_same e (Ok _) next = refl
refused_same e (Err r) next = refl

pub state_then : (x : Sofar) (c : Call) → (then_of x c).state ≡ after x.state c
unfolding then_of after
state_then x (Begin w l rec) = go (begin_told x.state w l rec) refl
  where
    go : (t : Told) → begin_told x.state w l rec ≡ t → (then_of x (Begin w l rec)).state ≡ (begin_of x.state w l rec).engine
    go (Ok _) q = rw (begin_told_lem x.state w l rec (Ok tt) q)
    go (Err r) q = rw (begin_told_lem x.state w l rec (Err r) q)
state_then x (Step w) = go (step_told x.state w) refl
  where
    go : (t : Told) → step_told x.state w ≡ t → (then_of x (Step w)).state ≡ (step_of x.state w).engine
    go (Ok _) q = rw (step_told_lem x.state w (Ok tt) q)
    go (Err r) q = rw (step_told_lem x.state w (Err r) q)
state_then x (Collect w) = refl
state_then x (Drop w) = refl
state_then x (ReadWord i) = refl
state_then x (ReadLock l) = refl
state_then x (Show s room) = refl
state_then x (Park room) = refl

module _ (K : Rules) (E E' : Scene) (T T' : Tale) (S S' : ℕ → ℕ) where
  next_then : Next K E T → Simulated K E T S E' T' S' → Next K E' T'
  next_then n (unchanged e t s) = rw (e, t) n
  next_then n (begun i l s code idle u f e t c) = rw (e, t) (begin_ok K E T n.st n.ok i l s code u f)
  next_then n (moved i p q e t c) = rw (e, t) (step_ok K E T n.st n.ok i p q)
  next_then n (idled i e t c) = rw (e, t) (idle_ok K E T n.st n.ok i)

  over_then : (m : ℕ) → Over E T m → Simulated K E T S E' T' S' → Over E' T' m
  over_then m v (unchanged e t s) = rw (e, t) v
  over_then m v (begun i l s code idle u f e t c) = rw (e, t) (over_begin E T m i l s code v)
  over_then m v (moved i p q e t c) = rw (e, t) (over_step K E T m i p q v)
  over_then m v (idled i e t c) = rw (e, t) (over_idle E T m i v)

pub standing_then : (K : Rules) (x : Sofar) (c : Call) → Standing K x → AllRecords (c ∷ []) → Standing K (then_of x c)
unfolding after_all
standing_then K x c s b =
    let sim = simulates K x s.good s.under (ranged K _ _ s.next.st s.next.ok) c in
    record {
      good = subst Good (sym (state_then x c)) (good_after x.state (c ∷ []) s.good b);
      under = subst (λ (e : Engine). Under K e) (sym (state_then x c)) (under_after K x.state c s.good s.under);
      next = next_then K _ _ _ _ _ _ s.next sim;
      counted = counted_then K _ _ _ _ _ _ s.next s.counted sim;
    }

-- a history
pub cut_records : (c : Call) (cs : List Call) → AllRecords (c ∷ cs) → AllRecords (c ∷ []) × AllRecords cs
unfolding AllRecords
cut_records (Begin w l rec) cs b = ((b.0, tt), b.1)
cut_records (Step w) cs b = (tt, b)
cut_records (Collect w) cs b = (tt, b)
cut_records (Drop w) cs b = (tt, b)
cut_records (ReadWord i) cs b = (tt, b)
cut_records (ReadLock l) cs b = (tt, b)
cut_records (Show s room) cs b = (tt, b)
cut_records (Park room) cs b = (tt, b)

pub standing_follow : (K : Rules) (x : Sofar) (h : List Call) → Standing K x → AllRecords h → Standing K (follow x h)
unfolding follow
standing_follow K x [] s b = s
standing_follow K x (c ∷ cs) s b =
    let cut = cut_records c cs b in
    standing_follow K (then_of x c) cs (standing_then K x c s cut.0) cut.1

pub state_follow : (x : Sofar) (h : List Call) → (follow x h).state ≡ after_all x.state h
unfolding follow after_all
state_follow x [] = refl
state_follow x (c ∷ cs) =
    state_follow (then_of x c) cs ∙ ap (λ (e : Engine). after_all e cs) (state_then x c)

-- what each call keeps of a scene and its tale, a history keeps
pub keeps-follow :
    (K : Rules) (P : Scene → Tale → Type 0) →
    ((E E' : Scene) (T T' : Tale) (S S' : ℕ → ℕ) → Next K E T → P E T → Simulated K E T S E' T' S' → P E' T') →
    (x : Sofar) (h : List Call) → Standing K x → AllRecords h → P (scene_of x.state) (tale_of x) →
    P (scene_of (follow x h).state) (tale_of (follow x h))
unfolding follow
keeps-follow K P keeps x [] s b v = v
keeps-follow K P keeps x (c ∷ cs) s b v =
    let cut = cut_records c cs b in
    let sim = simulates K x s.good s.under (ranged K _ _ s.next.st s.next.ok) c in
    keeps-follow K P keeps (then_of x c) cs (standing_then K x c s cut.0) cut.1 (keeps _ _ _ _ _ _ s.next v sim)

pub over_follow :
    (K : Rules) (x : Sofar) (h : List Call) (m : ℕ) → Standing K x → AllRecords h →
    Over (scene_of x.state) (tale_of x) m → Over (scene_of (follow x h).state) (tale_of (follow x h)) m
over_follow K x h m =
    keeps-follow K (λ E T. Over E T m) (λ E E' T T' S S' n v sim. over_then K E E' T T' S S' m v sim) x h

-- from a setup on
pub standing_start : (rec : List ℕ) → AllBytes rec → Standing (rules_of (setup_of rec).engine) (start (setup_of rec).engine)
standing_start rec b =
    record {
      good = good_setup rec b;
      under = under_start rec b;
      next = fresh_ok _ _ (fresh_is rec b);
      counted = λ v y. absurd (subst (λ (k : Worker). NotIdle k.state) ((fresh_is rec b).idle v) y);
    }

pub standing_past : (p : Past) → Standing (rules_of (setup_of p.setup).engine) (sofar p)
standing_past p =
    standing_follow _ (start (setup_of p.setup).engine) p.calls (standing_start p.setup p.setup_bytes) p.calls_bytes
