-- The tries that won a lock began on that lock: a step of a worker grabs its own lock only.
use Prim.Native.Nat.{ℕ}
use mathlib.Core.Path.{◌≡◌, sym, ◌∙◌, subst}
use mathlib.Core.Logic.{inl, inr}
use mathlib.Core.List.{List, [], ◌∷◌, ◌++◌}
use Rattle.parts.specs.declared.LockWord.{LockWord}
use Rattle.steps.specs.declared.Point.{Point}
use Rattle.steps.specs.declared.Point.TheVariants.{Look, Grab, LookAgain, ReadMark}
use Rattle.steps.specs.declared.State.TheVariants.{UnderWay}
use Rattle.alone.specs.Jobs.{Try}
use Rattle.engine.specs.Calls.{setup_of}
use Rattle.helping.specs.Machine.{Rules, Scene, Tale, step_tale}
use Rattle.helping.specs.Ok.{Named, view_of, Next}
use Rattle.helping.proofs.Moves.{GrabWay, grab_way}
use Rattle.helping.proofs.Put.{put_case}
use Rattle.past.specs.Past.{Past}
use Rattle.histories.specs.History.{start, sofar}
use Rattle.histories.proofs.Map.Map.{rules_of}
use Rattle.histories.proofs.Simulation.Simulation.{Simulated, unchanged, begun, moved, idled}
use Rattle.histories.proofs.Simulation.Standing.{keeps-follow, standing_start}

abbrev OnLock : ℕ → List Try → Type 0
OnLock l [] = Unit {0}
OnLock l (t ∷ ts) = (t.lock ≡ l) × OnLock l ts

abbrev AllOn : Tale → Type 0
AllOn T = (l : ℕ) → OnLock l (T.won l)

grab_on :
    (T : Tale) (i l seen own : ℕ) (x y : LockWord) (U : Tale) → GrabWay T i l seen own x y U → (T.tries i).lock ≡ l → AllOn T → AllOn U
grab_on T i l seen own x y U (inl z) e h = subst AllOn (sym z.1) h
grab_on T i l seen own x y U (inr z) e h =
    subst AllOn (sym z.2)
    (λ m.
    put_case T.won l (T.tries i ∷ T.won l) (OnLock m) m
    (λ q. (e ∙ sym q, subst (λ (n : ℕ). OnLock m (T.won n)) q (h m))) (λ n. h m))

step_on :
    (K : Rules) (E : Scene) (T : Tale) (i : ℕ) (p : Point) → Next K E T → (E.worker i).state ≡ UnderWay p → AllOn T →
    AllOn (step_tale T E i (E.worker i) p)
unfolding step_tale
step_on K E T i Look n e h = h
step_on K E T i (Grab seen) n e h =
    grab_on T i (E.worker i).lock seen (E.worker i).own (E.lock (E.worker i).lock) _ _
    (grab_way T i (E.worker i).lock seen (E.worker i).own (E.lock (E.worker i).lock))
    (subst (Named K T (view_of E n.st) (T.tries i) (E.worker i)) e (n.ok.named i)).lock h
step_on K E T i (LookAgain won) n e h = h
step_on K E T i (ReadMark seen won) n e h = h
step_on K E T i (Point.Run r at) n e h = h

on_then :
    (K : Rules) (E E' : Scene) (T T' : Tale) (S S' : ℕ → ℕ) → Next K E T → AllOn T → Simulated K E T S E' T' S' → AllOn T'
on_then K E E' T T' S S' n h (unchanged e t s) = rw t h
on_then K E E' T T' S S' n h (begun i l s code idle u f e t c) = rw t h
on_then K E E' T T' S S' n h (moved i p q e t c) = rw t (step_on K E T i p n q h)
on_then K E E' T T' S S' n h (idled i e t c) = rw t h

one_on : (l : ℕ) (later : List Try) (t : Try) (earlier : List Try) → OnLock l (later ++ (t ∷ earlier)) → t.lock ≡ l
one_on l [] t earlier h = h.0
one_on l (x ∷ later) t earlier h = one_on l later t earlier h.1

pub listed_past :
    (p : Past) (l : ℕ) (later : List Try) (t : Try) (earlier : List Try) → (sofar p).won l ≡ later ++ (t ∷ earlier) → t.lock ≡ l
listed_past p l later t earlier e =
    let e₀ = (setup_of p.setup).engine in
    let all =
    keeps-follow (rules_of e₀) (λ E T. AllOn T) (λ E E' T T' S S' n h sim. on_then (rules_of e₀) E E' T T' S S' n h sim)
    (start e₀) p.calls (standing_start p.setup p.setup_bytes) p.calls_bytes (λ m. tt) in
    one_on l later t earlier (subst (OnLock l) e (all l))
