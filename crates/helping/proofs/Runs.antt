-- The steps of a run, at an instruction and at its mark, keep the invariant, whether or not its sheet still holds the lock.
use Prim.Native.Nat.{ℕ}
use native.Mathlib.Omega.{arith}
use mathlib.Core.Path.{◌≡◌, refl, sym, ap, ◌∙◌, subst}
use mathlib.Core.Logic.{◌≢◌}
use mathlib.Core.Bool.{Bool, true}
use mathlib.Core.List.{List}
use Rattle.parts.specs.declared.Instr.{Instr}
use Rattle.steps.specs.declared.Point.{Point}
use Rattle.steps.specs.declared.Run.{Run}
use Rattle.steps.specs.declared.Stage.{Stage}
use Rattle.steps.specs.declared.Stage.TheVariants.{Mark, Release}
use Rattle.steps.specs.declared.State.TheVariants.{UnderWay}
use Rattle.helping.specs.Machine.{Rules, Scene, Shared, Pace, Tale, put, set_lock, set_done, shared_of, set_shared, point_of, on_to, pace_of, paced_of}
use Rattle.helping.specs.Ideal.{Job, RunStands}
use Rattle.helping.specs.Ok.{Kind, unwon, current, past, Status, View, view_of, shared_at, Won, RunsAt, PointOk, Ok, Next}
use Rattle.helping.proofs.Put.{put_same, put_other, put_idle_lem}
use Rattle.helping.proofs.Distinct.{won_kind}
use Rattle.helping.proofs.Core.{step_kept}
use Rattle.helping.proofs.Stale.{stale}
use Rattle.helping.proofs.Touch.{touched, OnRun, run_on, Going, paced}
use Rattle.helping.proofs.Change.{sheet_at, on_sheet}
use Rattle.helping.proofs.Marks.{marks}
use Rattle.helping.proofs.Shared.{front_of, shared_there, shares}
use Rattle.helping.proofs.Looks.{mine, goes}

-- a run of sheet s, which won at this turn, by what is known of the sheet
run_point :
    (K : Rules) (v : View) (own l s won : ℕ) → (s ≢ own → (v.st own).kind ≡ unwon) → Won (v.st s) l won → (r : Run)
    (at : Stage) → OnRun s won r at → RunStands (v.st s).job (v.st s).front (shared_at v s) r at →
    PointOk K v own l (Point.Run r at)
run_point K v own l s won help w r at a t = (
  (
    record {
      help = λ n. help (λ z. n (a.0 ∙ z));
      won = subst (λ (m : ℕ). Won (v.st m) l r.won) (sym a.0) (subst (Won (v.st s) l) (sym a.1) w);
    },
    subst (λ (m : ℕ). RunStands (v.st m).job (v.st m).front (shared_at v m) r at) (sym a.0) t,
  ),
  λ z. absurd (a.2 z),
)

-- what is put is what stood there: the scene is the same
shared_self : (E : Scene) (s : ℕ) → set_shared E s (shared_of E s) ≡ E
shared_self E s =
    λ i.
    record {
      word = E.word;
      lock = E.lock;
      program = E.program;
      done = E.done;
      log = put_idle_lem E.log s (E.log s) refl i;
      worker = E.worker;
    }

pub lock_self : (E : Scene) (l : ℕ) → set_lock E l (E.lock l) ≡ E
lock_self E l =
    λ i.
    record {
      word = E.word;
      lock = put_idle_lem E.lock l (E.lock l) refl i;
      program = E.program;
      done = E.done;
      log = E.log;
      worker = E.worker;
    }

module _ (K : Rules) (E : Scene) (T : Tale) (st : ℕ → Status) (o : Ok K E T st) (i : ℕ) where
  abbrev own : ℕ
  own = (E.worker i).own

  abbrev l : ℕ
  l = (E.worker i).lock

  module _ (r : Run) (at : Stage) (e : (E.worker i).state ≡ UnderWay (Point.Run r at)) (g : Going at)
      (q : RunsAt (view_of E st) own l r at) where
    abbrev s : ℕ
    s = r.sheet

    abbrev w : Won (st s) l r.won
    w = q.0.won

    -- a step by this program, and the scene after it
    abbrev by : List Instr → Pace
    by code = pace_of code (shared_of E s) r at

    abbrev stepped : List Instr → Scene
    stepped code =
        on_to (set_shared E s (by code).shared) i (E.worker i) (UnderWay (point_of (by code)))

    -- of a sheet that holds its lock
    pace_current : (st s).kind ≡ current → Next K (stepped (st s).job.code) T
    pace_current cur =
        let J : Job = (st s).job in
        let h = sheet_at K E T st o s current cur in
        let b = by J.code in
        let C = step_kept K J h.0.fine (st s).front (shared_of E s) r at h.2 q.1 in
        let t = touched K J h.0.fine (st s).front (shared_of E s) r at q.1 in
        let after : ℕ → Status = put st s (front_of (st s) C.to) in
        let here : after s ≡ front_of (st s) C.to = put_same st s (front_of (st s) C.to) in
        record {
          st = after;
          ok =
              goes K (set_shared E s b.shared) T after
              (shares K E T st o s cur b.shared C.to t C.inv C.moved) i (Point.Run r at) e
              (point_of b) (paced K J h.0.fine (st s).front (shared_of E s) r at q.1 g)
              (run_point K (view_of (set_shared E s b.shared) after) own l s r.won
              (λ n.
              ap (λ (σ : Status). σ.kind) (put_other st s (front_of (st s) C.to) own (λ (z : own ≡ s). n (sym z))) ∙
              q.0.help n)
              (subst (λ (σ : Status). Won σ l r.won) (sym here)
              (record { is = won_kind current (omega arith); lock = w.lock; turn = w.turn }))
              b.run b.stage (run_on J.code (shared_of E s) r at g)
              (subst
              (λ (σ : Status). RunStands σ.job σ.front (shared_at (view_of (set_shared E s b.shared) after) s) b.run b.stage)
              (sym here)
              (subst (λ (x : Shared). RunStands J C.to x b.run b.stage)
              (sym (shared_there K E T st o s cur b.shared C.to t C.inv C.moved)) C.stands)));
        }

    -- of one that has let go of it
    pace_past : (st s).kind ≡ past → Next K (stepped (st s).job.code) T
    pace_past z =
        let J : Job = (st s).job in
        let h = sheet_at K E T st o s past z in
        let b = by J.code in
        let S = stale K J h.0.fine (st s).front (shared_of E s) r at h.1 q.1 in
        subst (λ (x : Shared). Next K (on_to (set_shared E s x) i (E.worker i) (UnderWay (point_of b))) T) (sym S.same)
        (subst (λ (F : Scene). Next K (on_to F i (E.worker i) (UnderWay (point_of b))) T) (sym (shared_self E s))
        (record {
          st = st;
          ok =
              goes K E T st o i (Point.Run r at) e (point_of b)
              (paced K J h.0.fine (st s).front (shared_of E s) r at q.1 g)
              (run_point K (view_of E st) own l s r.won q.0.help w b.run b.stage
              (run_on J.code (shared_of E s) r at g) S.stands);
        }))

    pub pace_ok : Next K (paced_of E i (E.worker i) r at) T
    pace_ok =
        subst (λ (code : List Instr). Next K (stepped code) T) (on_sheet K E T st o s w.is).code
        (go (st s).kind refl)
      where
        go : (κ : Kind) → (st s).kind ≡ κ → Next K (stepped (st s).job.code) T
        go unwon z = absurd (w.is z)
        go current z = pace_current z
        go past z = pace_past z

  pub mark_ok :
      (r : Run) (said : Bool) → (E.worker i).state ≡ UnderWay (Point.Run r (Mark said)) →
      Ok K (on_to (set_done E r.sheet) i (E.worker i) (UnderWay (Point.Run r (Release said)))) T st
  mark_ok r said e =
      let q : RunsAt (view_of E st) own l r (Mark said) = (mine K E T st o i (Point.Run r (Mark said)) e).1.0 in
      goes K (set_done E r.sheet) T st (marks K E T st o r.sheet q.0.won.is) i (Point.Run r (Mark said)) e (Point.Run r (Release said))
      (omega arith) (
        (
          record { help = q.0.help; won = q.0.won },
          record { j = q.1.j; behind = q.1.behind; inn = q.1.inn },
        ),
        λ z. put_same E.done r.sheet true,
      )
