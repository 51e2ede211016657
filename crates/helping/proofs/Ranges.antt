-- Every number stays in its range: what keeps the engine's numbers from wrapping, and its indices inside their arrays.
use Rattle.std.specs.Prelude.{None, Option, Some}
use Prim.Native.Nat.{ℕ, ◌+◌, ◌*◌, ◌-◌, ◌≤◌, ◌<◌}
use native.Mathlib.Omega.{arith}
use native.Mathlib.Nat.{mul-le-mul_left}
use mathlib.Core.Path.{◌≡◌, refl, sym, subst}
use mathlib.Core.Logic.{◌≢◌}
use mathlib.Core.List.{List}
use lib.ListN.{length}
use Rattle.parts.specs.Numbers.{try_steps}
use Rattle.parts.specs.declared.Instr.{Instr}
use Rattle.steps.specs.declared.Point.{Point}
use Rattle.steps.specs.declared.Point.TheVariants.{Look, Grab, LookAgain, ReadMark}
use Rattle.steps.specs.declared.Run.{Run}
use Rattle.steps.specs.declared.Stage.{Stage}
use Rattle.steps.specs.declared.Stage.TheVariants.{Read, Commit, Swap, Mark, Release}
use Rattle.steps.specs.declared.State.{State}
use Rattle.steps.specs.declared.State.TheVariants.{Idle, UnderWay, Finished}
use Rattle.helping.specs.Machine.{Rules, Scene, Tale, Act, act_at}
use Rattle.helping.specs.Ideal.{ideal_of, act_in, Logs, Touches, far_of, Fine, At}
use Rattle.helping.specs.Ok.{unwon, Status, view_of, RunsAt, PointOk, StateOk, LockOk, Ok, RunIn, StageIn, PointIn, Ranged}
use Rattle.helping.proofs.Run.{next_in, lag}
use Rattle.helping.proofs.Inside.{touches, touch_far, asks_same}
use Rattle.helping.proofs.Change.{on_sheet, held_counts}
use Rattle.helping.proofs.Looks.{mine}

ranged_point :
    (K : Rules) (E : Scene) (T : Tale) (st : ℕ → Status) → Ok K E T st → (own l : ℕ) (p : Point) →
    PointOk K (view_of E st) own l p → PointIn K E p
ranged_point K E T st o own l p q = go p q
  where
    run :
        (r : Run) (j : ℕ) → (st r.sheet).kind ≢ unwon → At (st r.sheet).job j r →
        r.place ≤ (ideal_of (st r.sheet).job j).place + far_of (act_in (st r.sheet).job j) → RunIn K E r
    run r j won a low =
        let on = on_sheet K E T st o r.sheet won in
        let J = (st r.sheet).job in
        let f = subst (Fine K J.lock) on.code on.fine in
        let below : r.next < length (E.program r.sheet) =
        subst (λ (c : List Instr). r.next < length c) on.code (omega (arith, a.next, next_in K J on.fine j)) in
        record {
          next = below;
          short = f.short;
          place =
              omega (
                arith,
                low,
                lag J j,
                on.fine.inside (ideal_of J j).next (ideal_of J j).registers (next_in K J on.fine j),
                on.fine.short,
              );
          far = f.inside r.next r.registers below;
          names = λ t. (f.names r.next r.registers below t).0;
        }

    -- the instruction that it is at asks for what the ideal run asks for
    asks :
        (P : Act → Type 0) (r : Run) (j : ℕ) → (st r.sheet).kind ≢ unwon → At (st r.sheet).job j r →
        P (act_in (st r.sheet).job j) → P (act_at (E.program r.sheet) r.next r.registers)
    asks P r j won a t =
        subst (λ (c : List Instr). P (act_at c r.next r.registers)) (on_sheet K E T st o r.sheet won).code
        (subst P (sym (asks_same (st r.sheet).job j r a)) t)

    stage :
        (r : Run) (at : Stage) → RunsAt (view_of E st) own l r at →
        RunIn K E r × StageIn (act_at (E.program r.sheet) r.next r.registers) at
    stage r Read q = (run r q.1.j q.0.won.is q.1.inn.0 (omega (arith, q.1.inn.1)), tt)
    stage r (Commit u) q = (
      run r q.1.j q.0.won.is q.1.inn.0 (omega (arith, q.1.inn.1)),
      asks Logs r q.1.j q.0.won.is q.1.inn.0 q.1.inn.2,
    )
    stage r (Swap e new) q =
        let a = act_in (st r.sheet).job q.1.j in
        let t = touches a _ _ q.1.inn.2 in (
          run r q.1.j q.0.won.is q.1.inn.0 (omega (arith, q.1.inn.1, touch_far a t)),
          asks Touches r q.1.j q.0.won.is q.1.inn.0 t,
        )
    stage r (Mark said) q = (run r q.1.j q.0.won.is q.1.inn.0 (omega (arith, q.1.inn.1)), tt)
    stage r (Release said) q = (run r q.1.j q.0.won.is q.1.inn.0 (omega (arith, q.1.inn.1)), tt)

    go : (p : Point) → PointOk K (view_of E st) own l p → PointIn K E p
    go Look q = tt
    go (Grab seen) q = q.2
    go (LookAgain won) q = tt
    go (ReadMark seen won) q = tt
    go (Point.Run r at) q = stage r at q.0

ranged_steps :
    (K : Rules) (E : Scene) (T : Tale) (st : ℕ → Status) → Ok K E T st → (i : ℕ) →
    (E.worker i).steps ≤ try_steps K.most
ranged_steps K E T st o i = go (E.worker i).state (o.worker i)
  where
    go : (s : State) → StateOk K (view_of E st) (E.worker i) s → (E.worker i).steps ≤ try_steps K.most
    go Idle q = q
    go (UnderWay p) q = omega (arith, q.0)
    go (Finished x) q = q

ranged_count :
    (K : Rules) (E : Scene) (T : Tale) (st : ℕ → Status) → Ok K E T st → (q : ℕ) → q < length K.values →
    (E.word q).count ≤ (K.most - 1) * K.last
ranged_count K E T st o q below = go (E.lock (K.guard q)).holder refl (o.lock (K.guard q))
  where
    go :
        (h : Option ℕ) → (E.lock (K.guard q)).holder ≡ h → LockOk K E.word T st (K.guard q) (E.lock (K.guard q)).turn h →
        (E.word q).count ≤ (K.most - 1) * K.last
    go None e f =
        omega (arith, f.counts q (below, refl), mul-le-mul_left (K.most - 1) f.early)
    go (Some s) e h =
        omega (arith, held_counts K E T st o (K.guard q) s e q (below, refl), mul-le-mul_left (K.most - 1) h.early)

pub ranged : (K : Rules) (E : Scene) (T : Tale) (st : ℕ → Status) → Ok K E T st → Ranged K E
ranged K E T st o =
    record {
      point =
          λ i p e.
          ranged_point K E T st o (E.worker i).own (E.worker i).lock p
          (mine K E T st o i p e).1;
      steps = ranged_steps K E T st o;
      count = ranged_count K E T st o;
    }
