-- A try that was told "not taken" or "worn" stands in no list, at this and every later cut: it never comes to win.
use Prim.Native.Nat.{ℕ}
use native.Mathlib.Omega.{arith}
use mathlib.Core.Path.{◌≡◌, sym, ap, ◌∙◌, subst}
use mathlib.Core.Logic.{⊎_elim, ◌≢◌}
use mathlib.Core.Bool.{Bool, true, false}
use mathlib.Core.List.{List}
use lib.Dec.{eqb}
use Rattle.parts.specs.Pick.{pick}
use Rattle.parts.specs.declared.Answer.TheVariants.{NotTaken, Worn}
use Rattle.parts.specs.declared.Instr.{Instr}
use Rattle.steps.specs.Worker.{worker0, looking_of}
use Rattle.steps.specs.declared.Point.{Point}
use Rattle.steps.specs.declared.Point.TheVariants.{Look, Grab, LookAgain, ReadMark}
use Rattle.steps.specs.declared.Stage.TheVariants.{Read, Commit, Swap, Mark, Release}
use Rattle.steps.specs.declared.State.{State}
use Rattle.steps.specs.declared.State.TheVariants.{UnderWay, Finished}
use Rattle.steps.specs.declared.Worker.{Worker}
use Rattle.helping.specs.Machine.{Rules, Scene, Tale, step_at, win_tale, step_tale, machine_begun, begin_tale, idled_of}
use Rattle.helping.specs.Ok.{Status, view_of, Absent, AnswerOk, Named, NotIdle, Ok, Over}
use Rattle.helping.proofs.Put.{put_other, put_at_lem, all_but}
use Rattle.helping.proofs.Wins.{absent_win}
use Rattle.helping.proofs.Moves.{grab_way}

-- "not taken" or "worn" is told of it
pub over_told :
    (K : Rules) (E : Scene) (T : Tale) (st : ℕ → Status) → Ok K E T st → (i : ℕ) (worn : Bool) →
    (E.worker i).state ≡ Finished (pick worn Worn NotTaken) → Over E T (T.tries i).number
over_told K E T st o i worn e =
    record {
      begun = o.begun i (busy e);
      none = absent worn (subst (Named K T (view_of E st) (T.tries i) (E.worker i)) e (o.named i)).1;
      gone =
          λ m p h same.
          let at : m ≡ i = o.ids m i (subst NotIdle (sym h) tt) (busy e) same in
          let both : UnderWay p ≡ Finished (pick worn Worn NotTaken) = sym h ∙ ap (λ m. (E.worker m).state) at ∙ e in
          let z : ◌≡◌ {A = ℕ} 0 1 = cc in
          absurd (omega arith);
    }
  where
    busy : {s : State} → s ≡ Finished (pick worn Worn NotTaken) → NotIdle s
    busy h = subst NotIdle (sym h) tt

    absent : (b : Bool) → AnswerOk K T (T.tries i) (pick b Worn NotTaken) → Absent T (T.tries i).number
    absent true a = a
    absent false a = a

pub over_begin :
    (E : Scene) (T : Tale) (n i l s : ℕ) (code : List Instr) → Over E T n →
    Over (machine_begun E i l code s) (begin_tale T i l code) n
over_begin E T n i l s code v =
    record { begun = omega (arith, v.begun); none = v.none; gone = λ m p h. go m p (eqb m i) h }
  where
    go :
        (m : ℕ) (p : Point) (b : Bool) → (pick b (looking_of l s) (E.worker m)).state ≡ UnderWay p →
        (pick b (record { number = T.begins; lock = l; program = code }) (T.tries m)).number ≢ n
    go m p true h same = omega (arith, v.begun)
    go m p false h same = v.gone m p h same

-- a step of worker i leaves the others
step_aside :
    (K : Rules) (E : Scene) (i m : ℕ) (k : Worker) (p : Point) → m ≢ i → (step_at K E i k p).worker m ≡ E.worker m
unfolding step_at
step_aside K E i m k Look n = put_other E.worker i _ m n
step_aside K E i m k (Grab seen) n = put_other E.worker i _ m n
step_aside K E i m k (LookAgain won) n = put_other E.worker i _ m n
step_aside K E i m k (ReadMark seen won) n = put_other E.worker i _ m n
step_aside K E i m k (Point.Run r Read) n = put_other E.worker i _ m n
step_aside K E i m k (Point.Run r (Commit u)) n = put_other E.worker i _ m n
step_aside K E i m k (Point.Run r (Swap e new)) n = put_other E.worker i _ m n
step_aside K E i m k (Point.Run r (Mark said)) n = put_other E.worker i _ m n
step_aside K E i m k (Point.Run r (Release said)) n = put_other E.worker i _ m n

-- a step tells nothing new, or that worker i has won its lock
step_tale_lem :
    (P : Tale → Type 0) (T : Tale) (E : Scene) (i : ℕ) (k : Worker) (p : Point) → P T → P (win_tale T i k.lock) →
    P (step_tale T E i k p)
unfolding step_tale
step_tale_lem P T E i k Look a b = a
step_tale_lem P T E i k (Grab seen) a b =
    ⊎_elim (λ z. subst P (sym z.1) a) (λ z. subst P (sym z.2) b)
    (grab_way T i k.lock seen k.own (E.lock k.lock))
step_tale_lem P T E i k (LookAgain won) a b = a
step_tale_lem P T E i k (ReadMark seen won) a b = a
step_tale_lem P T E i k (Point.Run r at) a b = a

pub over_step :
    (K : Rules) (E : Scene) (T : Tale) (n i : ℕ) (p : Point) → (E.worker i).state ≡ UnderWay p → Over E T n →
    Over (step_at K E i (E.worker i) p) (step_tale T E i (E.worker i) p) n
over_step K E T n i p e v =
    step_tale_lem (λ S. Over (step_at K E i (E.worker i) p) S n) T E i (E.worker i) p
    (record { begun = v.begun; none = v.none; gone = gone })
    (record {
      begun = v.begun;
      none = absent_win T i (E.worker i).lock n (v.gone i p e) v.none;
      gone = gone;
    })
  where
    gone :
        (m : ℕ) (q : Point) → ((step_at K E i (E.worker i) p).worker m).state ≡ UnderWay q → (T.tries m).number ≢ n
    gone =
        all_but
        (λ m. (q : Point) → ((step_at K E i (E.worker i) p).worker m).state ≡ UnderWay q → (T.tries m).number ≢ n) i
        (λ q h. v.gone i p e)
        (λ m ne q h. v.gone m q (ap (λ (k : Worker). k.state) (sym (step_aside K E i m (E.worker i) p ne)) ∙ h))

pub over_idle : (E : Scene) (T : Tale) (n i : ℕ) → Over E T n → Over (idled_of E i) T n
over_idle E T n i v =
    record {
      begun = v.begun;
      none = v.none;
      gone =
          put_at_lem (λ m k. (p : Point) → k.state ≡ UnderWay p → (T.tries m).number ≢ n) E.worker i worker0
          (λ p h same. let z : ◌≡◌ {A = ℕ} 0 1 = cc in omega arith)
          (λ m ne. v.gone m);
    }
