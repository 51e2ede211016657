-- What a change of the scene leaves of the invariant of the workers, sheets and locks that it does not touch.
use Rattle.std.specs.Prelude.{Some}
use Prim.Native.Nat.{ℕ}
use mathlib.Core.Path.{◌≡◌, refl, sym, ap, ◌∙◌, subst}
use mathlib.Core.Logic.{◌⊎◌, inl, inr, ◌≢◌}
use mathlib.Core.Bool.{true}
use mathlib.Core.List.{List}
use Rattle.parts.specs.declared.Answer.TheVariants.{RanYes, RanNo, NotTaken, Worn}
use Rattle.steps.specs.Places.{helped_of}
use Rattle.steps.specs.declared.Point.{Point}
use Rattle.steps.specs.declared.Point.TheVariants.{Look, Grab, LookAgain, ReadMark}
use Rattle.steps.specs.declared.Run.{Run}
use Rattle.steps.specs.declared.Stage.{Stage}
use Rattle.steps.specs.declared.State.{State}
use Rattle.steps.specs.declared.State.TheVariants.{Idle, UnderWay, Finished}
use Rattle.steps.specs.declared.Worker.{Worker}
use Rattle.alone.specs.Jobs.{Try}
use Rattle.helping.specs.Machine.{Rules, Scene, Tale, put, set_worker}
use Rattle.helping.specs.Ideal.{Job, Fine, Moved, RunStands}
use Rattle.helping.specs.Ok.{Status, View, view_of, shared_at, unwon, past, Won, Lost, RunsAt, PointOk, StateOk, JobBegins, Listed, Absent, Named, NotIdle, Ok}
use Rattle.helping.proofs.Put.{put_at_lem}
use Rattle.helping.proofs.Inside.{others}

-- a sheet that has won, before and after a change
pub record Carried (v v' : View) (s : ℕ) : Type 0 where
  pub is : (v'.st s).kind ≢ unwon
  pub job : (v'.st s).job ≡ (v.st s).job
  pub turn : (v'.st s).turn ≡ (v.st s).turn
  pub moved : Moved (v.st s).job (v.st s).front (shared_at v s) (v'.st s).front (shared_at v' s)

pub record Passed (v v' : View) (s : ℕ) : Type 0 where
  pub un : (v.st s).kind ≡ unwon → (v'.st s).kind ≡ unwon
  pub pa : (v.st s).kind ≡ past → (v'.st s).kind ≡ past
  pub won : (v.st s).kind ≢ unwon → Carried v v' s
  pub program : v'.program s ≡ v.program s
  pub done : v.done s ≡ true → v'.done s ≡ true

module _ (K : Rules) (v v' : View) where
  won_carried : (s l t : ℕ) → Passed v v' s → Won (v.st s) l t → Won (v'.st s) l t
  won_carried s l t p w =
      let c = p.won w.is in
      record { is = c.is; lock = ap (λ (J : Job). J.lock) c.job ∙ w.lock; turn = c.turn ∙ w.turn }

  again_passed :
      (s l t : ℕ) → Passed v v' s → ((v.st s).kind ≡ unwon) ⊎ Won (v.st s) l t →
      ((v'.st s).kind ≡ unwon) ⊎ Won (v'.st s) l t
  again_passed s l t p (inl e) = inl (p.un e)
  again_passed s l t p (inr w) = inr (won_carried s l t p w)

  lost_passed : (s l t : ℕ) → Passed v v' s → Lost (v.st s) l t → Lost (v'.st s) l t
  lost_passed s l t p (inl e) = inl (p.un e)
  lost_passed s l t p (inr w) = inr (p.pa w.0, won_carried s l t p w.1)

  runs_passed :
      (own l : ℕ) (r : Run) (at : Stage) → Passed v v' own → Passed v v' r.sheet → RunsAt v own l r at →
      RunsAt v' own l r at
  runs_passed own l r at o q i =
      let s : ℕ = r.sheet in
      let c = q.won i.0.won.is in (
        record { help = λ n. o.un (i.0.help n); won = won_carried s l r.won q i.0.won },
        subst (λ (J : Job). RunStands J (v'.st s).front (shared_at v' s) r at) (sym c.job)
            (others (v.st s).job (v.st s).front (v'.st s).front (shared_at v s) (shared_at v' s) r at c.moved i.1),
      )

  point_frame :
      (own l : ℕ) (p : Point) → Passed v v' own →
      ((t : ℕ) → helped_of p ≡ Some t → (v.st t).kind ≢ unwon → Passed v v' t) → PointOk K v own l p →
      PointOk K v' own l p
  unfolding helped_of
  point_frame own l Look q f i = (q.un i.0, subst (Fine K l) (sym q.program) i.1)
  point_frame own l (Grab seen) q f i = (q.un i.0, subst (Fine K l) (sym q.program) i.1, i.2)
  point_frame own l (LookAgain won) q f i = again_passed own l won q i
  point_frame own l (ReadMark seen won) q f i =
      record {
        holder = λ s e. won_carried s l seen.turn (f s e (i.holder s e).is) (i.holder s e);
        itself = λ e. won_carried own l won q (i.itself e);
        other = λ n. lost_passed own l won q (i.other n);
      }
  point_frame own l (Point.Run r at) q f i =
      let g = f r.sheet refl i.0.0.won.is in
      (runs_passed own l r at q g i.0, λ z. g.done (i.1 z))

-- a worker whose own sheet passed the change, and so did the sheet that it helps, if that has won
pub frame :
    (K : Rules) (v v' : View) (k : Worker) (s : State) → ((p : Point) → s ≡ UnderWay p → Passed v v' k.own) →
    ((p : Point) (t : ℕ) → s ≡ UnderWay p → helped_of p ≡ Some t → (v.st t).kind ≢ unwon → Passed v v' t) →
    StateOk K v k s → StateOk K v' k s
frame K v v' k Idle f g o = o
frame K v v' k (UnderWay p) f g o = (o.0, point_frame K v v' k.own k.lock p (f p refl) (λ t. g p t refl) o.1)
frame K v v' k (Finished x) f g o = o

-- what is told of a worker's try, where its own sheet's status and program are what they were
pub record Same (v v' : View) (s : ℕ) : Type 0 where
  pub from : (v'.st s).kind ≡ unwon → (v.st s).kind ≡ unwon
  pub to : (v.st s).kind ≡ unwon → (v'.st s).kind ≡ unwon
  pub job : (v'.st s).job ≡ (v.st s).job
  pub program : v'.program s ≡ v.program s

pub named_on :
    (K : Rules) (T : Tale) (v v' : View) (t : Try) (k : Worker) (s : State) →
    ((p : Point) → s ≡ UnderWay p → Same v v' k.own) → Named K T v t k s → Named K T v' t k s
named_on K T v v' t k Idle f n = n
named_on K T v v' t k (UnderWay p) f n =
    let m = f p refl in
    record {
      lock = n.lock;
      program = m.program ∙ n.program;
      absent = λ u. n.absent (m.from u);
      listed =
          λ u.
          subst (λ (J : Job). Listed (JobBegins K J) t (T.won t.lock)) (sym m.job) (n.listed (λ e. u (m.to e)));
    }
named_on K T v v' t k (Finished x) f n = n

-- what is told of a try hangs on the lists only
pub retold :
    (K : Rules) (T T' : Tale) (v : View) (t : Try) (k : Worker) (s : State) →
    (NotIdle s → Absent T t.number → Absent T' t.number) →
    ((P : List Try → Type 0) → Listed P t (T.won t.lock) → Listed P t (T'.won t.lock)) → Named K T v t k s →
    Named K T' v t k s
retold K T T' v t k Idle a f n = tt
retold K T T' v t k (UnderWay p) a f n =
    record { lock = n.lock; program = n.program; absent = λ u. a tt (n.absent u); listed = λ u. f _ (n.listed u) }
retold K T T' v t k (Finished RanYes) a f n = (n.0, f _ n.1)
retold K T T' v t k (Finished RanNo) a f n = (n.0, f _ n.1)
retold K T T' v t k (Finished NotTaken) a f n = (n.0, a tt n.1)
retold K T T' v t k (Finished Worn) a f n = (n.0, a tt n.1)

-- only worker i changes, and becomes k
pub record Keeps (E : Scene) (i : ℕ) (k : Worker) : Type 0 where
  pub at : Point
  pub state : (E.worker i).state ≡ UnderWay at
  pub own : (E.worker i).own ≡ k.own

pub only_worker :
    (K : Rules) (E : Scene) (T : Tale) (st : ℕ → Status) (i : ℕ) (k : Worker) → Ok K E T st →
    StateOk K (view_of E st) k k.state → Named K T (view_of E st) (T.tries i) k k.state →
    ((p : Point) → k.state ≡ UnderWay p → Keeps E i k) → (NotIdle k.state → NotIdle (E.worker i).state) →
    Ok K (set_worker E i k) T st
only_worker K E T st i k o w n own busy =
    let was : (m : ℕ) (p : Point) → (put E.worker i k m).state ≡ UnderWay p → Keeps E m (put E.worker i k m) =
    put_at_lem (λ m (x : Worker). (p : Point) → x.state ≡ UnderWay p → Keeps E m x) E.worker i k own
    (λ m n p e. record { at = p; state = e; own = refl }) in
    let still : (m : ℕ) → NotIdle (put E.worker i k m).state → NotIdle (E.worker m).state =
    put_at_lem (λ m (x : Worker). NotIdle x.state → NotIdle (E.worker m).state) E.worker i k busy (λ m n b. b) in
    record {
      sheet = o.sheet;
      lock = o.lock;
      worker =
          put_at_lem (λ m (x : Worker). StateOk K (view_of E st) x x.state) E.worker i k w (λ m n. o.worker m);
      named =
          put_at_lem (λ m (x : Worker). Named K T (view_of E st) (T.tries m) x x.state) E.worker i k n
          (λ m n. o.named m);
      apart =
          λ a b p q x y z.
          let f = was a p x in
          let g = was b q y in
          o.apart a b f.at g.at f.state g.state (f.own ∙ z ∙ sym g.own);
      ids = λ a b x y. o.ids a b (still a x) (still b y);
      begun = λ a x. o.begun a (still a x);
      unborn = o.unborn;
      once = o.once;
      only = o.only;
    }
