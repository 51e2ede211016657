-- The steps that look: at the lock, again at the lock, and at the own mark. Only the worker changes, and the invariant stays.
use Rattle.std.specs.Prelude.{None, Option, Some}
use Prim.Native.Nat.{ℕ, ◌+◌, ◌*◌, ◌-◌, ◌<◌}
use native.Mathlib.Omega.{arith}
use native.Mathlib.Decide.{ℕ_discrete}
use mathlib.Core.Path.{◌≡◌, refl, sym, ap, ◌∙◌, subst}
use mathlib.Core.Logic.{◌⊎◌, inl, inr, ◌≢◌}
use mathlib.Core.Bool.{Bool, true, false}
use lib.Dec.{eqb}
use borrow.Author.Tests.{eqb-true, eqb-false}
use Rattle.parts.specs.Pick.{pick, on_option}
use Rattle.parts.specs.declared.Answer.{Answer}
use Rattle.parts.specs.declared.Answer.TheVariants.{NotTaken, Worn}
use Rattle.parts.specs.declared.LockWord.{LockWord}
use Rattle.steps.specs.Try.{start_of}
use Rattle.steps.specs.declared.Point.{Point}
use Rattle.steps.specs.declared.Point.TheVariants.{Look, Grab, LookAgain, ReadMark}
use Rattle.steps.specs.declared.Stage.TheVariants.{Read}
use Rattle.steps.specs.declared.State.TheVariants.{UnderWay, Finished}
use Rattle.steps.specs.declared.Worker.{Worker}
use Rattle.helping.specs.Machine.{Rules, Scene, Shared, Tale, machine_moved, on_to, look_to, mark_to}
use Rattle.helping.specs.Ideal.{Job, ideal_of, RunStands}
use Rattle.helping.specs.Ok.{Kind, unwon, current, past, Status, view_of, Won, Lost, MarkOk, PointOk, todo_at, StateOk, AnswerOk, TryOk, Named, NotIdle, Ok}
use Rattle.helping.proofs.Distinct.{free_holds}
use Rattle.helping.proofs.Frame.{only_worker}
use Rattle.helping.proofs.Change.{sheet_at, lock_at_lem, won_held, held_by}

-- a run stands at its start
starts : (J : Job) (n : ℕ) (x : Shared) (s t : ℕ) → RunStands J n x (start_of s t) Read
unfolding ideal_of
starts J n x s t =
    record { j = 0; behind = omega arith; inn = (record { next = refl; registers = refl }, refl) }

module _ (K : Rules) (E : Scene) (T : Tale) (st : ℕ → Status) (o : Ok K E T st) (i : ℕ) (p : Point)
    (e : (E.worker i).state ≡ UnderWay p) where
  abbrev k : Worker
  k = E.worker i

  pub mine : StateOk K (view_of E st) k (UnderWay p)
  mine = subst (StateOk K (view_of E st) k) e (o.worker i)

  pub mine_named : TryOk K T (view_of E st) (T.tries i) k
  mine_named = subst (Named K T (view_of E st) (T.tries i) k) e (o.named i)

  pub busy : NotIdle k.state
  busy = subst NotIdle (sym e) tt

  -- the worker goes on to a point
  pub goes :
      (q : Point) → todo_at K.most q < todo_at K.most p → PointOk K (view_of E st) k.own k.lock q →
      Ok K (on_to E i k (UnderWay q)) T st
  goes q h w =
      only_worker K E T st i (machine_moved k (UnderWay q)) o (omega (arith, mine.0, h), w)
      (record {
        lock = mine_named.lock;
        program = mine_named.program;
        absent = mine_named.absent;
        listed = mine_named.listed;
      })
      (λ r z. record { at = p; state = e; own = refl }) (λ b. busy)

  -- the worker finishes
  pub ends :
      (a : Answer) → 0 < todo_at K.most p → AnswerOk K T (T.tries i) a → Ok K (on_to E i k (Finished a)) T st
  ends a h w =
      only_worker K E T st i (machine_moved k (Finished a)) o (omega (arith, mine.0, h)) (mine_named.lock, w)
      (λ r z.
      let y : ◌≡◌ {A = ℕ} 0 1 = cc in
      absurd (omega arith))
      (λ b. busy)

  -- on to a run of a sheet that has won this lock
  runs :
      (s t : ℕ) → 3 + (K.most - 1) * 3 < todo_at K.most p → (s ≢ k.own → (st k.own).kind ≡ unwon) →
      Won (st s) k.lock t → Ok K (on_to E i k (UnderWay (Point.Run (start_of s t) Read))) T st
  runs s t h u w =
      goes (Point.Run (start_of s t) Read) (omega (arith, h)) ((record { help = u; won = w }, starts _ _ _ s t), λ z. absurd z)

module _ (K : Rules) (E : Scene) (T : Tale) (st : ℕ → Status) (o : Ok K E T st) (i : ℕ) where
  abbrev own : ℕ
  own = (E.worker i).own

  abbrev l : ℕ
  l = (E.worker i).lock

  pub look_ok :
      (E.worker i).state ≡ UnderWay Look → Ok K (on_to E i (E.worker i) (look_to K.last (E.lock l))) T st
  unfolding look_to
  look_ok e = go (E.lock l).holder refl
    where
      q : PointOk K (view_of E st) own l Look
      q = (mine K E T st o i Look e).1

      free :
          (b : Bool) → (E.lock l).holder ≡ None → eqb (E.lock l).turn K.last ≡ b →
          Ok K (on_to E i (E.worker i) (pick b (Finished Worn) (UnderWay (Grab (E.lock l).turn)))) T st
      free true h z = ends K E T st o i Look e Worn (omega arith) ((mine_named K E T st o i Look e).absent q.0)
      free false h z =
          let f = lock_at_lem K E T st o l None h in
          goes K E T st o i Look e (Grab (E.lock l).turn) (omega arith)
          (q.0, q.1, omega (arith, f.early, eqb-false (E.lock l).turn K.last z))

      go :
          (h : Option ℕ) → (E.lock l).holder ≡ h →
          Ok K
          (on_to E i (E.worker i)
          (on_option h (pick (eqb (E.lock l).turn K.last) (Finished Worn) (UnderWay (Grab (E.lock l).turn)))
          (λ s. UnderWay (Point.Run (start_of s (E.lock l).turn) Read))))
          T st
      go None h = free (eqb (E.lock l).turn K.last) h refl
      go (Some s) h =
          runs K E T st o i Look e s (E.lock l).turn (omega arith) (λ n. q.0) (won_held K E T st o l s h)

  -- a sheet that the lock does not name does not hold it
  not_holder : (won : ℕ) → (E.lock l).holder ≢ Some own → ((st own).kind ≡ unwon) ⊎ Won (st own) l won → Lost (st own) l won
  not_holder won n (inl u) = inl u
  not_holder won n (inr w) = go (st own).kind refl
    where
      go : (κ : Kind) → (st own).kind ≡ κ → Lost (st own) l won
      go unwon z = inl z
      go current z = absurd (n (held_by K E T st o own l z w.lock))
      go past z = inr (z, w)

  pub again_ok :
      (won : ℕ) → (E.worker i).state ≡ UnderWay (LookAgain won) →
      Ok K (on_to E i (E.worker i) (UnderWay (ReadMark (E.lock l) won))) T st
  again_ok won e =
      let q : PointOk K (view_of E st) own l (LookAgain won) = (mine K E T st o i (LookAgain won) e).1 in
      goes K E T st o i (LookAgain won) e (ReadMark (E.lock l) won) (omega arith)
      (record {
        holder = won_held K E T st o l;
        itself = λ h. itself h q;
        other = λ n. not_holder won n q;
      })
    where
      itself : (E.lock l).holder ≡ Some own → ((st own).kind ≡ unwon) ⊎ Won (st own) l won → Won (st own) l won
      itself h (inl u) = absurd ((won_held K E T st o l own h).is u)
      itself h (inr w) = w

  -- what the own mark tells of a sheet that may have let go of its lock
  marked : (won : ℕ) → E.done own ≡ true → Lost (st own) l won → Won (st own) l won
  marked won d (inl u) =
      let y : true ≡ false = sym d ∙ (sheet_at K E T st o own unwon u).0 in
      let z : ◌≡◌ {A = ℕ} 0 1 = cc in
      absurd (omega arith)
  marked won d (inr w) = w.1

  unmarked : (won : ℕ) → E.done own ≡ false → Lost (st own) l won → (st own).kind ≡ unwon
  unmarked won d (inl u) = u
  unmarked won d (inr w) =
      let y : true ≡ false = sym (sheet_at K E T st o own past w.0).2 ∙ d in
      cc

  pub read_mark_ok :
      (seen : LockWord) (won : ℕ) → (E.worker i).state ≡ UnderWay (ReadMark seen won) →
      Ok K (on_to E i (E.worker i) (mark_to (E.done own) seen won own)) T st
  unfolding mark_to
  read_mark_ok seen won e = go (E.done own) seen.holder refl refl
    where
      q : MarkOk (view_of E st) own l seen won
      q = (mine K E T st o i (ReadMark seen won) e).1

      run :
          (s t : ℕ) → (s ≢ own → (st own).kind ≡ unwon) → Won (st s) l t →
          Ok K (on_to E i (E.worker i) (UnderWay (Point.Run (start_of s t) Read))) T st
      run s t = runs K E T st o i (ReadMark seen won) e s t (omega arith)

      run_own : Won (st own) l won → Ok K (on_to E i (E.worker i) (UnderWay (Point.Run (start_of own won) Read))) T st
      run_own = run own won (λ n. absurd (n refl))

      other : (s : ℕ) → seen.holder ≡ Some s → s ≢ own → seen.holder ≢ Some own
      other s h n z =
          let d : Some s ≡ Some own = sym h ∙ z in
          n cc

      own_won : (h : Option ℕ) → E.done own ≡ true → seen.holder ≡ h → Won (st own) l won
      own_won None d h = marked won d (q.other (free_holds seen.holder own h))
      own_won (Some s) d h = by (ℕ_discrete s own)
        where
          by : Dec (s ≡ own) → Won (st own) l won
          by (yes z) = q.itself (h ∙ ap Some z)
          by (no n) = marked won d (q.other (other s h n))

      held :
          (s : ℕ) (b : Bool) → E.done own ≡ false → seen.holder ≡ Some s → eqb s own ≡ b →
          Ok K
          (on_to E i (E.worker i)
          (pick b (UnderWay (Point.Run (start_of own won) Read)) (UnderWay (Point.Run (start_of s seen.turn) Read))))
          T st
      held s true d h z = run_own (q.itself (h ∙ ap Some (eqb-true s own z)))
      held s false d h z =
          run s seen.turn (λ n. unmarked won d (q.other (other s h (eqb-false s own z)))) (q.holder s h)

      go :
          (b : Bool) (h : Option ℕ) → E.done own ≡ b → seen.holder ≡ h →
          Ok K
          (on_to E i (E.worker i)
          (pick b (UnderWay (Point.Run (start_of own won) Read))
          (on_option h (Finished NotTaken)
          (λ s. pick (eqb s own) (UnderWay (Point.Run (start_of own won) Read)) (UnderWay (Point.Run (start_of s seen.turn) Read))))))
          T st
      go true h d z = run_own (own_won h d z)
      go false None d z =
          ends K E T st o i (ReadMark seen won) e NotTaken (omega arith)
          ((mine_named K E T st o i (ReadMark seen won) e).absent
          (unmarked won d (q.other (free_holds seen.holder own z))))
      go false (Some s) d z = held s (eqb s own) d z refl
