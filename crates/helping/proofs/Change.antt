-- What the invariant says of one sheet and of one lock; and the invariant after a change that every sheet passes, and that leaves
-- the workers and the tale as they were.
use Rattle.std.specs.Prelude.{None, Option, Some}
use Prim.Native.Nat.{ℕ, ◌*◌, ◌-◌, ◌≤◌}
use native.Mathlib.Omega.{arith}
use mathlib.Core.Path.{◌≡◌, refl, sym, ap, ◌∙◌, subst}
use mathlib.Core.Logic.{◌≢◌}
use mathlib.Core.List.{List}
use lib.ListN.{get_or}
use Rattle.parts.specs.declared.LockWord.{LockWord}
use Rattle.parts.specs.declared.Reading.{Reading}
use Rattle.alone.specs.Jobs.{Try, gives_of}
use Rattle.helping.specs.Machine.{Rules, Scene, Tale, put}
use Rattle.helping.specs.Ideal.{Job, ideal_of, Guarded}
use Rattle.helping.specs.Ok.{Kind, unwon, current, past, Status, View, view_of, OnSheet, SheetOk, Won, JobBegins, HeldOk, LockOk, Ok}
use Rattle.helping.proofs.Put.{put_case}
use Rattle.helping.proofs.Distinct.{won_kind}
use Rattle.helping.proofs.Run.{next_in, lag, tally}
use Rattle.helping.proofs.Frame.{Passed, Same, frame, named_on}

-- a sheet's status after a change, at most the frontier anew
pub record Steady (σ σ' : Status) : Type 0 where
  pub kind : σ'.kind ≡ σ.kind
  pub job : σ'.job ≡ σ.job
  pub turn : σ'.turn ≡ σ.turn

-- A lock whose word and whose list stay. Where it is free, its words stay; where the sheet that changes holds it, it still does.
module _ (K : Rules) (T T' : Tale) (l t : ℕ) (list : T'.won l ≡ T.won l) where
  held_kept : (ρ ρ' : Status) → Steady ρ ρ' → HeldOk K T ρ l t → HeldOk K T' ρ' l t
  held_kept ρ ρ' e H =
      record {
        kind = e.kind ∙ H.kind;
        lock = ap (λ (J : Job). J.lock) e.job ∙ H.lock;
        turned = e.turn ∙ H.turned;
        early = H.early;
        last = H.last;
        earlier = H.earlier;
        list = list ∙ H.list;
        code = H.code ∙ ap (λ (J : Job). J.code) (sym e.job);
        from = subst (λ (J : Job). JobBegins K J H.earlier) (sym e.job) H.from;
        counts = λ q g. rw e.job (H.counts q g);
      }

  pub lock_kept :
      (w w' : ℕ → Reading) (st : ℕ → Status) (s : ℕ) (σ : Status) (h : Option ℕ) →
      (h ≡ None → (q : ℕ) → Guarded K l q → w' q ≡ w q) →
      (h ≡ Some s → HeldOk K T (st s) l t → Steady (st s) σ) → LockOk K w T st l t h →
      LockOk K w' T' (put st s σ) l t h
  lock_kept w w' st s σ None f g o =
      record {
        early = o.early;
        values =
            λ q z.
            ap (λ (u : Reading). u.value) (f refl q z) ∙ o.values q z ∙
            ap (λ (ts : List Try). get_or (gives_of ts K.values) q 0) (sym list);
        counts = λ q z. rw (f refl q z) (o.counts q z);
      }
  lock_kept w w' st s σ (Some a) f g o =
      held_kept (st a) (put st s σ a)
      (put_case st s σ (Steady (st a)) a
      (λ e.
      subst (λ (m : ℕ). Steady (st m) σ) (sym e) (g (ap Some e) (subst (λ (m : ℕ). HeldOk K T (st m) l t) e o)))
      (λ n. record { kind = refl; job = refl; turn = refl }))
      o

-- the scene with all but its workers anew
abbrev pub scene_of : Scene → View → (ℕ → LockWord) → Scene
scene_of E v lock =
    record {
      word = v.word;
      lock = lock;
      program = v.program;
      done = v.done;
      log = v.log;
      worker = E.worker;
    }

-- a sheet that passed the change with its job is what is told of its try
pub same_of : (v v' : View) (s : ℕ) → Passed v v' s → (v'.st s).job ≡ (v.st s).job → Same v v' s
same_of v v' s p j =
    record { from = go (v.st s).kind refl; to = p.un; job = j; program = p.program }
  where
    go : (κ : Kind) → (v.st s).kind ≡ κ → (v'.st s).kind ≡ unwon → (v.st s).kind ≡ unwon
    go unwon e u = e
    go current e u = absurd ((p.won (λ z. won_kind current (omega arith) (sym e ∙ z))).is u)
    go past e u = absurd ((p.won (λ z. won_kind past (omega arith) (sym e ∙ z))).is u)

module _ (K : Rules) (E : Scene) (T : Tale) (st : ℕ → Status) (o : Ok K E T st) where
  pub sheet_at : (s : ℕ) (κ : Kind) → (st s).kind ≡ κ → SheetOk K (view_of E st) E.lock s κ
  sheet_at s κ e = subst (λ (z : Kind). SheetOk K (view_of E st) E.lock s z) e (o.sheet s)

  pub on_sheet : (s : ℕ) → (st s).kind ≢ unwon → OnSheet K (view_of E st) s
  on_sheet s n = go (st s).kind refl
    where
      go : (κ : Kind) → (st s).kind ≡ κ → OnSheet K (view_of E st) s
      go unwon e = absurd (n e)
      go current e = (sheet_at s current e).0
      go past e = (sheet_at s past e).0

  -- a lock, by its word, and by its holder alone
  pub lock_is : (l : ℕ) (x : LockWord) → E.lock l ≡ x → LockOk K E.word T st l x.turn x.holder
  lock_is l x e = subst (λ (y : LockWord). LockOk K E.word T st l y.turn y.holder) e (o.lock l)

  pub lock_at_lem : (l : ℕ) (h : Option ℕ) → (E.lock l).holder ≡ h → LockOk K E.word T st l (E.lock l).turn h
  lock_at_lem l h e = lock_is l _ (λ i. record { turn = (E.lock l).turn; holder = e i })

  -- the words of a held lock are the ideal run's, and their counts are low
  pub held_word :
      (l s : ℕ) → (E.lock l).holder ≡ Some s → (q : ℕ) → Guarded K l q →
      E.word q ≡ (ideal_of (st s).job (st s).front).words q
  held_word l s e q g =
      let H = lock_at_lem l (Some s) e in
      (sheet_at s current H.kind).2.words q (g.0, g.1 ∙ sym H.lock)

  pub held_counts :
      (l s : ℕ) → (E.lock l).holder ≡ Some s → (q : ℕ) → Guarded K l q →
      (E.word q).count ≤ (K.most - 1) * (E.lock l).turn
  held_counts l s e q g =
      let H = lock_at_lem l (Some s) e in
      let f = (sheet_at s current H.kind).0.fine in
      let J : Job = (st s).job in
      let n : ℕ = (st s).front in
      omega (
        arith,
        ap (λ (u : Reading). u.count) (held_word l s e q g),
        tally J n q,
        lag J n,
        next_in K J f n,
        f.short,
        H.counts q g,
      )

  pub won_held : (l s : ℕ) → (E.lock l).holder ≡ Some s → Won (st s) l (E.lock l).turn
  won_held l s e =
      let H = lock_at_lem l (Some s) e in
      record { is = λ u. won_kind current (omega arith) (sym H.kind ∙ u); lock = H.lock; turn = H.turned }

  -- two sheets don't hold one lock
  pub one_holder :
      (a b : ℕ) → (st a).kind ≡ current → (st b).kind ≡ current → (st a).job.lock ≡ (st b).job.lock → a ≡ b
  one_holder a b x y e =
      let d : Some a ≡ Some b =
      ap (λ (w : LockWord). w.holder) (sym (sheet_at a current x).1 ∙ ap E.lock e ∙ (sheet_at b current y).1) in
      cc

  pub held_by : (s l : ℕ) → (st s).kind ≡ current → (st s).job.lock ≡ l → (E.lock l).holder ≡ Some s
  held_by s l e z = ap (λ (m : ℕ). (E.lock m).holder) (sym z) ∙ ap (λ (w : LockWord). w.holder) (sheet_at s current e).1

  pub passes :
      (v : View) (lock : ℕ → LockWord) → ((s : ℕ) → Passed (view_of E st) v s) →
      ((s : ℕ) → (v.st s).job ≡ (st s).job) → ((s : ℕ) → SheetOk K v lock s (v.st s).kind) →
      ((l : ℕ) → LockOk K v.word T v.st l (lock l).turn (lock l).holder) → Ok K (scene_of E v lock) T v.st
  passes v lock p j sheets locks =
      record {
        sheet = sheets;
        lock = locks;
        worker =
            λ m.
            frame K (view_of E st) v (E.worker m) (E.worker m).state (λ q e. p (E.worker m).own) (λ q t e h n. p t)
            (o.worker m);
        named =
            λ m.
            named_on K T (view_of E st) v (T.tries m) (E.worker m) (E.worker m).state
            (λ q e. same_of (view_of E st) v (E.worker m).own (p (E.worker m).own) (j (E.worker m).own)) (o.named m);
        apart = o.apart;
        ids = o.ids;
        begun = o.begun;
        unborn = o.unborn;
        once = o.once;
        only = o.only;
      }
