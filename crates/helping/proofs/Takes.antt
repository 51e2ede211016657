-- A worker takes a free lock for its own sheet, and its try joins the lock's list: the invariant stays.
use Rattle.std.specs.Prelude.{Some}
use Prim.Native.Nat.{ℕ, suc, ◌<◌}
use native.Mathlib.Nat.{le_refl}
use native.Mathlib.Omega.{arith}
use mathlib.Core.Path.{◌≡◌, refl, sym, ap, ◌∙◌, subst}
use mathlib.Core.Logic.{inl, inr, ◌≢◌}
use mathlib.Core.List.{[], ◌∷◌}
use lib.ListN.{get_or}
use Rattle.parts.specs.declared.LockWord.{LockWord}
use Rattle.steps.specs.declared.Point.{Point}
use Rattle.steps.specs.declared.Point.TheVariants.{LookAgain}
use Rattle.steps.specs.declared.State.{State}
use Rattle.steps.specs.declared.State.TheVariants.{UnderWay}
use Rattle.steps.specs.declared.Worker.{Worker}
use Rattle.alone.specs.Jobs.{gives_of}
use Rattle.helping.specs.Machine.{Rules, Scene, Tale, put, shared_of, set_lock, win_tale}
use Rattle.helping.specs.Ideal.{Job, ideal_of, Fine, Inv}
use Rattle.helping.specs.Ok.{unwon, current, Status, View, view_of, SheetOk, StateOk, FreeOk, HeldOk, LockOk, TryOk, Named, Ok}
use Rattle.helping.proofs.Put.{put_same, put_other, put_at_lem, all_but}
use Rattle.helping.proofs.Distinct.{won_kind, free_holds}
use Rattle.helping.proofs.Frame.{Passed, frame, named_on}
use Rattle.helping.proofs.Spared.{Spared, sheet_spared, passed_spared, sheet_as}
use Rattle.helping.proofs.Change.{lock_kept, same_of, sheet_at, lock_is, held_by}
use Rattle.helping.proofs.Frees.{free_at}
use Rattle.helping.proofs.Looks.{mine, mine_named, busy}
use Rattle.helping.proofs.Wins.{times_win, once_win, only_win, named_win}

module _ (K : Rules) (E : Scene) (T : Tale) (st : ℕ → Status) (o : Ok K E T st) (i : ℕ) (k : Worker)
    (is : E.worker i ≡ k) (t : ℕ) (at : k.state ≡ UnderWay (LookAgain (suc t))) (un : (st k.own).kind ≡ unwon)
    (fine : Fine K k.lock (E.program k.own)) (free : E.lock k.lock ≡ free_at t) (low : t < K.last) where
  abbrev own : ℕ
  own = k.own

  abbrev l : ℕ
  l = k.lock

  -- the job begins with what the earlier jobs give, and so with the words as they are
  abbrev won_job : Job
  won_job =
      record {
        code = E.program own;
        lock = l;
        words = λ q. record { value = get_or (gives_of (T.won l) K.values) q 0; count = (E.word q).count };
      }

  abbrev won_status : Status
  won_status = record { kind = current; job = won_job; turn = suc t; front = 0 }

  abbrev held_word : LockWord
  held_word = record { turn = suc t; holder = Some own }

  abbrev after : ℕ → Status
  after = put st own won_status

  abbrev anew : View
  anew = view_of E after

  was_free : FreeOk K E.word T l t
  was_free = lock_is K E T st o l _ free

  underway : (E.worker i).state ≡ UnderWay (LookAgain (suc t))
  underway = ap (λ (x : Worker). x.state) is ∙ at

  try : TryOk K T (view_of E st) (T.tries i) k
  try = subst (TryOk K T (view_of E st) (T.tries i)) is (mine_named K E T st o i _ underway)

  inv_start : Inv K won_job 0 (shared_of E own)
  unfolding ideal_of
  inv_start =
      let f = sheet_at K E T st o own unwon un in
      record {
        words = λ q g i. record { value = was_free.values q g i; count = (E.word q).count };
        past = λ j h m. absurd (omega arith);
        here = λ m. inl (f.1 _);
        later = λ p h. f.1 p;
      }

  took_other : (m : ℕ) → m ≢ own → Spared K (view_of E st) anew E.lock (put E.lock l held_word) m
  took_other m n =
      record {
        st = put_other st own won_status m n;
        program = refl;
        done = refl;
        log = refl;
        counts = λ q. le_refl (E.word q).count;
        words = λ e q g. refl;
        holds =
            λ e.
            put_other E.lock l held_word (st m).job.lock
            (λ (z : (st m).job.lock ≡ l).
            free_holds (E.lock l).holder m (ap (λ (x : LockWord). x.holder) free) (held_by K E T st o m l e z));
      }

  other_passed : (m : ℕ) → m ≢ own → Passed (view_of E st) anew m
  other_passed m n =
      passed_spared K (view_of E st) anew E.lock (put E.lock l held_word) m (took_other m n) (o.sheet m)

  -- another worker under way has another own sheet
  own_other : (m : ℕ) → m ≢ i → (p : Point) → (E.worker m).state ≡ UnderWay p → (E.worker m).own ≢ own
  own_other m n p e z = n (o.apart m i p (LookAgain (suc t)) e underway (z ∙ ap (λ (x : Worker). x.own) (sym is)))

  took_lock : HeldOk K (win_tale T i l) won_status l (suc t)
  took_lock =
      record {
        kind = refl;
        lock = refl;
        turned = refl;
        early = low;
        last = T.tries i;
        earlier = T.won l;
        list = put_same T.won l (T.tries i ∷ T.won l);
        code = sym try.program;
        from = λ q. refl;
        counts = λ q g. omega (arith, was_free.counts q g);
      }

  other_lock :
      (m : ℕ) → m ≢ l → LockOk K E.word (win_tale T i l) after m (E.lock m).turn (E.lock m).holder
  other_lock m n =
      let list : (win_tale T i l).won m ≡ T.won m = put_other T.won l (T.tries i ∷ T.won l) m n in
      lock_kept K T (win_tale T i l) m (E.lock m).turn list E.word E.word st own won_status (E.lock m).holder
      (λ e q g. refl) (λ e H. absurd (won_kind current (omega arith) (sym H.kind ∙ un))) (o.lock m)

  try_state : StateOk K anew (E.worker i) (E.worker i).state
  try_state =
      let was : StateOk K (view_of E st) k (UnderWay (LookAgain (suc t))) =
      subst (λ (x : Worker). StateOk K (view_of E st) x (UnderWay (LookAgain (suc t)))) is (mine K E T st o i _ underway) in
      subst (λ (x : Worker). StateOk K anew x x.state) (sym is)
      (subst (StateOk K anew k) (sym at) (
        was.0,
        inr
            (rw (put_same st own won_status) (record { is = won_kind current (omega arith); lock = refl; turn = refl })),
      ))

  try_named : Named K (win_tale T i l) anew (T.tries i) (E.worker i) (E.worker i).state
  try_named =
      subst (λ (x : Worker). Named K (win_tale T i l) anew (T.tries i) x x.state) (sym is)
      (subst (λ (s : State). Named K (win_tale T i l) anew (T.tries i) k s) (sym at)
      (record {
        lock = try.lock;
        program = try.program;
        absent =
            λ u.
            absurd (won_kind current (omega arith) (ap (λ (σ : Status). σ.kind) (sym (put_same st own won_status)) ∙ u));
        listed =
            λ u.
            record {
              later = [];
              earlier = T.won l;
              list = ap (win_tale T i l).won try.lock ∙ put_same T.won l (T.tries i ∷ T.won l);
              holds = λ q. ap (λ (σ : Status). (σ.job.words q).value) (put_same st own won_status);
            };
      }))

  pub takes : Ok K (set_lock E l held_word) (win_tale T i l) after
  takes =
      record {
        sheet =
            all_but (λ m. SheetOk K anew (put E.lock l held_word) m (after m).kind) own
            (sheet_as K anew (put E.lock l held_word) own won_status (put_same st own won_status)
            (record { code = refl; fine = fine }, put_same E.lock l held_word, inv_start))
            (λ m n. sheet_spared K (view_of E st) anew E.lock (put E.lock l held_word) m (took_other m n) (o.sheet m));
        lock =
            put_at_lem (λ m (x : LockWord). LockOk K E.word (win_tale T i l) after m x.turn x.holder) E.lock l
            held_word
            (subst (λ (σ : Status). HeldOk K (win_tale T i l) σ l (suc t)) (sym (put_same st own won_status)) took_lock)
            other_lock;
        worker =
            all_but (λ m. StateOk K anew (E.worker m) (E.worker m).state) i try_state
            (λ m n.
            frame K (view_of E st) anew (E.worker m) (E.worker m).state
            (λ p e. other_passed (E.worker m).own (own_other m n p e))
            (λ p s e h z. other_passed s (λ (y : s ≡ own). z (ap (λ (x : ℕ). (st x).kind) y ∙ un))) (o.worker m));
        named =
            all_but (λ m. Named K (win_tale T i l) anew (T.tries m) (E.worker m) (E.worker m).state) i try_named
            (λ m n.
            named_win T i l K anew (T.tries m) (E.worker m) (E.worker m).state
            (λ b (e : (T.tries i).number ≡ (T.tries m).number). n (o.ids m i b (busy K E T st o i _ underway) (sym e)))
            (named_on K T (view_of E st) anew (T.tries m) (E.worker m) (E.worker m).state
            (λ p e.
            same_of (view_of E st) anew (E.worker m).own (other_passed (E.worker m).own (own_other m n p e))
            (ap (λ (σ : Status). σ.job) (put_other st own won_status (E.worker m).own (own_other m n p e))))
            (o.named m)));
        apart = o.apart;
        ids = o.ids;
        begun = o.begun;
        unborn =
            λ n m h.
            times_win T i l n
            (λ (e : (T.tries i).number ≡ n). omega (arith, o.begun i (busy K E T st o i _ underway), h, e)) m ∙
            o.unborn n m h;
        once = once_win T i l (try.absent un) o.once;
        only = only_win T i l (try.absent un) o.only;
      }
