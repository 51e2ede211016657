-- A run of the sheet that holds a lock makes a step: the words and the sheet's log change, and the invariant stays.
use Rattle.std.specs.Prelude.{None}
use Prim.Native.Nat.{ℕ}
use native.Mathlib.Omega.{arith}
use mathlib.Core.Path.{◌≡◌, refl, sym, ◌∙◌, subst}
use mathlib.Core.Logic.{◌≢◌}
use Rattle.helping.specs.Machine.{Rules, Scene, Shared, Tale, put, shared_of, set_shared}
use Rattle.helping.specs.Ideal.{Guarded, Inv, Moved}
use Rattle.helping.specs.Ok.{current, Status, View, view_of, shared_at, SheetOk, Ok}
use Rattle.helping.proofs.Put.{put_same, put_other, put_at_lem, all_but}
use Rattle.helping.proofs.Distinct.{won_kind, free_holds}
use Rattle.helping.proofs.Touch.{Touched}
use Rattle.helping.proofs.Frame.{Passed}
use Rattle.helping.proofs.Spared.{Spared, sheet_spared, passed_spared, sheet_as, passed_held}
use Rattle.helping.proofs.Change.{lock_kept, sheet_at, one_holder, held_by, passes}

abbrev pub front_of : Status → ℕ → Status
front_of σ n = record { kind = current; job = σ.job; turn = σ.turn; front = n }

module _ (K : Rules) (E : Scene) (T : Tale) (st : ℕ → Status) (o : Ok K E T st) (s : ℕ) (cur : (st s).kind ≡ current)
    (x : Shared) (n : ℕ) (tc : Touched K (st s).job (shared_of E s) x) (inv : Inv K (st s).job n x)
    (mv : Moved (st s).job (st s).front (shared_of E s) n x) where
  abbrev after : ℕ → Status
  after = put st s (front_of (st s) n)

  abbrev anew : View
  anew = view_of (set_shared E s x) after

  pub shared_there : shared_at anew s ≡ x
  shared_there = λ i. record { word = x.word; log = put_same E.log s x.log i }

  shared_other : (m : ℕ) → m ≢ s → Spared K (view_of E st) anew E.lock E.lock m
  shared_other m ne =
      record {
        st = put_other st s (front_of (st s) n) m ne;
        program = refl;
        done = refl;
        log = put_other E.log s x.log m ne;
        counts = tc.counts;
        words =
            λ e q g.
            tc.words q
            (λ (h : Guarded K (st s).job.lock q). ne (one_holder K E T st o m s e cur (sym g.1 ∙ h.1)));
        holds = λ e. refl;
      }

  -- the words of a free lock stay
  free_word : (l : ℕ) → (E.lock l).holder ≡ None → (q : ℕ) → Guarded K l q → x.word q ≡ E.word q
  free_word l e q g =
      tc.words q
      (λ (h : Guarded K (st s).job.lock q).
      free_holds (E.lock l).holder s e (held_by K E T st o s l cur (sym h.1 ∙ g.1)))

  pub shares : Ok K (set_shared E s x) T after
  shares =
      passes K E T st o anew E.lock
      (all_but (Passed (view_of E st) anew) s
      (passed_held (view_of E st) anew s (front_of (st s) n) (put_same st s (front_of (st s) n)) cur
      (won_kind current (omega arith)) refl refl
      (subst (Moved (st s).job (st s).front (shared_of E s) n) (sym shared_there) mv) refl refl)
      (λ m ne. passed_spared K (view_of E st) anew _ _ m (shared_other m ne) (o.sheet m)))
      (put_at_lem (λ m (σ : Status). σ.job ≡ (st m).job) st s (front_of (st s) n) refl (λ m ne. refl))
      (all_but (λ m. SheetOk K anew E.lock m (after m).kind) s
      (let h = sheet_at K E T st o s current cur in
      sheet_as K anew E.lock s (front_of (st s) n) (put_same st s (front_of (st s) n)) (
        record { code = h.0.code; fine = h.0.fine },
        h.1,
        subst (Inv K (st s).job n) (sym shared_there) inv,
      ))
      (λ m ne. sheet_spared K (view_of E st) anew _ _ m (shared_other m ne) (o.sheet m)))
      (λ m.
      lock_kept K T T m (E.lock m).turn refl E.word x.word st s (front_of (st s) n) (E.lock m).holder
      (free_word m) (λ e H. record { kind = sym cur; job = refl; turn = refl }) (o.lock m))
