-- The sheet that holds a lock lets go of it, at a halt and marked: the invariant stays. The lock's words are what its jobs give.
use Rattle.std.specs.Prelude.{None, Some}
use Prim.Native.Nat.{ℕ, ◌*◌, ◌-◌, ◌≤◌}
use native.Mathlib.Nat.{le_refl, le_of_eq}
use native.Mathlib.Omega.{arith}
use mathlib.Core.Path.{◌≡◌, refl, sym, ap, ◌∙◌, subst}
use mathlib.Core.Logic.{◌≢◌}
use mathlib.Core.Bool.{Bool, true}
use mathlib.Core.List.{List}
use lib.ListN.{get_or}
use Rattle.parts.specs.declared.Instr.{Instr}
use Rattle.parts.specs.declared.LockWord.{LockWord}
use Rattle.parts.specs.declared.Reading.{Reading}
use Rattle.alone.specs.Alone.{alone_of}
use Rattle.alone.specs.Jobs.{Try, gives_of}
use Rattle.alone.proofs.Jobs.{gives_length}
use Rattle.helping.specs.Machine.{Rules, Scene, Tale, fin, put, set_lock}
use Rattle.helping.specs.Ideal.{Job, act_in, Guarded}
use Rattle.helping.specs.Ok.{current, past, Status, view_of, SheetOk, HeldOk, LockOk, Ok}
use Rattle.helping.proofs.Put.{put_same, put_other, put_at_lem, all_but}
use Rattle.helping.proofs.Distinct.{won_kind}
use Rattle.helping.proofs.Inside.{still_there}
use Rattle.helping.proofs.Alone.{done_alone}
use Rattle.helping.proofs.Frame.{Passed}
use Rattle.helping.proofs.Spared.{Spared, sheet_spared, passed_spared, sheet_as, passed_held}
use Rattle.helping.proofs.Change.{lock_kept, sheet_at, lock_is, held_word, held_counts, one_holder, passes}

abbrev pub over_of : Status → Status
over_of σ = record { kind = past; job = σ.job; turn = σ.turn; front = σ.front }

abbrev pub free_at : ℕ → LockWord
free_at t = record { turn = t; holder = None }

module _ (K : Rules) (E : Scene) (T : Tale) (st : ℕ → Status) (o : Ok K E T st) (s l t : ℕ)
    (is : E.lock l ≡ record { turn = t; holder = Some s }) (said : Bool)
    (halts : act_in (st s).job (st s).front ≡ fin said) (done : E.done s ≡ true) where
  abbrev after : ℕ → Status
  after = put st s (over_of (st s))

  holds : HeldOk K T (st s) l t
  holds = lock_is K E T st o l _ is

  names : (E.lock l).holder ≡ Some s
  names = ap (λ (x : LockWord). x.holder) is

  held_sheet : SheetOk K (view_of E st) E.lock s current
  held_sheet = sheet_at K E T st o s current holds.kind

  -- its words are what all the jobs give, and their counts are low
  freed_words : (q : ℕ) → Guarded K l q → (E.word q).value ≡ get_or (gives_of (T.won l) K.values) q 0
  unfolding gives_of
  freed_words q g =
      let J : Job = (st s).job in
      let H = holds in
      let vs : List ℕ = gives_of H.earlier K.values in
      let D =
      done_alone K J held_sheet.0.fine vs (gives_length H.earlier K.values) H.from (st s).front said halts in
      ap (λ (u : Reading). u.value) (held_word K E T st o l s names q g) ∙ sym (D.1 q) ∙
      ap (λ (c : List Instr). get_or (alone_of c vs).words q 0) (sym H.code) ∙
      ap (λ (ts : List Try). get_or (gives_of ts K.values) q 0) (sym H.list)

  freed_counts : (q : ℕ) → Guarded K l q → (E.word q).count ≤ (K.most - 1) * t
  freed_counts q g =
      subst (λ (x : LockWord). (E.word q).count ≤ (K.most - 1) * x.turn) is (held_counts K E T st o l s names q g)

  -- the other sheets
  freed_other : (m : ℕ) → m ≢ s → Spared K (view_of E st) (view_of E after) E.lock (put E.lock l (free_at t)) m
  freed_other m n =
      record {
        st = put_other st s (over_of (st s)) m n;
        program = refl;
        done = refl;
        log = refl;
        counts = λ q. le_refl (E.word q).count;
        words = λ e q g. refl;
        holds =
            λ e.
            put_other E.lock l (free_at t) (st m).job.lock
            (λ (z : (st m).job.lock ≡ l). n (one_holder K E T st o m s e holds.kind (z ∙ sym holds.lock)));
      }

  pub frees : Ok K (set_lock E l (free_at t)) T after
  frees =
      passes K E T st o (view_of E after) (put E.lock l (free_at t))
      (all_but (Passed (view_of E st) (view_of E after)) s
      (passed_held (view_of E st) (view_of E after) s (over_of (st s)) (put_same st s (over_of (st s))) holds.kind
      (won_kind past (omega arith)) refl refl (still_there _ _ _) refl refl)
      (λ m n. passed_spared K (view_of E st) (view_of E after) _ _ m (freed_other m n) (o.sheet m)))
      (put_at_lem (λ m (σ : Status). σ.job ≡ (st m).job) st s (over_of (st s)) refl (λ m n. refl))
      (all_but (λ m. SheetOk K (view_of E after) (put E.lock l (free_at t)) m (after m).kind) s
      (sheet_as K (view_of E after) (put E.lock l (free_at t)) s (over_of (st s)) (put_same st s (over_of (st s))) (
        record { code = held_sheet.0.code; fine = held_sheet.0.fine },
        record {
          said = said;
          halts = halts;
          past = held_sheet.2.past;
          counts = λ q g. le_of_eq (ap (λ (u : Reading). u.count) (sym (held_sheet.2.words q g)));
        },
        done,
      ))
      (λ m n. sheet_spared K (view_of E st) (view_of E after) _ _ m (freed_other m n) (o.sheet m)))
      (put_at_lem (λ m (x : LockWord). LockOk K E.word T after m x.turn x.holder) E.lock l (free_at t)
      (record { early = holds.early; values = freed_words; counts = freed_counts })
      (λ m n.
      lock_kept K T T m (E.lock m).turn refl E.word E.word st s (over_of (st s)) (E.lock m).holder (λ e q g. refl)
      (λ e H. absurd (n (sym H.lock ∙ holds.lock))) (o.lock m)))
