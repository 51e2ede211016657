-- A sheet that has won is marked: the invariant stays, since only a sheet that has not won has to be unmarked.
use Prim.Native.Nat.{ℕ}
use mathlib.Core.Path.{◌≡◌, refl, sym, ap, ◌∙◌}
use mathlib.Core.Logic.{◌≢◌}
use mathlib.Core.Bool.{Bool, true}
use Rattle.helping.specs.Machine.{Rules, Scene, Tale, put, set_done}
use Rattle.helping.specs.Ok.{Kind, unwon, current, past, Status, view_of, SheetOk, Ok}
use Rattle.helping.proofs.Put.{put_other, put_at_lem}
use Rattle.helping.proofs.Inside.{still_there}
use Rattle.helping.proofs.Change.{passes}

module _ (K : Rules) (E : Scene) (T : Tale) (st : ℕ → Status) (o : Ok K E T st) (s : ℕ) (won : (st s).kind ≢ unwon) where
  marked_up : (m : ℕ) → E.done m ≡ true → put E.done s true m ≡ true
  marked_up = put_at_lem (λ m (x : Bool). E.done m ≡ true → x ≡ true) E.done s true (λ e. refl) (λ m n e. e)

  marked_sheet :
      (m : ℕ) (κ : Kind) → (st m).kind ≡ κ → SheetOk K (view_of E st) E.lock m κ →
      SheetOk K (view_of (set_done E s) st) E.lock m κ
  marked_sheet m unwon e q =
      (put_other E.done s true m (λ (z : m ≡ s). won (ap (λ (x : ℕ). (st x).kind) (sym z) ∙ e)) ∙ q.0, q.1)
  marked_sheet m current e q = (record { code = q.0.code; fine = q.0.fine }, q.1, q.2)
  marked_sheet m past e q = (record { code = q.0.code; fine = q.0.fine }, q.1, marked_up m q.2)

  pub marks : Ok K (set_done E s) T st
  marks =
      passes K E T st o (view_of (set_done E s) st) E.lock
      (λ m.
      record {
        un = λ e. e;
        pa = λ e. e;
        won = λ u. record { is = u; job = refl; turn = refl; moved = still_there _ _ _ };
        program = refl;
        done = marked_up m;
      })
      (λ m. refl) (λ m. marked_sheet m (st m).kind refl (o.sheet m)) o.lock
