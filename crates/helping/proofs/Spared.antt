-- A sheet that a change spares: what is said of it, and of its runs, stays. So a change is proved at the sheet that it touches.
use Rattle.std.specs.Prelude.{None, Option, Some}
use Prim.Native.Nat.{ℕ, ◌≤◌}
use native.Mathlib.Nat.{le_refl, le_trans}
use native.Mathlib.Omega.{arith}
use mathlib.Core.Path.{◌≡◌, refl, sym, ap, ◌∙◌, subst}
use mathlib.Core.Logic.{◌⊎◌, ◌≢◌}
use Rattle.parts.specs.declared.LockWord.{LockWord}
use Rattle.helping.specs.Machine.{Rules, target}
use Rattle.helping.specs.Ideal.{Job, ideal_of, act_in, Touches, met_in, logged_in, Guarded, FineJob, Inv, Old, Moved}
use Rattle.helping.specs.Ok.{Kind, unwon, current, past, Status, View, shared_at, OnSheet, SheetOk}
use Rattle.helping.proofs.Distinct.{won_kind}
use Rattle.helping.proofs.Run.{logs}
use Rattle.helping.proofs.Inside.{names_in}
use Rattle.helping.proofs.Stale.{entered}
use Rattle.helping.proofs.Frame.{Passed}
use Rattle.parts.specs.declared.Reading.{Reading}

-- a sheet of which only words change: those of other locks while it holds its own, and no count falls
pub record Spared (K : Rules) (v v' : View) (lock lock' : ℕ → LockWord) (s : ℕ) : Type 0 where
  pub st : v'.st s ≡ v.st s
  pub program : v'.program s ≡ v.program s
  pub done : v'.done s ≡ v.done s
  pub log : v'.log s ≡ v.log s
  pub counts : (q : ℕ) → (v.word q).count ≤ (v'.word q).count
  pub words :
      (v.st s).kind ≡ current → (q : ℕ) → Guarded K (v.st s).job.lock q → v'.word q ≡ v.word q
  pub holds : (v.st s).kind ≡ current → lock' (v.st s).job.lock ≡ lock (v.st s).job.lock

module _ (K : Rules) (v v' : View) (lock lock' : ℕ → LockWord) (s : ℕ) (c : Spared K v v' lock lock' s) where
  on_spared : OnSheet K v s → OnSheet K v' s
  on_spared q =
      record {
        code = ap (λ (σ : Status). σ.job.code) c.st ∙ q.code ∙ sym c.program;
        fine = subst (λ (σ : Status). FineJob K σ.job) (sym c.st) q.fine;
      }

  -- its entries are what they were
  entry_spared : (J : Job) (j : ℕ) → logged_in J (shared_at v' s) j ≡ logged_in J (shared_at v s) j
  entry_spared J j = ap (λ (f : ℕ → Option Reading). f (ideal_of J j).place) c.log

  spared_at : (κ : Kind) → (v.st s).kind ≡ κ → SheetOk K v lock s κ → SheetOk K v' lock' s κ
  spared_at unwon e q = (c.done ∙ q.0, λ p. ap (λ (f : ℕ → Option Reading). f p) c.log ∙ q.1 p)
  spared_at current e q =
      let J : Job = (v.st s).job in (
        on_spared q.0,
        subst (λ (σ : Status). lock' σ.job.lock ≡ record { turn = σ.turn; holder = Some s }) (sym c.st)
            (c.holds e ∙ q.1),
        subst (λ (σ : Status). Inv K σ.job σ.front (shared_at v' s)) (sym c.st)
            (record {
              words = λ w g. c.words e w g ∙ q.2.words w g;
              past = λ j h m. entry_spared J j ∙ q.2.past j h m;
              here =
                  λ m.
                  subst (λ (x : Option Reading). (x ≡ None) ⊎ (x ≡ Some (met_in J (v.st s).front)))
                  (sym (entry_spared J (v.st s).front))
                  (q.2.here m);
              later = λ p h. ap (λ (f : ℕ → Option Reading). f p) c.log ∙ q.2.later p h;
            }),
      )
  spared_at past e q =
      let J : Job = (v.st s).job in (
        on_spared q.0,
        subst (λ (σ : Status). Old K σ.job σ.front (shared_at v' s)) (sym c.st)
            (record {
              said = q.1.said;
              halts = q.1.halts;
              past = λ j h m. entry_spared J j ∙ q.1.past j h m;
              counts = λ w g. le_trans (q.1.counts w g) (c.counts w);
            }),
        c.done ∙ q.2,
      )

  pub sheet_spared : SheetOk K v lock s (v.st s).kind → SheetOk K v' lock' s (v'.st s).kind
  sheet_spared q =
      subst (λ (σ : Status). SheetOk K v' lock' s σ.kind) (sym c.st) (spared_at (v.st s).kind refl q)

  -- a word of which a run of the sheet has to write yet is what it was
  still_at :
      (κ : Kind) → (v.st s).kind ≡ κ → SheetOk K v lock s κ → (v.st s).kind ≢ unwon → (j : ℕ) → j ≤ (v.st s).front →
      Touches (act_in (v.st s).job j) → logged_in (v.st s).job (shared_at v' s) j ≡ None →
      v'.word (target (act_in (v.st s).job j)) ≡ v.word (target (act_in (v.st s).job j))
  still_at unwon e q n j h m z = absurd (n e)
  still_at current e q n j h m z =
      let J : Job = (v.st s).job in
      c.words e (target (act_in J j))
      (names_in K J q.0.fine j m)
  still_at past e q n j h m z =
      let J : Job = (v.st s).job in
      let y : None ≡ Some (met_in J j) =
      sym z ∙ entry_spared J j ∙ entered K J (v.st s).front (shared_at v s) q.1 j h (logs (act_in J j) m) in
      cc

  pub passed_spared : SheetOk K v lock s (v.st s).kind → Passed v v' s
  passed_spared q =
      let J : Job = (v.st s).job in
      record {
        un = λ e. ap (λ (σ : Status). σ.kind) c.st ∙ e;
        pa = λ e. ap (λ (σ : Status). σ.kind) c.st ∙ e;
        won =
            λ n.
            record {
              is = λ e. n (ap (λ (σ : Status). σ.kind) (sym c.st) ∙ e);
              job = ap (λ (σ : Status). σ.job) c.st;
              turn = ap (λ (σ : Status). σ.turn) c.st;
              moved =
                  subst (λ (σ : Status). Moved J (v.st s).front (shared_at v s) σ.front (shared_at v' s)) (sym c.st)
                  (record {
                    up = le_refl (v.st s).front;
                    kept = λ j m e. sym (entry_spared J j) ∙ e;
                    holds = λ j u m e. entry_spared J j ∙ e;
                    still = still_at (v.st s).kind refl q n;
                  });
            };
        program = c.program;
        done = λ e. c.done ∙ e;
      }

-- a sheet with this status, by what is said of the status
pub sheet_as :
    (K : Rules) (v : View) (lock : ℕ → LockWord) (s : ℕ) (σ : Status) → v.st s ≡ σ →
    SheetOk K (record { st = λ m. σ; word = v.word; program = v.program; done = v.done; log = v.log }) lock s
    σ.kind → SheetOk K v lock s (v.st s).kind
sheet_as K v lock s σ e =
    sheet_spared K (record { st = λ m. σ; word = v.word; program = v.program; done = v.done; log = v.log }) v lock lock
    s
    (record {
      st = e;
      program = refl;
      done = refl;
      log = refl;
      counts = λ q. le_refl (v.word q).count;
      words = λ z q g. refl;
      holds = λ z. refl;
    })

-- a holder that goes on, or lets go, with the same job
pub passed_held :
    (v v' : View) (s : ℕ) (σ : Status) → v'.st s ≡ σ → (v.st s).kind ≡ current → σ.kind ≢ unwon →
    σ.job ≡ (v.st s).job → σ.turn ≡ (v.st s).turn →
    Moved (v.st s).job (v.st s).front (shared_at v s) σ.front (shared_at v' s) → v'.program s ≡ v.program s →
    v'.done s ≡ v.done s → Passed v v' s
passed_held v v' s σ e cur n j t m program done =
    record {
      un = λ u. absurd (won_kind current (omega arith) (sym cur ∙ u));
      pa =
          λ u.
          let y : current ≡ past = sym cur ∙ u in
          cc;
      won =
          λ u.
          record {
            is = λ z. n (ap (λ (τ : Status). τ.kind) (sym e) ∙ z);
            job = ap (λ (τ : Status). τ.job) e ∙ j;
            turn = ap (λ (τ : Status). τ.turn) e ∙ t;
            moved =
                subst (λ (τ : Status). Moved (v.st s).job (v.st s).front (shared_at v s) τ.front (shared_at v' s)) (sym e)
                m;
          };
      program = program;
      done = λ z. done ∙ z;
    }
