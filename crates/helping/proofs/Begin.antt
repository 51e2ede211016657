-- A fresh setup has the invariant, and begin, collect and drop keep it.
use Rattle.std.specs.Prelude.{Option, Some}
use Prim.Native.Nat.{ℕ, suc, ◌*◌, ◌-◌, ◌≤◌, ◌<◌}
use native.Mathlib.Omega.{arith}
use native.Mathlib.Nat.{le_refl}
use borrow.Author.Tests.{eqb-true}
use mathlib.Core.Path.{◌≡◌, refl, sym, ap, ◌∙◌, subst}
use mathlib.Core.Logic.{◌≢◌}
use mathlib.Core.Bool.{Bool, true, false}
use mathlib.Core.List.{List, []}
use lib.Dec.{eqb}
use Rattle.parts.specs.Pick.{pick}
use Rattle.parts.specs.declared.Instr.{Instr}
use Rattle.steps.specs.Worker.{worker0, looking_of}
use Rattle.steps.specs.declared.Point.{Point}
use Rattle.steps.specs.declared.State.TheVariants.{UnderWay}
use Rattle.steps.specs.declared.Worker.{Worker}
use Rattle.alone.specs.Jobs.{Try, gives_of, times}
use Rattle.helping.specs.Machine.{Rules, Scene, Tale, put, Unused, machine_begun, begin_tale, idled_of}
use Rattle.helping.specs.Ideal.{Fine}
use Rattle.helping.specs.Ok.{unwon, Status, View, view_of, SheetOk, StateOk, LockOk, Named, NotIdle, Ok, Next, Fresh, untold}
use Rattle.helping.proofs.Put.{put_same, put_other, put_at_lem, all_but}
use Rattle.helping.proofs.Frame.{Passed, frame, named_on, retold, only_worker}
use Rattle.helping.proofs.Spared.{Spared, sheet_spared, passed_spared, sheet_as}
use Rattle.helping.proofs.Change.{lock_kept, same_of}
use Rattle.parts.specs.declared.Reading.{Reading}

pub fresh_ok : (K : Rules) (E : Scene) → Fresh K E → Next K E untold
unfolding gives_of times
fresh_ok K E f =
    record {
      st = none;
      ok =
          record {
            sheet = λ s. (f.unmarked s, f.empty s);
            lock =
                λ l.
                subst (LockOk K E.word untold none l (E.lock l).turn) (sym (f.free l).0)
                (record {
                  early = (f.free l).1;
                  values = λ q g. f.value q;
                  counts = λ q g. subst (λ (c : ℕ). c ≤ (K.most - 1) * (E.lock l).turn) (sym (f.count q)) (omega arith);
                });
            worker = λ i. subst (λ (k : Worker). StateOk K (view_of E none) k k.state) (sym (f.idle i)) (omega arith);
            named =
                λ i.
                subst (λ (k : Worker). Named K untold (view_of E none) (untold.tries i) k k.state) (sym (f.idle i)) tt;
            apart = λ i k p q e h same. absurd (lazy i (subst NotIdle (sym e) tt));
            ids = λ i k b c same. absurd (lazy i b);
            begun = λ i b. absurd (lazy i b);
            unborn = λ n l h. refl;
            once = λ n l. omega arith;
            only = λ n l m h g. absurd (omega arith);
          };
    }
  where
    none : ℕ → Status
    none s = record { kind = unwon; job = record { code = []; lock = 0; words = E.word }; turn = 0; front = 0 }

    lazy : (i : ℕ) → NotIdle (E.worker i).state → ⊥
    lazy i b = subst (λ (k : Worker). NotIdle k.state) (f.idle i) b

pub idle_ok : (K : Rules) (E : Scene) (T : Tale) (st : ℕ → Status) → Ok K E T st → (i : ℕ) → Next K (idled_of E i) T
idle_ok K E T st o i =
    record {
      st = st;
      ok =
          only_worker K E T st i worker0 o (omega arith) tt
          (λ p e. let z : ◌≡◌ {A = ℕ} 0 1 = cc in absurd (omega arith)) (λ b. absurd b);
    }

pub begin_ok :
    (K : Rules) (E : Scene) (T : Tale) (st : ℕ → Status) → Ok K E T st → (i l s : ℕ) (code : List Instr) →
    Unused E s → Fine K l code → Next K (machine_begun E i l code s) (begin_tale T i l code)
begin_ok K E T st o i l s code u f =
    record {
      st = put st s renewed;
      ok =
          record {
            sheet =
                all_but (λ z. SheetOk K v' E.lock z (put st s renewed z).kind) s
                (sheet_as K v' E.lock s renewed (put_same st s renewed)
                (put_same E.done s _, λ p. ap (λ (g : ℕ → Option Reading). g p) (put_same E.log s _)))
                (λ z n. sheet_spared K v v' E.lock E.lock z (spared z n) (o.sheet z));
            lock =
                λ m.
                lock_kept K T S m (E.lock m).turn refl E.word E.word st s renewed (E.lock m).holder (λ e q g. refl)
                (λ e H. absurd (u.named m e)) (o.lock m);
            worker =
                put_at_lem (λ m k. StateOk K v' k k.state) E.worker i (looking_of l s)
                (omega arith, (fresh, subst (Fine K l) (sym (put_same E.program s code)) f))
                (λ m n.
                frame K v v' (E.worker m) (E.worker m).state
                (λ p e. passed _ (u.owned m p e)) (λ p z e h won. passed z (λ y. u.helped m p e (h ∙ ap Some y)))
                (o.worker m));
            named = λ m. named m (eqb m i);
            apart = λ a b p q. apart a b p q (eqb a i) (eqb b i) refl refl;
            ids = λ a b. ids a b (eqb a i) (eqb b i) refl refl;
            begun = λ m. begun m (eqb m i);
            unborn = λ n m h. o.unborn n m (omega arith);
            once = o.once;
            only = o.only;
          };
    }
  where
    renewed : Status
    renewed = record { kind = unwon; job = (st s).job; turn = (st s).turn; front = (st s).front }

    v : View
    v = view_of E st

    v' : View
    v' = view_of (machine_begun E i l code s) (put st s renewed)

    S : Tale
    S = begin_tale T i l code

    new : Try
    new = record { number = T.begins; lock = l; program = code }

    fresh : (put st s renewed s).kind ≡ unwon
    fresh = ap (λ (σ : Status). σ.kind) (put_same st s renewed)

    spared : (z : ℕ) → z ≢ s → Spared K v v' E.lock E.lock z
    spared z n =
        record {
          st = put_other st s renewed z n;
          program = put_other E.program s _ z n;
          done = put_other E.done s _ z n;
          log = put_other E.log s _ z n;
          counts = λ q. le_refl (E.word q).count;
          words = λ e q g. refl;
          holds = λ e. refl;
        }

    passed : (z : ℕ) → z ≢ s → Passed v v' z
    passed z n = passed_spared K v v' E.lock E.lock z (spared z n) (o.sheet z)

    named :
        (m : ℕ) (b : Bool) →
        Named K S v' (pick b new (T.tries m)) (pick b (looking_of l s) (E.worker m))
        (pick b (looking_of l s) (E.worker m)).state
    named m true =
        record {
          lock = refl;
          program = put_same E.program s code;
          absent = λ e m. o.unborn T.begins m (le_refl _);
          listed = λ w. absurd (w fresh);
        }
    named m false =
        retold K T S v' (T.tries m) (E.worker m) (E.worker m).state (λ b a. a) (λ P L. L)
        (named_on K T v v' (T.tries m) (E.worker m) (E.worker m).state
        (λ p e.
        let n = u.owned m p e in
        same_of v v' _ (passed _ n) (ap (λ (σ : Status). σ.job) (put_other st s renewed _ n)))
        (o.named m))

    apart :
        (a b : ℕ) (p q : Point) (x y : Bool) → eqb a i ≡ x → eqb b i ≡ y →
        (pick x (looking_of l s) (E.worker a)).state ≡ UnderWay p →
        (pick y (looking_of l s) (E.worker b)).state ≡ UnderWay q →
        (pick x (looking_of l s) (E.worker a)).own ≡ (pick y (looking_of l s) (E.worker b)).own → a ≡ b
    apart a b p q true true d e g h same = eqb-true a i d ∙ sym (eqb-true b i e)
    apart a b p q true false d e g h same = absurd (u.owned b q h (sym same))
    apart a b p q false true d e g h same = absurd (u.owned a p g same)
    apart a b p q false false d e g h same = o.apart a b p q g h same

    ids :
        (a b : ℕ) (x y : Bool) → eqb a i ≡ x → eqb b i ≡ y → NotIdle (pick x (looking_of l s) (E.worker a)).state →
        NotIdle (pick y (looking_of l s) (E.worker b)).state →
        (pick x new (T.tries a)).number ≡ (pick y new (T.tries b)).number → a ≡ b
    ids a b true true d e g h same = eqb-true a i d ∙ sym (eqb-true b i e)
    ids a b true false d e g h same = absurd (omega (arith, o.begun b h))
    ids a b false true d e g h same = absurd (omega (arith, o.begun a g))
    ids a b false false d e g h same = o.ids a b g h same

    begun :
        (m : ℕ) (b : Bool) → NotIdle (pick b (looking_of l s) (E.worker m)).state →
        (pick b new (T.tries m)).number < suc T.begins
    begun m true h = le_refl _
    begun m false h = omega (arith, o.begun m h)
