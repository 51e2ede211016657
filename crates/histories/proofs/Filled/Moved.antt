-- An accepted step keeps it.
use Rattle.std.specs.Prelude.{None, Option, Some}
use Prim.Native.Nat.{ℕ, suc, ◌<◌, ◌≤◌}
use mathlib.Core.Bool.{Bool, true, false}
use mathlib.Core.List.{List, ◌∷◌, ◌++◌}
use mathlib.Core.Path.{◌≡◌, refl, sym, ap, ◌∙◌, subst}
use native.Mathlib.Omega.{arith}
use borrow.Author.Tests.{eqb-true, eqb-false, eq-eqb, ne_eqb}
use lib.Dec.{eqb}
use lib.ListN.{length}
use Rattle.parts.specs.Numbers.{workers, instructions, try_steps}
use Rattle.parts.specs.Parts.{next32}
use Rattle.parts.specs.Pick.{pick, ◌or◌, on_option}
use Rattle.parts.specs.declared.LockWord.{LockWord}
use Rattle.steps.specs.Try.{effect_of}
use Rattle.steps.specs.declared.Point.{Point}
use Rattle.steps.specs.declared.State.{State}
use Rattle.steps.specs.declared.State.TheVariants.{Idle, UnderWay, Finished}
use Rattle.steps.specs.declared.View.{View}
use Rattle.steps.specs.declared.Worker.{Worker}
use Rattle.engine.specs.State.{worker_at, lock_at}
use Rattle.engine.specs.Step.{places_of, view_at, stepped_of}
use Rattle.engine.specs.declared.Engine.{Engine}
use Rattle.helping.specs.Machine.{Rules}
use Rattle.helping.specs.Ok.{NotIdle}
use Rattle.helping.proofs.Put.{put_case}
use Rattle.helping.proofs.Ranges.{ranged}
use Rattle.histories.specs.Filled.{made_by, made_for, filled_entries}
use Rattle.histories.specs.Filling.{Filling, latest, runs_sheet}
use Rattle.histories.specs.History.{Sofar, runs_job, stepped}
use Rattle.histories.proofs.Simulation.Standing.{Standing}
use Rattle.histories.proofs.Simulation.Pieces.{worker_here, worker_there, lock_stepped}
use Rattle.histories.proofs.Filled.Fills.{Fills, nothing, entry, stepped_fills}
use Rattle.histories.proofs.Filled.Goes.{Goes, Runs, helped_in, effect_goes}
use Rattle.histories.proofs.Filled.Kept.{Ledger, ledger_of, Owned, Under, RunsOn, Hand, AllMade, Keeps, Kept, runs_helped, runs_one, hand_grows, made_grows}

or_true : (a b : Bool) → b ≡ true → (a or b) ≡ true
or_true true b h = refl
or_true false b h = h

module _ (K : Rules) (x : Sofar) (st : Standing K x) (o : Kept x) (w : ℕ) (p : Point) (h : w < workers)
    (q : (worker_at x.state w).state ≡ UnderWay p) where
  abbrev e : Engine
  e = x.state

  abbrev now : Engine
  now = stepped_of e w p

  abbrev L : Ledger
  L = ledger_of x

  abbrev M : Ledger
  M = ledger_of (stepped x w now)

  abbrev t₀ : ℕ
  t₀ = (x.tries w).number

  busy : NotIdle (worker_at e w).state
  busy = subst NotIdle (sym q) tt

  under : Under (worker_at e w).state
  under = subst Under (sym q) tt

  hand : Hand L (worker_at e w) t₀ (x.steps w)
  hand = o.hands w busy

  born₀ : t₀ < x.begins
  born₀ = st.next.ok.begun w busy

  -- what the step does to its pieces
  abbrev v : View
  v = view_at e (places_of e w p)

  goes : Goes v p (Owned L) (effect_of p v)
  unfolding view_at places_of
  goes =
      effect_goes v (Owned L) (λ s z. o.locks _ s z) hand.own p
      (λ s z. hand.helped s (ap helped_in q ∙ z))

  pub fills : Fills x w now
  fills = stepped_fills x st.good w h p q goes.touch

  lock_now_lem : (l s : ℕ) → (lock_at now l).holder ≡ Some s → Owned L s
  lock_now_lem l s z =
      put_case (lock_at e) (places_of e w p).lock (effect_of p v).lock (λ (y : LockWord). y.holder ≡ Some s → Owned L s) l
      (λ n. goes.lock s) (λ n. o.locks l s) (sym (ap (λ (y : LockWord). y.holder) (lock_stepped e st.good w p l)) ∙ z)

  -- the try's runs, now and before
  ran_here : (j : ℕ) → M.ran t₀ j ≡ (x.ran t₀ j or runs_job x w j)
  ran_here j = ap (λ (b : Bool). pick b (x.ran t₀ j or runs_job x w j) (x.ran t₀ j)) (eq-eqb t₀ t₀ refl)

  ran_there : (n j : ℕ) → (n ≡ t₀ → ⊥) → M.ran n j ≡ x.ran n j
  ran_there n j d = ap (λ (b : Bool). pick b (x.ran n j or runs_job x w j) (x.ran n j)) (ne_eqb n t₀ d)

  runs_now : (j : ℕ) → M.ran t₀ j ≡ true → RunsOn L (worker_at e w).state j
  runs_now j z = go (x.ran t₀ j) refl (sym (ran_here j) ∙ z)
    where
      job : (y : Option ℕ) → runs_sheet (worker_at e w).state ≡ y → on_option y false (λ s. eqb (latest (x.owners s)) j) ≡ true → RunsOn L (worker_at e w).state j
      job None a c = let z : ◌≡◌ {A = ℕ} 0 1 = cc in absurd (omega arith)
      job (Some s) a c = record { sheet = s; at = a; job = eqb-true (latest (x.owners s)) j c }

      go : (b : Bool) → x.ran t₀ j ≡ b → (b or runs_job x w j) ≡ true → RunsOn L (worker_at e w).state j
      go true a c = hand.run under j a
      go false a c = job (runs_sheet (worker_at e w).state) refl c

  ran_grows : (n j : ℕ) → x.ran n j ≡ true → M.ran n j ≡ true
  ran_grows n j a = go (eqb n t₀)
    where
      go : (b : Bool) → pick b (x.ran n j or runs_job x w j) (x.ran n j) ≡ true
      go true = ap (λ (c : Bool). c or runs_job x w j) a
      go false = a

  born_now : (n j : ℕ) → M.ran n j ≡ true → n < x.begins
  born_now n j z = go (eqb n t₀) refl
    where
      go : (b : Bool) → eqb n t₀ ≡ b → n < x.begins
      go true a = let d = eqb-true n t₀ a in let c = born₀ in omega arith
      go false a = o.born n j (sym (ran_there n j (eqb-false n t₀ a)) ∙ z)

  one_now : (n i j : ℕ) → M.ran n i ≡ true → M.ran n j ≡ true → i ≡ j
  one_now n i j a c = go (eqb n t₀) refl
    where
      go : (b : Bool) → eqb n t₀ ≡ b → i ≡ j
      go true d =
          let y = eqb-true n t₀ d in
          runs_one L (worker_at e w).state i j (runs_now i (ap (λ (m : ℕ). M.ran m i) (sym y) ∙ a))
          (runs_now j (ap (λ (m : ℕ). M.ran m j) (sym y) ∙ c))
      go false d =
          let y = eqb-false n t₀ d in
          o.one n i j (sym (ran_there n i y) ∙ a) (sym (ran_there n j y) ∙ c)

  -- the history after the step, with these fillings
  abbrev N : List Filling → Ledger
  N fs = record { begins = x.begins; owners = x.owners; fillings = fs; ran = M.ran }

  abbrev steps_now : ℕ → ℕ
  steps_now n = pick (eqb n w) (suc (x.steps w)) (x.steps n)

  own_here : Owned L (effect_of p v).worker.own
  unfolding view_at places_of
  own_here = subst (Owned L) (sym goes.own) hand.own

  still : (u : State) (s : ℕ) → Under u → Runs s u → runs_sheet u ≡ Some s
  still Idle s a c = absurd a
  still (UnderWay y) s a c = c
  still (Finished y) s a c = absurd a

  module _ (fs : List Filling) (count : (worker_at now w).filled ≡ made_by t₀ fs) (low : (worker_at now w).filled ≤ suc (x.steps w))
      (others : (n : ℕ) → (n ≡ t₀ → ⊥) → made_by n fs ≡ made_by n x.fillings) (made : AllMade (N fs) fs)
      (sheet : (s : ℕ) → Owned L s → made_for (latest (x.owners s)) fs ≡ filled_entries now s)
      (bare : (s : ℕ) → length (x.owners s) ≡ 0 → filled_entries now s ≡ 0) where
    hand_here : Hand (N fs) (effect_of p v).worker t₀ (suc (x.steps w))
    hand_here =
        let y = ap (λ (k : Worker). k.filled) (worker_here e st.good w h p) in
        record {
          count = sym y ∙ count;
          low = subst (λ (n : ℕ). n ≤ suc (x.steps w)) y low;
          own = own_here;
          helped = goes.helped;
          run =
              λ u j z.
              let r = runs_now j z in
              record {
                sheet = r.sheet;
                at = still (effect_of p v).worker.state r.sheet u (goes.run r.sheet (sym (ap runs_sheet q) ∙ r.at));
                job = r.job;
              };
        }

    hand_there : (n : ℕ) → (n ≡ w → ⊥) → NotIdle (worker_at e n).state → Hand (N fs) (worker_at e n) (x.tries n).number (x.steps n)
    hand_there n d y =
        let apart : (x.tries n).number ≡ t₀ → ⊥ = λ z. d (st.next.ok.ids n w y busy z) in
        hand_grows L (N fs) (worker_at e n) (x.tries n).number (x.steps n) (o.hands n y) (others (x.tries n).number apart)
        (λ j z. sym (ran_there (x.tries n).number j apart) ∙ z) (λ s z. z) (λ s u z. refl)

    hands_now : (n : ℕ) → NotIdle (worker_at now n).state → Hand (N fs) (worker_at now n) (x.tries n).number (steps_now n)
    hands_now n y = go (eqb n w) refl
      where
        here : Hand (N fs) (worker_at now w) t₀ (suc (x.steps w))
        here = subst (λ (k : Worker). Hand (N fs) k t₀ (suc (x.steps w))) (sym (worker_here e st.good w h p)) hand_here

        go : (b : Bool) → eqb n w ≡ b → Hand (N fs) (worker_at now n) (x.tries n).number (pick b (suc (x.steps w)) (x.steps n))
        go true z = subst (λ (m : ℕ). Hand (N fs) (worker_at now m) (x.tries m).number (suc (x.steps w))) (sym (eqb-true n w z)) here
        go false z =
            let d = eqb-false n w z in
            let k = worker_there e st.good w h p n d in
            subst (λ (k : Worker). Hand (N fs) k (x.tries n).number (x.steps n)) (sym k)
            (hand_there n d (subst (λ (k : Worker). NotIdle k.state) k y))

    keeps_with : Keeps (N fs) now (λ n. (x.tries n).number) steps_now
    keeps_with =
        record {
          hands = hands_now;
          locks = lock_now_lem;
          made = made;
          born = born_now;
          one = one_now;
          owner = o.owner;
          apart = o.apart;
          sheet = sheet;
          bare = bare;
        }

  -- the worker's count is far from its end: it is at most the steps of the try
  few : (worker_at e w).filled ≤ try_steps instructions
  few =
      let a = hand.low in
      let b = st.counted w busy in
      let c = (ranged K _ _ st.next.st st.next.ok).steps w in
      let d = st.under.most in
      subst (λ (n : ℕ). (worker_at e w).filled ≤ try_steps n) d (omega arith)

  -- where the step fills nothing
  same_by : (worker_at now w).filled ≡ (worker_at e w).filled → ((t : ℕ) → filled_entries now t ≡ filled_entries e t) →
      Keeps (N x.fillings) now (λ n. (x.tries n).number) steps_now
  same_by b c =
      let low = hand.low in
      keeps_with x.fillings (b ∙ hand.count) (omega arith) (λ n d. refl)
      (made_grows L (N x.fillings) x.fillings (omega arith) ran_grows o.made) (λ s y. o.sheet s y ∙ sym (c s))
      (λ s y. c s ∙ o.bare s y)

  -- where it fills an entry of sheet s
  module _ (s : ℕ) (f : Filling) (at : runs_sheet (worker_at e w).state ≡ Some s) (job : f.job ≡ latest (x.owners s)) (by : f.by ≡ t₀)
      (count : (worker_at now w).filled ≡ next32 (worker_at e w).filled) (here : filled_entries now s ≡ suc (filled_entries e s))
      (there : (t : ℕ) → (t ≡ s → ⊥) → filled_entries now t ≡ filled_entries e t) where
    abbrev fs : List Filling
    fs = f ∷ x.fillings

    owned : Owned L s
    owned = hand.helped s (runs_helped (worker_at e w).state s at)

    one_more : (worker_at now w).filled ≡ suc (worker_at e w).filled
    one_more = let a = few in count ∙ (let n : next32 (worker_at e w).filled ≡ suc (worker_at e w).filled = omega arith in n)

    count_more : (worker_at now w).filled ≡ made_by t₀ fs
    unfolding made_by
    count_more = let a = one_more in let c = hand.count in simp (eq-eqb f.by t₀ by) (omega arith)

    others_more : (n : ℕ) → (n ≡ t₀ → ⊥) → made_by n fs ≡ made_by n x.fillings
    unfolding made_by
    others_more n d = simp (ne_eqb f.by n (λ z. d (sym z ∙ by))) (omega arith)

    ran_f : M.ran f.by f.job ≡ true
    ran_f =
        ap (λ (n : ℕ). M.ran n f.job) by ∙ ap (M.ran t₀) job ∙ ran_here (latest (x.owners s)) ∙
        or_true (x.ran t₀ (latest (x.owners s))) (runs_job x w (latest (x.owners s)))
        (ap (λ (y : Option ℕ). on_option y false (λ t. eqb (latest (x.owners t)) (latest (x.owners s)))) at ∙
        eq-eqb (latest (x.owners s)) (latest (x.owners s)) refl)

    made_more : AllMade (N fs) fs
    made_more =
        let a = o.owner s owned in
        let c = born₀ in
        (record { by = omega arith; job = omega arith; ran = ran_f }, made_grows L (N fs) x.fillings (omega arith) ran_grows o.made)

    sheet_more : (t : ℕ) → Owned L t → made_for (latest (x.owners t)) fs ≡ filled_entries now t
    unfolding made_for
    sheet_more t y = go (eqb t s) refl
      where
        go : (b : Bool) → eqb t s ≡ b → made_for (latest (x.owners t)) fs ≡ filled_entries now t
        go true z =
            let n = eqb-true t s z in
            let a = ap (filled_entries now) n in
            let c = ap (filled_entries e) n in
            let d = o.sheet t y in
            let more = here in
            simp (eq-eqb f.job (latest (x.owners t)) (job ∙ ap (λ (m : ℕ). latest (x.owners m)) (sym n))) (omega arith)
        go false z =
            let n = eqb-false t s z in
            let a = there t n in
            let d = o.sheet t y in
            simp (ne_eqb f.job (latest (x.owners t)) (λ m. n (o.apart t s y owned (sym m ∙ job)))) (omega arith)

    bare_more : (t : ℕ) → length (x.owners t) ≡ 0 → filled_entries now t ≡ 0
    bare_more t y =
        let other : t ≡ s → ⊥ = λ z. let a = owned in let c = ap (λ (m : ℕ). length (x.owners m)) z in omega arith in
        there t other ∙ o.bare t y

    entry_by : Keeps (N fs) now (λ n. (x.tries n).number) steps_now
    entry_by = let a = one_more in let low = hand.low in keeps_with fs count_more (omega arith) others_more made_more sheet_more bare_more

  pub moved_keeps : Kept (stepped x w now)
  moved_keeps = by_fills fills
    where
      by_fills : Fills x w now → Kept (stepped x w now)
      by_fills (nothing a b c) =
          subst (λ (new : List Filling). Keeps (N (new ++ x.fillings)) now (λ n. (x.tries n).number) steps_now) (sym a) (same_by b c)
      by_fills (entry s f at job by a count here there) =
          subst (λ (new : List Filling). Keeps (N (new ++ x.fillings)) now (λ n. (x.tries n).number) steps_now) (sym a)
          (entry_by s f at job by count here there)
