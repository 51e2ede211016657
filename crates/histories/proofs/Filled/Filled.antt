-- Request 02 of every history, by what each call keeps.
use Rattle.std.specs.Prelude.{Ok}
use Prim.Native.Nat.{ℕ, suc, ◌+◌, ◌≤◌}
use mathlib.Core.Bool.{Bool, true, false}
use mathlib.Core.List.{List, [], ◌∷◌, ◌++◌}
use mathlib.Core.Logic.{◌≢◌}
use mathlib.Core.Path.{◌≡◌, refl, sym, ap, ◌∙◌, subst}
use native.Mathlib.Omega.{arith}
use borrow.Author.Tests.{eq-eqb, ne_eqb}
use lib.Dec.{eqb}
use lib.ListN.{length}
use Rattle.parts.specs.Pick.{pick}
use Rattle.parts.specs.declared.Answer.{Answer}
use Rattle.alone.specs.Jobs.{Try}
use Rattle.steps.specs.declared.Point.{Point}
use Rattle.steps.specs.declared.State.{State}
use Rattle.steps.specs.declared.State.TheVariants.{Idle, UnderWay, Finished}
use Rattle.engine.specs.Calls.{collect_of}
use Rattle.engine.specs.State.{worker_at}
use Rattle.engine.specs.declared.Engine.{Engine}
use Rattle.past.specs.Past.{Call, Drop, AllRecords, Past}
use Rattle.helping.specs.Machine.{Rules}
use Rattle.helping.specs.Ok.{NotIdle}
use Rattle.histories.specs.Filled.{made_by, made_for, sum_of, filled_entries, number_of, Shares}
use Rattle.histories.specs.Filling.{Filling, latest}
use Rattle.histories.specs.History.{Sofar, then_of, follow, sofar}
use Rattle.histories.proofs.Demand.Demand.{tells}
use Rattle.histories.proofs.Simulation.Follows.{follow-keeps}
use Rattle.histories.proofs.Simulation.Standing.{Standing, standing_then, standing_past}
use Rattle.histories.proofs.Filled.Entries.{sum_same, sum_but, sum_none}
use Rattle.histories.proofs.Filled.Keep.{kept_past}
use Rattle.histories.proofs.Filled.Kept.{Ledger, ledger_of, Made, AllMade, Kept}
use Rattle.histories.proofs.Filled.Over.{Gone, stills, dropped_still}
use Rattle.engine.specs.Calls.{answered}

-- The numbers of the tries that ran a job add up to its fillings: each filling is of one try, which ran that job and no other.
module _ (L : Ledger) (one : (n i j : ℕ) → L.ran n i ≡ true → L.ran n j ≡ true → i ≡ j) (j : ℕ) where
  abbrev share : List Filling → ℕ → ℕ
  share fs n = pick (L.ran n j) (made_by n fs) 0

  -- one filling more changes the share of its own try
  share_there : (f : Filling) (fs : List Filling) (n : ℕ) → (n ≡ f.by → ⊥) → share (f ∷ fs) n ≡ share fs n
  unfolding made_by
  share_there f fs n d =
      ap (λ (k : ℕ). pick (L.ran n j) k 0) (simp (ne_eqb f.by n (λ e. d (sym e))) (let q : 0 + made_by n fs ≡ made_by n fs = omega arith in q))

  made_here : (f : Filling) (fs : List Filling) → made_by f.by (f ∷ fs) ≡ suc (made_by f.by fs)
  unfolding made_by
  made_here f fs = simp (eq-eqb f.by f.by refl) (omega arith)

  share_more : (f : Filling) (fs : List Filling) (rest : sum_of L.begins (share fs) ≡ made_for j fs) → Made L f →
      sum_of L.begins (share (f ∷ fs)) ≡ made_for j (f ∷ fs)
  unfolding made_for
  share_more f fs rest m = go (L.ran f.by j) refl
    where
      but : sum_of L.begins (share (f ∷ fs)) + share fs f.by ≡ sum_of L.begins (share fs) + share (f ∷ fs) f.by
      but = sum_but L.begins (share fs) (share (f ∷ fs)) f.by m.by (λ n b d. share_there f fs n d)

      at : (b : Bool) (gs : List Filling) → L.ran f.by j ≡ b → share gs f.by ≡ pick b (made_by f.by gs) 0
      at b gs e = ap (λ (c : Bool). pick c (made_by f.by gs) 0) e

      go : (b : Bool) → L.ran f.by j ≡ b → sum_of L.begins (share (f ∷ fs)) ≡ pick (eqb f.job j) 1 0 + made_for j fs
      go true e =
          let all = but in
          let new = at true (f ∷ fs) e ∙ made_here f fs in
          let old = at true fs e in
          simp (eq-eqb f.job j (one f.by f.job j m.ran e)) (omega arith)
      go false e =
          let all = but in
          let new = at false (f ∷ fs) e in
          let old = at false fs e in
          simp (ne_eqb f.job j (λ q. other (sym m.ran ∙ ap (L.ran f.by) q ∙ e))) (omega arith)
        where
          other : true ≡ false → ⊥
          other h = let z : ◌≡◌ {A = ℕ} 0 1 = cc in absurd (omega arith)

  no_share : (b : Bool) → ◌≡◌ {A = ℕ} (pick b 0 0) 0
  no_share true = refl
  no_share false = refl

  all_shares : (fs : List Filling) → AllMade L fs → sum_of L.begins (share fs) ≡ made_for j fs
  unfolding made_by made_for
  all_shares [] a = sum_same L.begins (λ n. 0) _ (λ n b. no_share (L.ran n j)) ∙ sum_none L.begins
  all_shares (f ∷ fs) (m, a) = share_more f fs (all_shares fs a) m

busy : (q : State) → q ≢ Idle → NotIdle q
busy Idle h = h refl
busy (UnderWay p) h = tt
busy (Finished x) h = tt

one_made : (L : Ledger) (later : List Filling) (f : Filling) (earlier : List Filling) → AllMade L (later ++ (f ∷ earlier)) → Made L f
one_made L [] f earlier a = a.0
one_made L (g ∷ later) f earlier a = one_made L later f earlier a.1

module _ (K : Rules) (x : Sofar) (s : Standing K x) (o : Kept x) where
  abbrev e : Engine
  e = x.state

  sheet_of :
      (s : ℕ) (t : Try) (earlier : List Try) → x.owners s ≡ t ∷ earlier → made_for t.number x.fillings ≡ filled_entries e s
  sheet_of s t earlier q =
      ap (λ (ts : List Try). made_for (latest ts) x.fillings) (sym q) ∙
      o.sheet s (subst (λ (ts : List Try). 1 ≤ length ts) (sym q) (omega arith))

  -- no worker but w has the try of w; and w is not under way
  gone_by : (w : ℕ) → NotIdle (worker_at e w).state → ((p : Point) → (worker_at e w).state ≢ UnderWay p) → Gone x (x.tries w).number
  gone_by w y h =
      record {
        born = s.next.ok.begun w y;
        none =
            λ v p q m.
            h p (ap (λ (n : ℕ). (worker_at e n).state) (sym (s.next.ok.ids v w (subst NotIdle (sym q) tt) y m)) ∙ q);
      }

  told_of :
      (w : ℕ) (a : Answer) (n m : ℕ) → (collect_of e w).told ≡ Ok (answered a n m) → (more : List Call) → AllRecords more →
      m ≡ number_of (follow x more) (x.tries w).number
  told_of w a n m h more b =
      let t = tells e w a n m h in
      let y = subst NotIdle (sym t.state) tt in
      t.filled ∙ (o.hands w y).count ∙
      sym
      (follow-keeps K _ (stills K (x.tries w).number _) x more s b
      (record { kept = o; gone = gone_by w y (λ p q. ended (sym t.state ∙ q)); number = refl })).number
    where
      ended : {a : Answer} {p : Point} → Finished a ≡ UnderWay p → ⊥
      ended z = let z : ◌≡◌ {A = ℕ} 0 1 = cc in omega arith

  lost_of :
      (w : ℕ) → NotIdle (worker_at e w).state → (more : List Call) → AllRecords more →
      (worker_at e w).filled ≡ number_of (follow (then_of x (Drop w)) more) (x.tries w).number
  unfolding AllRecords
  lost_of w y more b =
      (o.hands w y).count ∙
      sym
      (follow-keeps K _ (stills K (x.tries w).number _) (then_of x (Drop w)) more (standing_then K x (Drop w) s tt) b
      (dropped_still K x s o w y)).number

pub shares : (p : Past) → Shares (sofar p)
shares p =
    let x = sofar p in
    let s = standing_past p in
    let o = kept_past p in
    record {
      told = told_of _ x s o;
      kept = λ w h. (o.hands w (busy (worker_at x.state w).state h)).count;
      lost = λ w h. lost_of _ x s o w (busy (worker_at x.state w).state h);
      made =
          λ later f earlier q.
          (one_made (ledger_of x) later f earlier (subst (λ (fs : List Filling). AllMade (ledger_of x) fs) q o.made)).ran;
      sheet = sheet_of _ x s o;
      bare = λ k q. o.bare k (ap (λ (ts : List Try). length ts) q);
      one = o.one;
      adds = λ k t earlier q. all_shares (ledger_of x) o.one t.number x.fillings o.made ∙ sheet_of _ x s o k t earlier q;
    }
