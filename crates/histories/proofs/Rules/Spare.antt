-- The places of the lock array past L: they are free from setup on, and no call touches them. So a sheet is in use exactly when
-- one of the L locks names it, or a worker under way has it.
use Rattle.std.specs.Prelude.{Ok}
use Prim.Native.Nat.{ℕ, zero, suc, ◌-◌, ◌<◌}
use native.Mathlib.Omega.{arith}
use mathlib.Core.Path.{◌≡◌, refl, ◌∙◌, sym, ap}
use mathlib.Core.Bool.{Bool, false}
use mathlib.Core.List.{List, [], ◌∷◌, map}
use lib.ListN.{length, drop, replicate, length-map, length-replicate, take-append-drop}
use lib.Seq.{drop_at, drop-set-lt}
use Rattle.arrays.specs.Fresh.{free_at}
use Rattle.parts.specs.Numbers.{most_locks}
use Rattle.parts.specs.Parts.{lock0}
use Rattle.parts.specs.Pick.{◌or◌}
use Rattle.parts.specs.declared.LockWord.{LockWord}
use Rattle.parts.specs.Told.{Told}
use Rattle.records.specs.Setup.{locks_field, turns_field, setup_told}
use Rattle.records.proofs.One.{setup_sized, turns_count}
use Rattle.sheets.specs.Sheets.{any_of, lock_names, worker_keeps, in_use_of}
use Rattle.sheets.proofs.Laws.{or_none}
use Rattle.sheets.proofs.Lowest.{any_append}
use Rattle.steps.specs.declared.Point.{Point}
use Rattle.steps.specs.declared.State.TheVariants.{UnderWay}
use Rattle.engine.specs.State.{blank_of, lock_count, locks_of, in_use, worker_at}
use Rattle.engine.specs.Step.{places_of, put_at, stepped_of}
use Rattle.engine.specs.Calls.{outcome_of, fresh_of, setup_of, begun_of, begin_told, begin_of, step_told, onward_of, step_of, collect_told, collect_of, drop_told, drop_of}
use Rattle.engine.specs.Calls.{Collected}
use Rattle.engine.specs.declared.Engine.{Engine}
use Rattle.engine.specs.declared.Outcome.{Outcome}
use Rattle.ranges.specs.Good.{Good}
use Rattle.past.specs.Past.{Call, Begin, Step, Collect, Drop, ReadWord, ReadLock, Show, Park, after, after_all, AllRecords, Past, state_after}
use Rattle.ranges.proofs.Bites.{bites_not}
use Rattle.ranges.proofs.Frame.{state_all, told_all}
use Rattle.ranges.proofs.Keep.{good_setup, good_begin, good_step, good_collect, good_drop}
use Rattle.ranges.proofs.Laid.{lay_first}
use Rattle.ranges.proofs.Gave.{good_past}

-- past L the array is as it was in the blank state
abbrev pub Spare : Engine → Type 0
Spare e = drop e.locks e.lock ≡ replicate (most_locks - e.locks) lock0

drop-replicate : {A : Type 0} (n m : ℕ) (x : A) → drop n (replicate m x) ≡ replicate (m - n) x
drop-replicate zero m x = let e : m ≡ m - 0 = omega arith in ap (λ (k : ℕ). replicate k x) e
drop-replicate (suc n) zero x = let e : 0 ≡ 0 - suc n = omega arith in ap (λ (k : ℕ). replicate k x) e
drop-replicate (suc n) (suc m) x =
    let e : m - n ≡ suc m - suc n = omega arith in
    drop-replicate n m x ∙ ap (λ (k : ℕ). replicate k x) e

fresh_spare : (rec : List ℕ) → setup_told rec ≡ Ok tt → Spare (fresh_of rec)
unfolding fresh_of
fresh_spare rec h =
    let z = setup_sized rec h in
    let locks = map free_at (turns_field rec) in
    let blanks = replicate most_locks lock0 in
    let n : length locks ≡ locks_field rec = length-map (turns_field rec) free_at ∙ turns_count rec h in
    let all = length-replicate most_locks lock0 in
    ap (λ (l : List LockWord). drop (locks_field rec) l) (lay_first locks blanks (omega (arith, z.locks))) ∙
    drop_at locks (drop (length locks) blanks) (locks_field rec) n ∙
    ap (λ (k : ℕ). drop k blanks) n ∙
    drop-replicate (locks_field rec) most_locks lock0

outcome_spare :
    (e : Engine) (told : Told) (next : Engine) → Spare e → (told ≡ Ok tt → Spare next) →
    Spare (outcome_of e told next).engine
outcome_spare e told next g h =
    told_all (λ (o : Outcome). Spare o.engine) told _ (λ r. record { engine = e; told = _ }) h (λ r q. g)

-- a step touches the lock word of its worker's lock, which is below L
stepped_spare : (e : Engine) (w : ℕ) (p : Point) → (places_of e w p).lock < e.locks → Spare e → Spare (stepped_of e w p)
unfolding put_at
stepped_spare e w p h g = drop-set-lt e.locks e.lock (places_of e w p).lock _ h ∙ g

spare_step : (e : Engine) (w : ℕ) → Good e → Spare e → Spare (step_of e w).engine
unfolding step_of
spare_step e w g h =
    outcome_spare e (step_told e w) (onward_of e w) h
    (λ t.
    state_all Spare (worker_at e w).state e (λ p. stepped_of e w p) (λ x. e) (λ q. h)
    (λ p q. stepped_spare e w p (there p q) h) (λ x q. h))
  where
    there : (p : Point) → (worker_at e w).state ≡ UnderWay p → (places_of e w p).lock < e.locks
    there p q = let u = (bites_not e g).point w p q in omega (arith, u.lock, u.below)

spare_after : (e : Engine) (h : List Call) → Good e → Spare e → AllRecords h → Spare (after_all e h)
unfolding after_all after AllRecords begin_of begun_of collect_of drop_of
spare_after e [] g p b = p
spare_after e (Begin w l rec ∷ cs) g p b =
    spare_after (begin_of e w l rec).engine cs (good_begin e w l rec g b.0) (outcome_spare e (begin_told e w l rec) _ p (λ t. p)) b.1
spare_after e (Step w ∷ cs) g p b = spare_after (step_of e w).engine cs (good_step e w g) (spare_step e w g p) b
spare_after e (Collect w ∷ cs) g p b =
    spare_after (collect_of e w).engine cs (good_collect e w g)
    (told_all (λ (o : Collected). Spare o.engine) (collect_told e w) _ _ (λ t. p) (λ r q. p)) b
spare_after e (Drop w ∷ cs) g p b =
    spare_after (drop_of e w).engine cs (good_drop e w g) (outcome_spare e (drop_told e w) _ p (λ t. p)) b
spare_after e (ReadWord i ∷ cs) g p b = spare_after e cs g p b
spare_after e (ReadLock l ∷ cs) g p b = spare_after e cs g p b
spare_after e (Show s room ∷ cs) g p b = spare_after e cs g p b
spare_after e (Park room ∷ cs) g p b = spare_after e cs g p b

spare_setup : (rec : List ℕ) → Spare (setup_of rec).engine
unfolding setup_of blank_of
spare_setup rec = outcome_spare blank_of (setup_told rec) (fresh_of rec) refl (fresh_spare rec)

pub spare_past : (p : Past) → Spare (state_after p)
spare_past p =
    spare_after (setup_of p.setup).engine p.calls (good_setup p.setup p.setup_bytes) (spare_setup p.setup)
    p.calls_bytes

-- some element of a list of one value that hasn't it
any_none : {A : Type 0} (has : A → Bool) (x : A) (n : ℕ) → has x ≡ false → any_of has (replicate n x) ≡ false
unfolding any_of
any_none has x zero h = refl
any_none has x (suc n) h = simp (h, any_none has x n h)

-- "It is in use while a held lock names it": of the L locks
pub in_use_locks : (p : Past) (s : ℕ) → in_use (state_after p) s ≡ in_use_of (locks_of (state_after p)) (state_after p).worker s
unfolding in_use_of
in_use_locks p s =
    let e = state_after p in
    let few = locks_of e in
    let rest = drop (lock_count e) e.lock in
    let none : any_of (lock_names s) rest ≡ false =
    ap (λ (n : ℕ). any_of (lock_names s) (drop n e.lock)) (bites_not e (good_past p)).locks ∙
    ap (λ (l : List LockWord). any_of (lock_names s) l) (spare_past p) ∙
    any_none (lock_names s) lock0 (most_locks - e.locks) refl in
    let named : any_of (lock_names s) e.lock ≡ any_of (lock_names s) few =
    ap (λ (l : List LockWord). any_of (lock_names s) l) (sym (take-append-drop (lock_count e) e.lock)) ∙
    any_append (lock_names s) few rest ∙ ap (λ (b : Bool). any_of (lock_names s) few or b) none ∙
    or_none (any_of (lock_names s) few) in
    ap (λ (b : Bool). b or any_of (worker_keeps s) e.worker) named
