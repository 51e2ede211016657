-- What the theory asks of a setup, of a job that begin takes and of the sheet that it takes; and that the rules stay.
use Rattle.std.specs.Prelude.{None, Ok, Option, Some}
use Prim.Native.Nat.{ℕ, zero, suc, ◌+◌, ◌-◌, ◌≤◌, ◌<◌}
use native.Mathlib.Omega.{arith}
use mathlib.Core.Path.{◌≡◌, refl, ◌∙◌, sym, ap}
use mathlib.Core.Bool.{Bool, false}
use mathlib.Core.List.{List, [], ◌∷◌, ◌++◌}
use mathlib.Core.Logic.{◌≢◌, ⊎_elim}
use lib.Dec.{eqb, ltb}
use lib.ListN.{length, get_or, drop, replicate, length-map, length-replicate, get_or-eq_default, get_or-map}
use lib.Seq.{length-take-le, get_or-take, get_or-drop, get_or-append-add}
use borrow.Author.Tests.{eq-eqb, eqb-false}
use Rattle.arrays.specs.Fresh.{words_from, guards_of}
use Rattle.parts.specs.Lay.{lay}
use Rattle.parts.specs.Numbers.{workers, sheets, most_locks, most_words, instructions, entries}
use Rattle.parts.specs.Parts.{word0, entry0, lock0}
use Rattle.parts.specs.Pick.{◌or◌}
use Rattle.parts.specs.declared.Entry.{Entry}
use Rattle.parts.specs.declared.LockWord.{LockWord}
use Rattle.parts.specs.declared.Word.{Word}
use Rattle.parts.proofs.Order.{neither, below_or_not}
use Rattle.records.specs.Bytes.{AllBytes}
use Rattle.records.specs.Job.{job_of, job_told}
use Rattle.records.specs.Setup.{guards_field, values_field, setup_told}
use Rattle.records.proofs.One.{setup_sized, guards_count, values_count}
use Rattle.sheets.specs.Sheets.{any_of, lock_names, worker_keeps, in_use_of}
use Rattle.steps.specs.Places.{helped_of, names, keeps}
use Rattle.steps.specs.Worker.{on_state, worker0}
use Rattle.steps.specs.declared.State.{State}
use Rattle.steps.specs.declared.Point.{Point}
use Rattle.steps.specs.declared.State.TheVariants.{UnderWay}
use Rattle.steps.specs.declared.Worker.{Worker}
use Rattle.engine.specs.State.{sheet0, blank_of, free_sheet, lock_count, word_count, lock_at, word_at, worker_at, words_of, base_of}
use Rattle.engine.specs.Calls.{fresh_of, setup_of}
use Rattle.engine.specs.Inner.{Begins}
use Rattle.engine.specs.declared.Engine.{Engine}
use Rattle.engine.specs.declared.Outcome.{Outcome}
use Rattle.engine.specs.declared.Sheet.{Sheet}
use Rattle.helping.specs.Machine.{Rules, Unused}
use Rattle.helping.specs.Ideal.{Fine}
use Rattle.helping.specs.Ok.{Fresh}
use Rattle.ranges.specs.Good.{Good}
use Rattle.past.specs.Past.{Call, Past, after, state_after}
use Rattle.ranges.proofs.Bites.{bites_not}
use Rattle.histories.proofs.Rules.Fine.{told_fine}
use Rattle.ranges.proofs.Frame.{All, pick_all, replicate_all, told_all}
use Rattle.histories.proofs.Rules.Guards.{guards_after}
use Rattle.ranges.proofs.Keep.{good_setup}
use Rattle.ranges.proofs.Laid.{lay_first}
use Rattle.histories.proofs.Map.Map.{hand_of, rules_of, scene_of, Under}
use Rattle.ranges.proofs.Fresh.{from_length, fresh_counts, fresh_free}
use Rattle.histories.proofs.Rules.Spare.{spare_past}
use Rattle.ranges.proofs.Free.{begins_free}
use Rattle.ranges.proofs.Gave.{good_past}

-- the words that there are: how many, and each is the one in its place
pub words_length : (e : Engine) → Good e → length (words_of e) ≡ word_count e
words_length e g = length-take-le (word_count e) e.word (omega (arith, g.lengths.word, g.numbers.words))

pub words_at : (e : Engine) (q : ℕ) → q < word_count e → get_or (words_of e) q word0 ≡ word_at e q
words_at e q h = get_or-take (word_count e) e.word q word0 h

-- past what was laid over blanks the blanks stand
lay_past :
    {A : Type 0} (xs : List A) (n : ℕ) (d : A) (k : ℕ) → length xs ≤ n → length xs ≤ k →
    get_or (lay 0 xs (replicate n d)) k d ≡ d
lay_past xs n d k h l =
    let blanks = replicate n d in
    let rest = drop (length xs) blanks in
    let at : k ≡ length xs + (k - length xs) = omega arith in
    ap (λ (m : List _). get_or m k d) (lay_first xs blanks (omega (arith, length-replicate n d))) ∙
    ap (λ (j : ℕ). get_or (xs ++ rest) j d) at ∙ get_or-append-add xs rest (k - length xs) d ∙
    get_or-drop (length xs) blanks (k - length xs) d ∙ replicate_all (λ x. x ≡ d) n d refl _

-- a state whose sheets, entries and workers are those of the blank state, with free locks, with words that never changed
made_fresh :
    (e : Engine) → Good e → e.sheet ≡ blank_of.sheet → e.entry ≡ blank_of.entry → e.worker ≡ blank_of.worker →
    ((l : ℕ) → (lock_at e l).holder ≡ None) → ((q : ℕ) → (word_at e q).count ≡ 0) →
    ((q : ℕ) → word_count e ≤ q → word_at e q ≡ word0) → Fresh (rules_of e) (scene_of e)
unfolding blank_of
made_fresh e g s t w l c p =
    record {
      idle =
          λ i. ap hand_of (ap (λ (ks : List Worker). get_or ks i worker0) w ∙ replicate_all (λ k. k ≡ worker0) workers worker0 refl i);
      free = λ k. (l k, (g.lock k).turn);
      value = λ q. sym (get_or-map (λ (x : Word). x.value) (words_of e) q word0 ∙ ap (λ (x : Word). x.value) (at q));
      count = c;
      unmarked =
          λ k.
          ap (λ (xs : List Sheet). (get_or xs k sheet0).done) s ∙
          replicate_all (λ x. x.done ≡ false) sheets sheet0 refl k;
      empty =
          λ k n.
          pick_all (λ x. x ≡ None) (ltb n instructions) _ None
          (ap (λ (xs : List Entry). (get_or xs (base_of k + n) entry0).fill) t ∙
          replicate_all (λ x. x.fill ≡ None) entries entry0 refl (base_of k + n))
          refl;
    }
  where
    at : (q : ℕ) → get_or (words_of e) q word0 ≡ word_at e q
    at q =
        ⊎_elim (λ h. words_at e q h)
        (λ h. get_or-eq_default (words_of e) word0 (omega (arith, words_length e g)) ∙ sym (p q h))
        (below_or_not q (word_count e))

-- what a setup gave, accepted or refused, is fresh, under its own rules
pub fresh_is : (rec : List ℕ) → AllBytes rec → Fresh (rules_of (setup_of rec).engine) (scene_of (setup_of rec).engine)
unfolding setup_of fresh_of blank_of
fresh_is rec b =
    told_all (λ (o : Outcome). Good o.engine → Fresh (rules_of o.engine) (scene_of o.engine)) (setup_told rec) _ _
    (λ h g. made_fresh (fresh_of rec) g refl refl refl (fresh_free rec) (fresh_counts rec) (past h))
    (λ r h g.
    made_fresh blank_of g refl refl refl (replicate_all (λ x. x.holder ≡ None) most_locks lock0 refl)
    (replicate_all (λ x. x.count ≡ 0) most_words word0 refl)
    (λ q k. replicate_all (λ x. x ≡ word0) most_words word0 refl q))
    (good_setup rec b)
  where
    past : setup_told rec ≡ Ok tt → (q : ℕ) → word_count (fresh_of rec) ≤ q → word_at (fresh_of rec) q ≡ word0
    past h q k =
        let z = (setup_sized rec h).words in
        let n = guards_count rec h in
        let size = from_length (guards_field rec) (values_field rec) (values_count rec h ∙ sym n) in
        lay_past (words_from (guards_field rec) (values_field rec)) most_words word0 q (omega arith) (omega arith)

pub under_start : (rec : List ℕ) → AllBytes rec → Under (rules_of (setup_of rec).engine) (setup_of rec).engine
under_start rec b =
    let e = (setup_of rec).engine in
    record {
      most = refl;
      last = refl;
      words = length-map (words_of e) (λ w. w.value) ∙ words_length e (good_setup rec b);
      guard = λ q. refl;
    }

-- no call changes the words' guards or their number
pub under_after : (K : Rules) (e : Engine) (c : Call) → Good e → Under K e → Under K (after e c)
under_after K e c g u =
    let same = guards_after e c in
    record {
      most = u.most;
      last = u.last;
      words = omega (arith, u.words, same.words);
      guard = λ q. same.guard q ∙ u.guard q;
    }

-- a job that is told accepted on lock l is fine there
pub job_fine :
    (K : Rules) (e : Engine) → Good e → Under K e → (rec : List ℕ) (l : ℕ) →
    job_told rec l (guards_of (words_of e)) ≡ Ok tt → Fine K l (job_of rec)
job_fine K e g u rec l a =
    let size : length (guards_of (words_of e)) ≡ word_count e =
    length-map (words_of e) (λ w. w.guard) ∙ words_length e g in
    told_fine K rec l (guards_of (words_of e)) u.most (u.words ∙ sym size)
    (λ q h.
    get_or-map (λ (x : Word). x.guard) (words_of e) q word0 ∙
    ap (λ (x : Word). x.guard) (words_at e q (omega arith)) ∙ u.guard q)
    a

-- no element has it
none_has :
    {A : Type 0} (has : A → Bool) (xs : List A) (d : A) → any_of has xs ≡ false → has d ≡ false →
    All (λ x. has x ≡ false) xs d
unfolding any_of
none_has has [] d e h k = h
none_has has (x ∷ xs) d e h zero = (neither (has x) (any_of has xs) e).0
none_has has (x ∷ xs) d e h (suc k) = none_has has xs d (neither (has x) (any_of has xs) e).1 h k

-- a holder that does not name a sheet is not that sheet
not_named : (h : Option ℕ) (s : ℕ) → names h s ≡ false → h ≢ Some s
not_named h s e q =
    let z : ◌≡◌ {A = ℕ} 0 1 = cc (ap (λ (x : Option ℕ). names x s) q, eq-eqb s s refl) in
    omega arith

-- a sheet that a worker under way does not keep
not_kept :
    (k : Worker) (s : ℕ) (p : Point) → keeps k s ≡ false → k.state ≡ UnderWay p →
    (eqb k.own s ≡ false) × (names (helped_of p) s ≡ false)
not_kept k s p e q =
    neither (eqb k.own s) (names (helped_of p) s)
    (sym (ap (λ (x : State). on_state x false (λ p. eqb k.own s or names (helped_of p) s) (λ x. false)) q) ∙ e)

-- the sheet that begin takes is one that the theory may take
pub free_unused :
    (e : Engine) → Good e → (w l : ℕ) (rec : List ℕ) → Begins e w l rec → Unused (scene_of e) (free_sheet e)
unfolding in_use_of
free_unused e g w l rec b =
    let s = free_sheet e in
    let none = neither (any_of (lock_names s) e.lock) (any_of (worker_keeps s) e.worker) (begins_free e g w l rec b) in
    let named : (l : ℕ) → names (lock_at e l).holder s ≡ false = none_has (lock_names s) e.lock lock0 none.0 refl in
    let kept : (i : ℕ) → keeps (worker_at e i) s ≡ false = none_has (worker_keeps s) e.worker worker0 none.1 refl in
    record {
      named = λ l. not_named (lock_at e l).holder s (named l);
      owned = λ i p q. eqb-false (worker_at e i).own s (not_kept (worker_at e i) s p (kept i) q).0;
      helped = λ i p q. not_named (helped_of p) s (not_kept (worker_at e i) s p (kept i) q).1;
    }

-- a lock that is held is one of the L locks
pub held_below : (p : Past) (l s : ℕ) → (lock_at (state_after p) l).holder ≡ Some s → l < lock_count (state_after p)
held_below p l s h =
    ⊎_elim (λ q. q) (λ q. absurd (never q)) (below_or_not l (lock_count (state_after p)))
  where
    never : lock_count (state_after p) ≤ l → ⊥
    never q =
        let e = state_after p in
        let n = (bites_not e (good_past p)).locks in
        let at : e.locks + (l - e.locks) ≡ l = omega arith in
        let free : lock_at e l ≡ lock0 =
        ap (λ (k : ℕ). lock_at e k) (sym at) ∙ sym (get_or-drop e.locks e.lock (l - e.locks) lock0) ∙
        ap (λ (ls : List LockWord). get_or ls (l - e.locks) lock0) (spare_past p) ∙
        replicate_all (λ x. x ≡ lock0) (most_locks - e.locks) lock0 refl (l - e.locks) in
        let z : ◌≡◌ {A = ℕ} 0 1 = cc in
        omega arith
