-- Request 05 of every history: what the theory says of a worker alone on a free lock, in the engine's words.
use Rattle.std.specs.Prelude.{Err, None, Ok}
use Prim.Native.Nat.{ℕ, suc, ◌<◌}
use native.Mathlib.Omega.{arith}
use mathlib.Core.Bool.{Bool, true, false}
use mathlib.Core.List.{List, ◌∷◌}
use mathlib.Core.Path.{◌≡◌, refl, sym, ap, ◌∙◌, subst}
use borrow.Author.Tests.{eqb-true, eqb-false, ne_eqb, eq-eqb, le-ltb, lt-leb}
use lib.Dec.{eqb}
use lib.ListN.{length, get_or, length-map, get_or-map}
use lib.Seq.{ext_get_or}
use Rattle.arrays.specs.Fresh.{guards_of, values_of}
use Rattle.parts.specs.Numbers.{workers, most_words, last_turn, try_steps}
use Rattle.parts.specs.Parts.{word0, worn_of}
use Rattle.parts.specs.Told.{on_told}
use Rattle.parts.specs.Pick.{pick}
use Rattle.parts.specs.declared.Answer.{Answer}
use Rattle.parts.specs.declared.Answer.TheVariants.{RanYes, RanNo}
use Rattle.parts.specs.declared.Instr.{Instr}
use Rattle.parts.specs.declared.LockWord.{LockWord}
use Rattle.parts.specs.declared.Reading.{Reading}
use Rattle.parts.specs.Told.{Told}
use Rattle.parts.specs.declared.Word.{Word}
use Rattle.records.specs.Bytes.{AllBytes}
use Rattle.records.specs.Job.{job_of, job_told}
use Rattle.alone.specs.Alone.{alone_of}
use Rattle.alone.proofs.Bounds.{alone_length}
use Rattle.steps.specs.Worker as steps
use Rattle.steps.specs.declared.State.TheVariants.{Idle, Finished}
use Rattle.engine.specs.Calls.{collect_of}
use Rattle.engine.specs.Inner.{Begins}
use Rattle.engine.specs.State.{lock_count, word_count, worker_at, lock_at, word_at, words_of, free_sheet}
use Rattle.engine.specs.declared.Engine.{Engine}
use Rattle.engine.specs.declared.Outcome.{Outcome}
use Rattle.plain.specs.Plain as plain
use Rattle.plain.specs.Plain.{plain_told, ran_told, plain_of, plain_left}
use Rattle.past.specs.Past as past
use Rattle.past.specs.Past.{Begin, AllRecords, Past}
use Rattle.past.proofs.Accepted.{begin_told_lem}
use Rattle.helping.specs.Ideal.{Job, ideal_of, Guarded, Fine}
use Rattle.helping.specs.Machine.{Rules, Scene, machine_begun}
use Rattle.helping.specs.Ok.{alone_steps}
use Rattle.helping.proofs.Alone.{done_alone}
use Rattle.helping.proofs.Solo.{Ran, runs_alone, spares}
use Rattle.ranges.specs.Good.{Good}
use Rattle.histories.specs.History.{Sofar, follow, sofar, Guards}
use Rattle.histories.specs.Plainly.{alone_then, RunsPlainly, Plainly}
use Rattle.histories.proofs.Demand.Helped.{may_begin, told_accepted, helped_is}
use Rattle.histories.proofs.Map.Map.{scene_of}
use Rattle.histories.proofs.Plainly.Others.{others_there}
use Rattle.histories.proofs.Rules.Records.{steps_records}
use Rattle.histories.proofs.Rules.Rules.{job_fine, words_length, words_at}
use Rattle.histories.proofs.Simulation.Standing.{Standing, standing_follow, standing_past}
use Rattle.engine.specs.Calls.{answered}

not_worn : (x : LockWord) → x.holder ≡ None → x.turn < last_turn → worn_of x ≡ false
unfolding worn_of
not_worn x h b = rw (h, ne_eqb x.turn last_turn (λ z. omega arith))

-- a state's words: as many values and guards as words, and each is its word's
value_count : (e : Engine) → Good e → length (values_of (words_of e)) ≡ word_count e
value_count e g = length-map (words_of e) (λ w. w.value) ∙ words_length e g

value_at : (e : Engine) (q : ℕ) → q < word_count e → get_or (values_of (words_of e)) q 0 ≡ (word_at e q).value
value_at e q h = get_or-map (λ (x : Word). x.value) (words_of e) q word0 ∙ ap (λ (x : Word). x.value) (words_at e q h)

guard_count : (e : Engine) → Good e → length (guards_of (words_of e)) ≡ word_count e
guard_count e g = length-map (words_of e) (λ w. w.guard) ∙ words_length e g

guard_at : (e : Engine) (q : ℕ) → q < word_count e → get_or (guards_of (words_of e)) q 0 ≡ (word_at e q).guard
guard_at e q h = get_or-map (λ (x : Word). x.guard) (words_of e) q word0 ∙ ap (λ (x : Word). x.guard) (words_at e q h)

-- what collect tells of a worker that has finished
answered_lem :
    (e : Engine) (w : ℕ) (a : Answer) → w < workers → (worker_at e w).state ≡ Finished a →
    (collect_of e w).told ≡ Ok (answered a (worker_at e w).steps (worker_at e w).filled)
unfolding collect_of steps.collect_by_state
answered_lem e w a h q = simp (lt-leb workers w h, q)

module _
    (K : Rules) (x : Sofar) (s : Standing K x) (w l : ℕ) (rec : List ℕ) (seat : w < workers) (idle : (worker_at x.state w).state ≡ Idle)
    (lock : l < lock_count x.state) (free : (lock_at x.state l).holder ≡ None) (below : (lock_at x.state l).turn < last_turn)
    (bytes : AllBytes rec) (job : job_told rec l (guards_of (words_of x.state)) ≡ Ok tt) where
  abbrev e : Engine
  e = x.state

  abbrev E : Scene
  E = scene_of e

  abbrev vs : List ℕ
  vs = values_of (words_of e)

  abbrev code : List Instr
  code = job_of rec

  abbrev seen : ℕ
  seen = (lock_at e l).turn

  begins : Begins e w l rec
  begins = may_begin x w l rec lock (not_worn (lock_at e l) free below) seat idle job

  fine : Fine K l code
  fine = job_fine K e s.good s.under rec l job

  -- the job on the words as they are; past the last word there is nothing
  abbrev J : Job
  J = record { code = code; lock = l; words = λ q. record { value = get_or vs q 0; count = (E.word q).count } }

  in_words : (q : ℕ) → Guarded K l q → q < word_count e
  in_words q g = omega (arith, g.0, s.under.words)

  abbrev then_state : Engine
  then_state = alone_then x w l rec

  ran : Ran K J E (scene_of (alone_then x w l rec)) w (suc seen)
  ran =
      let D = machine_begun E w l code (free_sheet e) in
      let word : (q : ℕ) → Guarded K l q → E.word q ≡ J.words q =
      λ q g j. record { value = sym (value_at e q (in_words q g)) j; count = (E.word q).count } in
      let solo =
      runs_alone K E w l (free_sheet e) seen code J.words fine (λ z. omega (arith, s.under.last))
      (λ j. record { turn = seen; holder = free j }) word in
      subst (λ (F : Scene). Ran K J E F w (suc seen)) (sym (helped_is K x s w l rec bytes begins 196))
      (subst (λ (n : ℕ). Ran K J E (alone_steps K w (try_steps n) D) w (suc seen)) s.under.most solo)

  -- the job alone: its answer, and each word's value
  wide : length vs ≡ length K.values
  wide = value_count e s.good ∙ sym s.under.words

  alone : ((alone_of code vs).yes ≡ ran.said) × ((q : ℕ) → get_or (alone_of code vs).words q 0 ≡ ((ideal_of J ran.n).words q).value)
  alone = done_alone K J fine vs wide (λ q. refl) ran.n ran.said ran.halts

  -- the plain engine takes it
  taken : plain_told vs (guards_of (words_of e)) l rec ≡ Ok tt
  unfolding plain_told
  taken =
      let guards = guard_count e s.good in
      let values = value_count e s.good in
      let most = s.good.numbers.words in
      rw (eq-eqb (length vs) (length (guards_of (words_of e))) (values ∙ sym guards), le-ltb most_words (length vs) (omega arith), job)

  plain_is : plain_of vs (guards_of (words_of e)) l rec ≡ Ok (plain.ran ran.said (alone_of code vs).executed)
  unfolding plain_of
  plain_is =
      ap (λ (t : Told). on_told t (ran_told (alone_of code vs)) (λ r. Err r)) taken ∙
      ap (λ (y : Bool). Ok (plain.ran y (alone_of code vs).executed)) alone.0

  left_is : plain_left vs (guards_of (words_of e)) l rec ≡ (alone_of code vs).words
  unfolding plain_left
  left_is = ap (λ (t : Told). on_told t (alone_of code vs).words (λ r. vs)) taken

  -- the state after it
  stands : Standing K (follow x (Begin w l rec ∷ past.steps 196 w))
  unfolding AllRecords
  stands = standing_follow K x (Begin w l rec ∷ past.steps 196 w) s (bytes, steps_records 196 w)

  same_count : word_count then_state ≡ word_count e
  same_count = sym stands.under.words ∙ s.under.words

  word_value : (q : ℕ) → q < word_count e → (word_at then_state q).value ≡ get_or (alone_of code vs).words q 0
  word_value q h = go (eqb (K.guard q) l) refl ∙ sym (alone.1 q)
    where
      go : (b : Bool) → eqb (K.guard q) l ≡ b → (word_at then_state q).value ≡ ((ideal_of J ran.n).words q).value
      go true z = ap (λ (u : Reading). u.value) (ran.words q (omega (arith, s.under.words), eqb-true (K.guard q) l z))
      go false z =
          let other : Guarded K l q → ⊥ = λ g. eqb-false (K.guard q) l z g.1 in
          ap (λ (u : Reading). u.value) (ran.beside.words q other) ∙ sym (value_at e q h) ∙
          ap (λ (u : Reading). u.value) (sym (spares K J fine ran.n q other))

  all_values : values_of (words_of then_state) ≡ (alone_of code vs).words
  all_values =
      let now = value_count then_state stands.good in
      let left = alone_length code vs in
      let was = value_count e s.good in
      let same = same_count in
      ext_get_or 0 (values_of (words_of then_state)) (alone_of code vs).words (omega arith)
      (λ q h. value_at then_state q (omega arith) ∙ word_value q (omega arith))

  all_guards : guards_of (words_of then_state) ≡ guards_of (words_of e)
  all_guards =
      let now = guard_count then_state stands.good in
      let was = guard_count e s.good in
      let same = same_count in
      ext_get_or 0 (guards_of (words_of then_state)) (guards_of (words_of e)) (omega arith)
      (λ q h.
      guard_at then_state q (omega arith) ∙ stands.under.guard q ∙ sym (s.under.guard q) ∙ sym (guard_at e q (omega arith)))

  other_word : (q : ℕ) → (Guards e l q → ⊥) → word_at then_state q ≡ word_at e q
  other_word q d =
      let u = s.under in
      let same : (scene_of then_state).word q ≡ E.word q =
      ran.beside.words q (λ g. d (in_words q g, u.guard q ∙ g.1)) in
      λ j.
      record {
        value = ap (λ (u : Reading). u.value) same j;
        count = ap (λ (u : Reading). u.count) same j;
        guard = (stands.under.guard q ∙ sym (u.guard q)) j;
      }

  pub runs_plainly : RunsPlainly x w l rec
  runs_plainly =
      record {
        begun = ap (λ (o : Outcome). o.told) (begin_told_lem e w l rec (Ok tt) (told_accepted e w l rec begins));
        yes = ran.said;
        executed = (alone_of code vs).executed;
        plain = plain_is;
        steps = (worker_at then_state w).steps;
        filled = (worker_at then_state w).filled;
        answer = answered_lem then_state w (pick ran.said RanYes RanNo) seat ran.answer;
        values = all_values ∙ sym left_is;
        guards = all_guards;
        lock = ran.lock;
        words = other_word;
        locks = ran.beside.locks;
        workers = λ v d. others_there K x s w l rec bytes begins v d 196;
      }

pub plainly : (p : Past) → Plainly (sofar p)
plainly p =
    record {
      alone =
          λ w l rec seat idle lock free below bytes job.
          runs_plainly _ (sofar p) (standing_past p) w l rec seat idle lock free below bytes job;
    }
