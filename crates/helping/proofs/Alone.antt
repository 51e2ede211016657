-- At its halt the ideal run has done what the job does alone; before, a first part of it.
use Prim.Native.Nat.{ℕ, zero, suc, ◌+◌, ◌<◌}
use mathlib.Core.Path.{◌≡◌, refl, sym, ap, ◌∙◌, subst}
use mathlib.Core.Bool.{Bool}
use mathlib.Core.List.{List, ◌∷◌}
use native.Mathlib.Nat.{zero-add}
use native.Mathlib.Omega.{arith}
use lib.ListN.{length, get_or, set, drop, length-set}
use lib.Seq.{drop-cons, drop-drop, get_or-set_same, get_or-set_other}
use Rattle.parts.specs.Instr.{asks_of, follows_of, on_asks, on_follows}
use Rattle.parts.specs.Parts.{instr0}
use Rattle.parts.specs.declared.Asks.{Asks}
use Rattle.parts.specs.declared.Asks.TheVariants.{Halt, Go, Touch}
use Rattle.parts.specs.declared.Follows.{Follows}
use Rattle.parts.specs.declared.Follows.TheVariants.{Done, Swap}
use Rattle.parts.specs.declared.Instr.{Instr}
use Rattle.parts.specs.declared.Reading.{Reading}
use Rattle.alone.specs.Alone.{Left, left_of, alone_from, alone_of}
use Rattle.alone.specs.Jobs.{part_from, part_of}
use Rattle.alone.proofs.Jobs.{Leads, alone_halts, part_halts, go_leads, touch_leads}
use Rattle.helping.specs.Machine.{Rules, Act, fin, go, touch, act_of, target}
use Rattle.helping.specs.Ideal.{Job, Ideal, raised, next_of, ideal_of, act_in, Touches, Guarded, FineJob}
use Rattle.helping.proofs.Put.{put_case}
use Rattle.helping.proofs.Run.{next_in, next_done, next_swap}

-- the words' values are those of the ideal run
record Values (K : Rules) (s : Ideal) (vs : List ℕ) : Type 0 where
  wide : length vs ≡ length K.values
  same : (q : ℕ) → (s.words q).value ≡ get_or vs q 0

module _ (K : Rules) (J : Job) (f : FineJob K J) (vs : List ℕ) (wide : length vs ≡ length K.values)
    (same : (q : ℕ) → (J.words q).value ≡ get_or vs q 0) where
  -- a job alone goes along with the ideal run: what it leaves, and each first part of it, go on from here
  record Along (n : ℕ) (s : Ideal) : Type 0 where
    words : List ℕ
    values : Values K s words
    count : ℕ
    alone : alone_of J.code vs ≡ alone_from zero (drop s.next J.code) s.registers words count
    part : (k : ℕ) → part_of (n + k) J.code vs ≡ part_from k (drop s.next J.code) s.registers words

  abbrev now_of : Ideal → Instr
  now_of s = get_or J.code s.next instr0

  abbrev rest_of : Ideal → List Instr
  rest_of s = drop (suc s.next) J.code

  abbrev asked_of : Ideal → Asks → Act
  asked_of s q =
      on_asks q (λ said. fin said) (λ next n. go next n) (λ w. touch w (follows_of (now_of s) s.registers))

  -- one instruction
  module _ (n : ℕ) (s : Ideal) (h : s.next < length J.code) (a : Along n s) where
    here : drop s.next J.code ≡ now_of s ∷ rest_of s
    here = drop-cons J.code s.next instr0 h

    one_more : (k : ℕ) → part_of (suc n + k) J.code vs ≡ part_from (suc k) (now_of s ∷ rest_of s) s.registers a.words
    one_more k =
        let e : suc n + k ≡ n + suc k = omega arith in
        ap (λ (m : ℕ). part_of m J.code vs) e ∙ a.part (suc k) ∙
        ap (λ (is : List Instr). part_from (suc k) is s.registers a.words) here

    lead :
        (t : Ideal) (after : List ℕ) → Values K t after →
        Leads (now_of s ∷ rest_of s) s.registers a.words (drop t.next J.code) t.registers after →
        Along (suc n) t
    lead t after v l =
        record {
          words = after;
          values = v;
          count = a.count + 1;
          alone =
              a.alone ∙ ap (λ (is : List Instr). alone_from zero is s.registers a.words a.count) here ∙
              l.alone a.count;
          part = λ k. one_more k ∙ l.part k;
        }

    halt : (said : Bool) → asks_of (now_of s) s.registers ≡ Halt said → Along (suc n) s
    halt said e =
        record {
          words = a.words;
          values = a.values;
          count = a.count;
          alone = a.alone;
          part = λ k.
              one_more k ∙ part_halts (now_of s) (rest_of s) s.registers a.words said e (suc k) ∙
              sym (part_halts (now_of s) (rest_of s) s.registers a.words said e k) ∙
              ap (λ (is : List Instr). part_from k is s.registers a.words) (sym here);
        }

    -- a word: by what follows from its value
    followed :
        (w : ℕ) → w < length K.values → (x : Follows) →
        follows_of (now_of s) s.registers (s.words w).value ≡ x →
        Leads (now_of s ∷ rest_of s) s.registers a.words (rest_of s)
        (on_follows x (λ next. next) (λ new. s.registers))
        (on_follows x (λ next. a.words) (λ new. set a.words w new)) →
        Along (suc n) (next_of (touch w (follows_of (now_of s) s.registers)) s)
    followed w d (Done rs) g l =
        subst (Along (suc n)) (sym (next_done (touch w (follows_of (now_of s) s.registers)) s rs g))
        (lead _ a.words (record { wide = a.values.wide; same = a.values.same }) l)
    followed w d (Swap new) g l =
        subst (Along (suc n)) (sym (next_swap (touch w (follows_of (now_of s) s.registers)) s new g))
        (lead _ (set a.words w new)
        (record {
          wide = length-set a.words w new ∙ a.values.wide;
          same = λ q.
              put_case s.words w (raised (s.words w) new)
              (λ (u : Reading). u.value ≡ get_or (set a.words w new) q 0) q
              (λ e. sym (get_or-set_same a.words w new 0 (omega (arith, a.values.wide))) ∙
              ap (λ (k : ℕ). get_or (set a.words w new) k 0) (sym e))
              (λ e. a.values.same q ∙ sym (get_or-set_other a.words w q new 0 e));
        }) l)

    step_along : (q : Asks) → asks_of (now_of s) s.registers ≡ q → Along (suc n) (next_of (asked_of s q) s)
    unfolding next_of act_of
    step_along (Halt said) e = halt said e
    step_along (Go next k) e =
        let i : suc s.next + k ≡ suc (s.next + k) = omega arith in
        let q : drop k (rest_of s) ≡ drop (suc (s.next + k)) J.code =
        drop-drop k (suc s.next) J.code ∙ ap (λ (m : ℕ). drop m J.code) i in
        lead _ a.words (record { wide = a.values.wide; same = a.values.same })
        (subst (λ (is : List Instr). Leads (now_of s ∷ rest_of s) s.registers a.words is next a.words) q
        (go_leads (now_of s) (rest_of s) s.registers a.words next k e))
    step_along (Touch w) e =
        let g : Guarded K J.lock w =
        subst (λ (q : Asks). Touches (asked_of s q) → Guarded K J.lock (target (asked_of s q))) e
        (f.names s.next s.registers h) tt in
        followed w g.0 _ (ap (follows_of (now_of s) s.registers) (a.values.same w))
        (touch_leads (now_of s) (rest_of s) s.registers a.words w e)

  along : (n : ℕ) → Along n (ideal_of J n)
  unfolding ideal_of act_of
  along zero =
      record {
        words = vs;
        values = record { wide = wide; same = same };
        count = 0;
        alone = refl;
        part = λ k. ap (λ (m : ℕ). part_of m J.code vs) (zero-add k);
      }
  along (suc n) = step_along n (ideal_of J n) (next_in K J f n) (along n) _ refl

  pub done_alone :
      (n : ℕ) (said : Bool) → act_in J n ≡ fin said →
      ((alone_of J.code vs).yes ≡ said) ×
      ((q : ℕ) → get_or (alone_of J.code vs).words q 0 ≡ ((ideal_of J n).words q).value)
  unfolding act_of
  done_alone n said e = by (asks_of (now_of (ideal_of J n)) (ideal_of J n).registers) refl e
    where
      a : Along n (ideal_of J n)
      a = along n

      by :
          (q : Asks) → asks_of (now_of (ideal_of J n)) (ideal_of J n).registers ≡ q → asked_of (ideal_of J n) q ≡ fin said →
          ((alone_of J.code vs).yes ≡ said) ×
          ((q : ℕ) → get_or (alone_of J.code vs).words q 0 ≡ ((ideal_of J n).words q).value)
      by (Halt told) z e =
          let left : alone_of J.code vs ≡ left_of told (a.count + 1) a.words =
          a.alone ∙
          ap (λ (is : List Instr). alone_from zero is (ideal_of J n).registers a.words a.count)
          (here n (ideal_of J n) (next_in K J f n) a) ∙
          alone_halts _ _ (ideal_of J n).registers a.words told z a.count in
          let same : told ≡ said = cc in (
            ap (λ (l : Left). l.yes) left ∙ same,
            λ q. ap (λ (l : Left). get_or l.words q 0) left ∙ sym (a.values.same q),
          )
      by (Go next k) z e = let y : ◌≡◌ {A = ℕ} 0 1 = cc in absurd (omega arith)
      by (Touch w) z e = let y : ◌≡◌ {A = ℕ} 0 1 = cc in absurd (omega arith)

  pub part_alone :
      (n : ℕ) → (k : ℕ) × ((q : ℕ) → get_or (part_of k J.code vs) q 0 ≡ ((ideal_of J n).words q).value)
  unfolding part_from
  part_alone n =
      let a = along n in
      (n + 0, λ q. ap (λ (l : List ℕ). get_or l q 0) (a.part 0) ∙ sym (a.values.same q))
