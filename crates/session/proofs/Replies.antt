-- What is told of a call, by what the callees ensure: one turn and the end of the steps, an answer, and what a writer was lent, with
-- its text.
use Rattle.std.specs.Prelude.{Err, Ok, Result}
use Prim.Native.Nat.{ℕ, suc, ◌+◌, ◌*◌, ◌-◌, ◌≤◌, ◌<◌}
use mathlib.Core.Path.{◌≡◌, refl, ◌∙◌, sym, ap}
use mathlib.Core.List.{List, ◌++◌}
use native.Mathlib.Omega.{arith}
use lib.ListN.{length, take, drop}
use lib.Seq.{length-take-le}
use Rattle.engine.specs.Calls.{outcome_of, step_told, onward_of, step_of, show_of, shown_of, park_of, parked_of}
use Rattle.engine.specs.declared.Engine.{Engine}
use Rattle.parts.specs.Told.{Told}
use Rattle.parts.specs.declared.Refusal.{Refusal}
use Rattle.text.specs.Text.{Puts, most_bytes, number_text, bytes_text}
use Rattle.text.proofs.Written.{puts_two, puts_same}
use Rattle.session.specs.Reply.{filled_with, Obeyed, plain_reply, plain_of, steps_from, write_reply, script_write, script_show, script_park}
use Rattle.session.specs.ReplyText.{lent_of, most_tail}
use Rattle.session.specs.declared.obey.Reply.{Reply}
use Rattle.session.specs.declared.reply_text.Tail.TheVariants.{Steps}

-- up to n steps, of which `done` were accepted: none yet; one is refused; one more is accepted; all were
pub steps-start : (e : Engine) (w n : ℕ) → steps_from n e w 0 ≡ steps_from (n - 0) e w 0
steps-start e w n = ap (λ (m : ℕ). steps_from m e w 0) (omega arith)

-- a refused step leaves the state as it came
step_kept : (e : Engine) (w : ℕ) (f : Refusal) → (step_of e w).told ≡ Err f → (step_of e w).engine ≡ e
unfolding step_of
step_kept e w f = kept (step_told e w) (onward_of e w)
  where
    kept : (t : Told) (x : Engine) → (outcome_of e t x).told ≡ Err f → (outcome_of e t x).engine ≡ e
    kept (Ok _) x h = let z : ◌≡◌ {A = ℕ} 0 1 = cc in absurd (omega arith)
    kept (Err s) x h = refl

module _ (goal : Obeyed) (e next : Engine) (w n done : ℕ) (g : goal ≡ steps_from (n - done) e w done) where
  module _ (h : done < n) (t : Told) (q : t ≡ (step_of e w).told) (s : next ≡ (step_of e w).engine) where
    steps_one : (m : ℕ) → n - done ≡ suc m → goal ≡ steps_from (suc m) e w done
    steps_one m k = g ∙ ap (λ (m : ℕ). steps_from m e w done) k

    stopped : (f : Refusal) → t ≡ Err f → goal ≡ plain_of e (Err f) (Steps done)
    unfolding steps_from
    stopped f k = steps_one (n - (done + 1)) (omega arith) ∙ simp (sym q ∙ k)

    pub stop_value : (f : Refusal) (r : Reply) → t ≡ Err f → r ≡ plain_reply (Err f) (Steps done) → r ≡ goal.reply
    unfolding plain_of
    stop_value f r k v = v ∙ sym (ap (λ (o : Obeyed). o.reply) (stopped f k))

    pub stop_after : (f : Refusal) → t ≡ Err f → next ≡ goal.engine
    unfolding plain_of
    stop_after f k = s ∙ step_kept e w f (sym q ∙ k) ∙ sym (ap (λ (o : Obeyed). o.engine) (stopped f k))

    pub steps_turn : t ≡ Ok tt → goal ≡ steps_from (n - (done + 1)) next w (done + 1)
    unfolding steps_from
    steps_turn k = steps_one (n - (done + 1)) (omega arith) ∙ simp (sym q ∙ k, s)

  module _ (h : n ≤ done) (i : done ≤ n) where
    ended : goal ≡ plain_of e (Ok tt) (Steps n)
    unfolding steps_from
    ended =
        let q : n - done ≡ 0 = omega arith in
        let p : done ≡ n = omega arith in
        g ∙ ap (λ (m : ℕ). steps_from m e w done) q ∙ ap (λ (m : ℕ). plain_of e (Ok tt) (Steps m)) p

    pub end_value : (r : Reply) → r ≡ plain_reply (Ok tt) (Steps n) → r ≡ goal.reply
    unfolding plain_of
    end_value r v = v ∙ sym (ap (λ (o : Obeyed). o.reply) ended)

    pub end_after : e ≡ goal.engine
    unfolding plain_of
    end_after = sym (ap (λ (o : Obeyed). o.engine) ended)

-- a writer was lent the first k of 512 bytes
lent_length : (k n : ℕ) (l : List ℕ) → length l ≡ most_bytes → (k ≡ lent_of n) × (k ≤ most_bytes) → length (take k l) ≡ lent_of n
lent_length k n l h (e, b) = let q : k ≤ length l = omega arith in length-take-le k l q ∙ e

pub shown_by :
    (e : Engine) (s n k : ℕ) (t : Result ℕ Refusal) (l xs : List ℕ) (r : Reply) →
    r ≡ write_reply t n (xs ++ drop k l) →
    t ≡ show_of e s (length (take k l)) →
    xs ≡ shown_of e s (take k l) →
    l ≡ filled_with 165 →
    length l ≡ most_bytes →
    (k ≡ lent_of n) × (k ≤ most_bytes) →
    r ≡ (script_show e s n).reply
unfolding script_show script_write
shown_by e s n k t l xs r g h p q z y =
    let a : length (take k l) ≡ lent_of n = lent_length k n l z y in
    let b : k ≡ lent_of n = y.0 in
    cc

pub parked_by :
    (e : Engine) (n k : ℕ) (t : Result ℕ Refusal) (l xs : List ℕ) (r : Reply) →
    r ≡ write_reply t n (xs ++ drop k l) →
    t ≡ park_of e (length (take k l)) →
    xs ≡ parked_of e (take k l) →
    l ≡ filled_with 165 →
    length l ≡ most_bytes →
    (k ≡ lent_of n) × (k ≤ most_bytes) →
    r ≡ (script_park e n).reply
unfolding script_park script_write
parked_by e n k t l xs r g h p q z y =
    let a : length (take k l) ≡ lent_of n = lent_length k n l z y in
    let b : k ≡ lent_of n = y.0 in
    cc

pub lent_by :
    (n k at m r w : ℕ) (bytes a b c : List ℕ) →
    k ≡ lent_of n →
    Puts at 21 (number_text w) a b m →
    Puts m (1 + 2 * most_bytes) (bytes_text (take k bytes)) b c r →
    Puts at most_tail (number_text w ++ bytes_text (take (lent_of n) bytes)) a c r
lent_by n k at m r w bytes a b c e p q =
    puts_same at r _ _ _ _ a c (puts_two at m r 21 _ (number_text w) (bytes_text (take k bytes)) a b c p q)
    (ap (λ (i : ℕ). number_text w ++ bytes_text (take i bytes)) e) (omega arith)
