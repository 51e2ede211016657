-- One turn of each of the two loops, and their ends.
use Rattle.std.proofs.Common.{◌≡◌, ℕ, zero, suc, ◌+◌, ◌-◌, ◌<◌, ◌≤◌, List, length, get_or, drop, drop_of_length-le, add-one, sym, ap, ◌∙◌, arith}
use lib.Seq.{drop-cons}
use Rattle.engine.specs.Calls.{begin_of, step_of}
use Rattle.engine.specs.declared.Engine.{Engine}
use Rattle.parts.specs.Told.{Told}
use Rattle.by_value.specs.Timed.{begun_from, counted_of, accepted_from}

pub begun_turn :
    (goal e next : Engine) (job : List ℕ) (n w : ℕ) → goal ≡ begun_from (n - w) e job w → w < n → next ≡ (begin_of e w 0 job).engine →
    goal ≡ begun_from (n - (w + 1)) next job (w + 1)
unfolding begun_from
begun_turn goal e next job n w g h q =
    let p : n - w ≡ suc (n - (w + 1)) = omega arith in
    g ∙ ap (λ (m : ℕ). begun_from m e job w) p ∙ simp q

pub begun_end : (goal e : Engine) (job : List ℕ) (n w : ℕ) → goal ≡ begun_from (n - w) e job w → n ≤ w → e ≡ goal
unfolding begun_from
begun_end goal e job n w g h = let p : n - w ≡ zero = omega arith in sym (g ∙ ap (λ (m : ℕ). begun_from m e job w) p)

pub accepted_turn :
    (goal : ℕ) (e next : Engine) (order : List ℕ) (i w n m : ℕ) (t : Told) → goal ≡ accepted_from e (drop i order) n →
    i < length order → w ≡ get_or order i 0 → next ≡ (step_of e w).engine → t ≡ (step_of e w).told → m ≡ counted_of t n →
    goal ≡ accepted_from next (drop (i + 1) order) m
unfolding accepted_from
accepted_turn goal e next order i w n m t g h q o s c = g ∙ simp (drop-cons order i 0 h, add-one i, c, o, s, q)

pub accepted_end :
    (goal : ℕ) (e : Engine) (order : List ℕ) (i n : ℕ) → goal ≡ accepted_from e (drop i order) n → length order ≤ i → n ≡ goal
unfolding accepted_from
accepted_end goal e order i n g h = sym (g ∙ simp (drop_of_length-le order h))
