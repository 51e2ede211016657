-- What setup makes of the fields of its record: words with its guards and values, free locks at its turns.
use Rattle.std.specs.Prelude.{None}
use Prim.Native.Nat.{ℕ, zero, suc, ◌+◌, ◌%◌, ◌≤◌}
use native.Mathlib.Omega.{arith}
use mathlib.Core.Path.{◌≡◌, refl, ◌∙◌, sym, ap}
use mathlib.Core.List.{List, [], ◌∷◌, map}
use lib.ListN.{length, take, replicate, length-map, length-replicate}
use Rattle.arrays.specs.Fresh.{words_from, free_at, guards_of, values_of, turns_of}
use Rattle.parts.specs.Lay.{lay}
use Rattle.parts.specs.Numbers.{most_locks, most_words}
use Rattle.parts.specs.Parts.{word0, lock0}
use Rattle.records.specs.Setup.{locks_field, words_field, guards_field, values_field, turns_field}
use Rattle.engine.specs.State.{locks_of, words_of}
use Rattle.engine.specs.Calls.{fresh_of}
use Rattle.ranges.proofs.Frame.{All, lay_all, replicate_all}
use Rattle.ranges.proofs.Laid.{lay_there}

-- the words that setup makes have its guards and values, and counts 0; the locks have its turns, and are free
pub guards_from : (guards values : List ℕ) → length values ≡ length guards → guards_of (words_from guards values) ≡ guards
unfolding words_from
guards_from [] values h = refl
guards_from (g ∷ guards) [] h = absurd (omega arith)
guards_from (g ∷ guards) (v ∷ values) h = ap (λ (l : List ℕ). g ∷ l) (guards_from guards values (omega arith))

pub values_from : (guards values : List ℕ) → length values ≡ length guards → values_of (words_from guards values) ≡ values
unfolding words_from
values_from [] [] h = refl
values_from [] (v ∷ values) h = absurd (omega arith)
values_from (g ∷ guards) [] h = absurd (omega arith)
values_from (g ∷ guards) (v ∷ values) h = ap (λ (l : List ℕ). v ∷ l) (values_from guards values (omega arith))

pub turns_from : (turns : List ℕ) → turns_of (map free_at turns) ≡ turns
turns_from [] = refl
turns_from (t ∷ turns) = ap (λ (l : List ℕ). t ∷ l) (turns_from turns)

counts_from : (guards values : List ℕ) → All (λ w. w.count ≡ 0) (words_from guards values) word0
unfolding words_from
counts_from [] values k = refl
counts_from (g ∷ guards) [] k = refl
counts_from (g ∷ guards) (v ∷ values) zero = refl
counts_from (g ∷ guards) (v ∷ values) (suc k) = counts_from guards values k

free_from : (turns : List ℕ) → All (λ l. l.holder ≡ None) (map free_at turns) lock0
free_from [] k = refl
free_from (t ∷ turns) zero = refl
free_from (t ∷ turns) (suc k) = free_from turns k

pub from_length : (guards values : List ℕ) → length values ≡ length guards → length (words_from guards values) ≡ length guards
from_length guards values h =
    sym (length-map (words_from guards values) (λ w. w.guard)) ∙ ap length (guards_from guards values h)

-- the words and the locks of the state that setup makes, by the fields of its record
pub fresh_words :
    (rec guards values : List ℕ) → guards_field rec ≡ guards → values_field rec ≡ values → words_field rec ≡ length guards →
    length values ≡ length guards → length guards ≤ most_words → words_of (fresh_of rec) ≡ words_from guards values
unfolding fresh_of
fresh_words rec guards values g v w same most =
    let all = replicate most_words word0 in
    let made = words_from guards values in
    let size = from_length guards values same in
    let n : words_field rec % (most_words + 1) ≡ length made = omega arith in
    ap (λ (x : List ℕ). take (words_field rec % (most_words + 1)) (lay 0 (words_from x (values_field rec)) all)) g ∙
    ap (λ (x : List ℕ). take (words_field rec % (most_words + 1)) (lay 0 (words_from guards x) all)) v ∙
    ap (λ (m : ℕ). take m (lay 0 made all)) n ∙
    lay_there 0 made all (omega (arith, length-replicate most_words word0))

pub fresh_locks :
    (rec turns : List ℕ) → turns_field rec ≡ turns → locks_field rec ≡ length turns → length turns ≤ most_locks →
    locks_of (fresh_of rec) ≡ map free_at turns
unfolding fresh_of
fresh_locks rec turns t l most =
    let all = replicate most_locks lock0 in
    let made = map free_at turns in
    let size = length-map turns free_at in
    let n : locks_field rec % (most_locks + 1) ≡ length made = omega arith in
    ap (λ (x : List ℕ). take (locks_field rec % (most_locks + 1)) (lay 0 (map free_at x) all)) t ∙
    ap (λ (m : ℕ). take m (lay 0 made all)) n ∙ lay_there 0 made all (omega (arith, length-replicate most_locks lock0))

pub fresh_counts : (rec : List ℕ) → All (λ w. w.count ≡ 0) (fresh_of rec).word word0
unfolding fresh_of
fresh_counts rec =
    lay_all (λ w. w.count ≡ 0) 0 _ _ word0 (counts_from (guards_field rec) (values_field rec))
    (replicate_all (λ w. w.count ≡ 0) most_words word0 refl)

pub fresh_free : (rec : List ℕ) → All (λ l. l.holder ≡ None) (fresh_of rec).lock lock0
unfolding fresh_of
fresh_free rec =
    lay_all (λ l. l.holder ≡ None) 0 _ _ lock0 (free_from (turns_field rec))
    (replicate_all (λ l. l.holder ≡ None) most_locks lock0 refl)
