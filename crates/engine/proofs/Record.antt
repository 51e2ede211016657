-- What setup reads: the parts of the record that the code takes are its fields.
use Prim.Native.Nat.{ℕ, ◌+◌, ◌*◌, ◌-◌}
use mathlib.Core.Path.{◌≡◌}
use mathlib.Core.List.{List, map}
use native.Mathlib.Omega.{arith}
use lib.ListN.{length, take, drop}
use Rattle.arrays.specs.Fresh.{words_from, free_at}
use Rattle.records.specs.Bytes.{u32s_of}
use Rattle.records.specs.Setup.{words_field, guards_field, values_field, turns_field}
use Rattle.records.proofs.Laws.{part_end}

-- the words: guards from byte 6 on, values past them
pub words_part :
    (rec : List ℕ) (n : ℕ) →
    n ≡ words_field rec →
    words_from (take (6 + n - 6) (drop 6 rec)) (u32s_of (take (6 + 5 * n - (6 + n)) (drop (6 + n) rec))) ≡
    words_from (guards_field rec) (values_field rec)
words_part rec n e =
    let w = words_field rec in
    let a : 6 + w - 6 ≡ w = omega arith in
    let b : 6 + 5 * w - (6 + w) ≡ 4 * w = omega arith in
    simp (e, a, b)

-- the locks: turns past the values
pub locks_part :
    (rec : List ℕ) (n : ℕ) →
    n ≡ words_field rec →
    map free_at (u32s_of (take (length rec - (6 + 5 * n)) (drop (6 + 5 * n) rec))) ≡ map free_at (turns_field rec)
locks_part rec n e = simp (e, part_end (6 + 5 * words_field rec) rec)
