-- What setup makes of the lent numbers, and of the state that they say.
use Prim.Native.Nat.{ℕ, ◌+◌, ◌*◌, ◌-◌}
use mathlib.Core.List.{List, map}
use mathlib.Core.Path.{◌≡◌, refl, ◌∙◌, ap}
use lib.ListN.{length, take, drop}
use Rattle.arrays.specs.Fresh.{words_from, free_at}
use Rattle.records.specs.Bytes.{u32s_of}
use Rattle.records.specs.Setup.{locks_field, words_field}
use Rattle.engine.specs.Calls.{fresh_of}
use Rattle.engine.specs.State.{blank_of}
use Rattle.engine.proofs.Record.{words_part, locks_part}
use Rattle.engine.specs.declared.Engine.{Engine}
use Rattle.cells.specs.Layout.{word_part, lock_part, unpack, put_sizes}
use Rattle.cells.specs.State.{with_sizes}
use Rattle.lent_in.specs.Calls.{filled_numbers, filled_of}
use Rattle.lent_in.specs.Laid.{put_all, lay_words, lay_locks, Laid}

-- the pieces that were laid, by another name
laid_as :
    {A : Type 0} (p : _) (over : Engine → ℕ → List A → Engine) (s t : List ℕ) (i : ℕ) (xs ys : List A) →
    xs ≡ ys →
    Laid p over s t i xs →
    Laid p over s t i ys
laid_as p over s t i xs ys e l = (l.0 ∙ ap (put_all p s i) e, l.1 ∙ ap (over (unpack s) i) e)

-- L and W, the words and the locks were written
pub filled_by_lem :
    (s t u v rec : List ℕ) (n : ℕ) →
    n ≡ words_field rec →
    (t ≡ put_sizes s (locks_field rec) (words_field rec)) × (unpack t ≡ with_sizes (unpack s) (locks_field rec) (words_field rec)) →
    Laid word_part lay_words t u 0 (words_from (take (6 + n - 6) (drop 6 rec)) (u32s_of (take (6 + 5 * n - (6 + n)) (drop (6 + n) rec)))) →
    Laid lock_part lay_locks u v 0 (map free_at (u32s_of (take (length rec - (6 + 5 * n)) (drop (6 + 5 * n) rec)))) →
    (v ≡ filled_numbers s rec) × (unpack v ≡ filled_of (unpack s) rec)
unfolding filled_numbers filled_of
filled_by_lem s t u v rec n b h w k =
    let x = laid_as word_part lay_words t u 0 _ _ (words_part rec n b) w in
    let y = laid_as lock_part lay_locks u v 0 _ _ (locks_part rec n b) k in (
      y.0 ∙ simp (x.0, h.0),
      y.1 ∙ simp (x.1, h.1),
    )

-- what was written over the blank state is the fresh one
pub fresh_is : (rec : List ℕ) → filled_of blank_of rec ≡ fresh_of rec
unfolding filled_of fresh_of blank_of
fresh_is rec = refl
