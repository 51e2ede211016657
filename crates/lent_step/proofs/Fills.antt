-- An empty entry filled, from what the two calls ensure.
use Rattle.std.specs.Prelude.{None, Some}
use Rattle.std.proofs.Common.{◌≡◌, ℕ, List, ◌∙◌}
use Rattle.parts.specs.declared.Entry.{Entry}
use Rattle.parts.specs.declared.Reading.{Reading}
use Rattle.cells.specs.Layout.{put_entry}
use Rattle.lent_moves.specs.Moves.{counted}
use Rattle.lent_step.specs.Points.{entry_filled}

pub fills :
    (s t u : List ℕ) (w j : ℕ) (e : Entry) (read : Reading) →
    e.fill ≡ None → t ≡ counted s w → u ≡ put_entry t j (record { fill = Some read }) → u ≡ entry_filled s w j e read
unfolding entry_filled
fills s t u w j e read h k q = q ∙ simp (h, k)
