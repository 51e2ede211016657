-- What a turn of each loop over a book or a job's code does, and what is known of what is left of a good book.
use Rattle.std.specs.Prelude.{Err, Ok}
use Prim.Native.Nat.{ℕ, ◌-◌, ◌≤◌}
use mathlib.Core.Bool.{Bool, true, false}
use mathlib.Core.List.{List}
use mathlib.Core.Path.{◌≡◌, ◌∙◌, sym, ap}
use native.Mathlib.Omega.{arith}
use lib.ListN.{length, take, drop}
use borrow.Author.Tests.{ltb-false}
use Rattle.parts.specs.declared.Refusal.{Refusal}
use Rattle.parts.specs.Told.{Told}
use Rattle.parts.proofs.Order.{neither, not_isnt}
use Rattle.records.specs.Bytes.{length_field, kind_field}
use Rattle.book.specs.Formed.{formed_told}
use Rattle.book.specs.Book.{head_bytes, entry_kind, number_field, job_part, bad_head, bad_entry}

-- what a good head tells
pub record Head (low : ℕ) (s : List ℕ) : Type 0 where
  pub six : head_bytes ≤ length s
  pub size : head_bytes ≤ length_field s
  pub whole : length_field s ≤ length s
  pub kind : kind_field s ≡ entry_kind
  pub number : low ≤ number_field s

pub head_good : (low : ℕ) (s : List ℕ) → bad_head low s ≡ false → Head low s
head_good low s h =
    let a = neither _ _ h in
    let b = neither _ _ a.1 in
    let c = neither _ _ b.1 in
    let d = neither _ _ c.1 in
    record {
      six = ltb-false (length s) head_bytes a.0;
      size = ltb-false (length_field s) head_bytes b.0;
      whole = ltb-false (length s) (length_field s) c.0;
      kind = not_isnt (kind_field s) entry_kind d.0;
      number = ltb-false (number_field s) low d.1;
    }

-- an entry by its head, and then its job
module _ (low : ℕ) (s : List ℕ) (b : Bool) (e : b ≡ bad_head low s) where
  pub entry_head : b ≡ true → true ≡ bad_entry low s
  unfolding bad_entry
  entry_head h = simp (← e, h)

  module _ (h : b ≡ false) where
    head_by : Head low s
    head_by = head_good low s (sym e ∙ h)

    pub head_two : 2 ≤ length s
    head_two = omega (arith, head_by.six)

    module _ (size : ℕ) (q : size ≡ length_field s) where
      pub head_starts : head_bytes ≤ size
      head_starts = omega (arith, head_by.size)

      pub head_ends : size ≤ length s
      head_ends = omega (arith, head_by.whole)

      module _ (t : Told) (z : t ≡ formed_told (take (size - head_bytes) (drop head_bytes s))) where
        told_is : t ≡ formed_told (job_part s)
        told_is = z ∙ ap (λ (n : ℕ). formed_told (take (n - head_bytes) (drop head_bytes s))) q

        pub entry_fine : t ≡ Ok tt → false ≡ bad_entry low s
        unfolding bad_entry
        entry_fine y = let w = sym told_is ∙ y in simp (← e, h, w)

        pub entry_bad : (r : Refusal) → t ≡ Err r → true ≡ bad_entry low s
        unfolding bad_entry
        entry_bad r y = let w = sym told_is ∙ y in simp (← e, h, w)

pub ruleset parts = (head_two, head_starts, head_ends)
