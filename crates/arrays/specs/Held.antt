-- 15: "park: a lock is held", at the "lowest held lock"
use Rattle.std.specs.Prelude.{ℕ, ◌+◌, List, [], ◌∷◌, Err, Ok}
use Rattle.parts.specs.Pick.{on_option}
use Rattle.parts.specs.declared.LockWord.{LockWord}
use Rattle.parts.specs.declared.Refusal.TheVariants.{Held}
use Rattle.parts.specs.Told.{Told}

-- of the locks from `at` on
unfoldable pub held_told : List LockWord → ℕ → Told
held_told [] at = Ok tt
held_told (l ∷ ls) at = on_option l.holder (held_told ls (at + 1)) (λ s. Err (Held at))
