-- "Little-endian. Bytes 0 and 1: length of the whole record. Bytes 2 and 3: kind."
use Rattle.std.specs.Prelude.{ℕ, ◌+◌, ◌*◌, ◌/◌, ◌%◌, ◌<◌, Bool, List, [], ◌∷◌, ltb, length, get_or}
use Rattle.parts.specs.Pick.{◌or◌, ◌isnt◌}
use Rattle.parts.specs.Told.{refuse_if}
use Rattle.parts.specs.declared.Refusal.TheVariants.{Length}
use Rattle.parts.specs.Told.{Told}

-- every element is a byte
abbrev pub AllBytes : List ℕ → Type 0
AllBytes s = (k : ℕ) → get_or s k 0 < 256

-- the number of two bytes, and of four
abbrev pub u16_of : ℕ → ℕ → ℕ
u16_of lo hi = lo + 256 * hi

abbrev pub u32_of : ℕ → ℕ → ℕ → ℕ → ℕ
u32_of a b c d = a + 256 * b + 65536 * c + 16777216 * d

-- the number whose first byte is at a place of a list
abbrev pub u32_at : List ℕ → ℕ → ℕ
u32_at s at = u32_of (get_or s at 0) (get_or s (at + 1) 0) (get_or s (at + 2) 0) (get_or s (at + 3) 0)

-- the numbers of a list of bytes, by fours
unfoldable pub u32s_of : List ℕ → List ℕ
u32s_of [] = []
u32s_of (a ∷ []) = []
u32s_of (a ∷ b ∷ []) = []
u32s_of (a ∷ b ∷ c ∷ []) = []
u32s_of (a ∷ b ∷ c ∷ d ∷ rest) = u32_of a b c d ∷ u32s_of rest

-- the four bytes of each number
unfoldable pub u32s_bytes : List ℕ → List ℕ
u32s_bytes [] = []
u32s_bytes (x ∷ xs) = x % 256 ∷ x / 256 % 256 ∷ x / 65536 % 256 ∷ x / 16777216 % 256 ∷ u32s_bytes xs

abbrev pub length_field : List ℕ → ℕ
length_field rec = u16_of (get_or rec 0 0) (get_or rec 1 0)

abbrev pub kind_field : List ℕ → ℕ
kind_field rec = u16_of (get_or rec 2 0) (get_or rec 3 0)

-- a record: its length, its kind, which is below 256, and its body
abbrev pub header : ℕ → ℕ → List ℕ → List ℕ
header size kind body = size % 256 ∷ size / 256 % 256 ∷ kind ∷ 0 ∷ body

-- "5 (fewer than 4 bytes, or length field other than the slice's length)"
abbrev pub wrong_length : List ℕ → Bool
wrong_length rec = ltb (length rec) 4 or length_field rec isnt length rec

abbrev pub length_told : List ℕ → Told
length_told rec = refuse_if (wrong_length rec) Length
