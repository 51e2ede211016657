-- What is written: numbers in decimal, bytes in hexadecimal, and what a call told; and what it is to put a text into a buffer.
mod Names
use Names.*
use Rattle.parts.specs.Lay.{lay}
use Rattle.parts.specs.Pick.{pick, on_option}
use Rattle.parts.specs.Told.{on_told, refusal_number, refusal_place}

-- in ASCII: a newline, a space and `-`
abbrev pub newline : ℕ
newline = 10

abbrev pub space : ℕ
space = 32

abbrev pub dash : ℕ
dash = 45

-- no more than 512 bytes are put at once
abbrev pub most_bytes : ℕ
most_bytes = 512

-- what a writer does that puts a text of at most k bytes into a buffer from place `at` on: the place after it, and the buffer
pub record Puts (at k : ℕ) (text old new : List ℕ) (next : ℕ) : Type 0 where
  pub place : next ≡ at + length text
  pub within : next ≤ at + k
  pub laid : new ≡ lay at text old

-- the decimal digits of n, the most significant first; at most `places` of them. A number of 64 bits has at most 20
unfoldable pub decimal_from : ℕ → ℕ → List ℕ
decimal_from zero n = []
decimal_from (suc places) n = pick (ltb n 10) ((48 + n % 10) ∷ []) (decimal_from places (n / 10) ++ ((48 + n % 10) ∷ []))

abbrev pub decimal_of : ℕ → List ℕ
decimal_of n = decimal_from 20 n

-- a space and a number; two
unfoldable pub number_text : ℕ → List ℕ
number_text n = space ∷ decimal_of n

unfoldable pub pair_text : ℕ → ℕ → List ℕ
pair_text m n = number_text m ++ number_text n

unfoldable pub three_text : ℕ → ℕ → ℕ → List ℕ
three_text l m n = pair_text l m ++ number_text n

-- bytes in lower-case hex (`-` for none)
unfoldable pub glyph_of : ℕ → ℕ
glyph_of d = pick (ltb d 10) (48 + d) (87 + d)

unfoldable pub hex_text : List ℕ → List ℕ
hex_text [] = []
hex_text (b ∷ l) = glyph_of (b / 16) ∷ glyph_of (b % 16) ∷ hex_text l

unfoldable pub bytes_text : List ℕ → List ℕ
bytes_text l = space ∷ pick (eqb (length l) 0) (dash ∷ []) (hex_text l)

-- a refusal's number and place; accepted is `0 0`
unfoldable pub refusal_text : Refusal → List ℕ
refusal_text r = pair_text (refusal_number r) (refusal_place r)

unfoldable pub told_text : Told → List ℕ
told_text told = on_told told (pair_text 0 0) (λ r. refusal_text r)

-- the holding sheet or `-`
unfoldable pub holder_text : Option ℕ → List ℕ
holder_text h = on_option h (space ∷ dash ∷ []) (λ s. number_text s)
