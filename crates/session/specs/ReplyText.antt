-- What is written of a call: one line, `LINE refusal place ...` in decimal with single spaces.
mod Names
use Names.*
use Rattle.text.specs.Text.{newline, space, most_bytes, decimal_of, number_text, three_text, bytes_text, told_text, holder_text}

-- N at most 512
abbrev pub lent_of : ℕ → ℕ
lent_of n = min n most_bytes

-- the most bytes of a tail, and of a line
abbrev pub most_tail : ℕ
most_tail = 22 + 2 * most_bytes

abbrev pub most_reply : ℕ
most_reply = 63 + most_tail

-- what is told after the refusal and its place. Of show and park: how many were written, and all N bytes
unfoldable pub tail_text : Tail → List ℕ → List ℕ
tail_text Nothing bytes = []
tail_text (Steps n) bytes = number_text n
tail_text (Answer x n filled) bytes = three_text x n filled
tail_text (Word value count guard) bytes = three_text value count guard
tail_text (Lock turn h) bytes = number_text turn ++ holder_text h
tail_text (Bytes written n) bytes = number_text written ++ bytes_text (take (lent_of n) bytes)

abbrev pub question_mark : ℕ
question_mark = 63

-- the line of a call, and of a line that isn't of this form: `LINE ?`
unfoldable pub reply_text : ℕ → Told → Tail → List ℕ → List ℕ
reply_text line told tail bytes = (decimal_of line ++ told_text told) ++ (tail_text tail bytes ++ (newline ∷ []))

unfoldable pub bad_text : ℕ → List ℕ
bad_text line = decimal_of line ++ (space ∷ question_mark ∷ newline ∷ [])
