-- What a line of the script is: words separated by single spaces, of which the first names the call.
mod Names
use Names.*
use Rattle.parts.specs.Pick.{pick}
use Rattle.text.specs.Text.{space, dash, most_bytes}

-- `#`, in ASCII
abbrev pub hash : ℕ
hash = 35

-- the first place of x; past the end where it is not there
unfoldable pub first_at : ℕ → List ℕ → ℕ
first_at x [] = 0
first_at x (b ∷ l) = pick (eqb b x) 0 (1 + first_at x l)

-- the place after the first x; the end where it is not there
unfoldable pub past_of : ℕ → List ℕ → ℕ
past_of x l = min (first_at x l + 1) (length l)

-- Lines end with a newline, the last one perhaps without. Words are separated by single spaces: what comes before the first x,
-- and what comes after it
unfoldable pub before_of : ℕ → List ℕ → List ℕ
before_of x l = take (first_at x l) l

unfoldable pub after_of : ℕ → List ℕ → List ℕ
after_of x l = drop (past_of x l) l

abbrev pub first_word : List ℕ → List ℕ
first_word l = before_of space l

abbrev pub after_word : List ℕ → List ℕ
after_word l = after_of space l

-- by the case
abbrev pub on_some : {A B : Type 0} → Option A → (A → B) → B → B
on_some (Some x) f b = f x
on_some None f b = b

-- the decimal digit b after the number n; at most 4294967295
unfoldable pub with_digit : ℕ → ℕ → Option ℕ
with_digit n b =
    pick (ltb b 48) None
    (pick (ltb 57 b) None (pick (ltb 4294967295 (n * 10 + b - 48)) None (Some (n * 10 + b - 48))))

-- the number n with the digits of a word after it
unfoldable pub digits_from : ℕ → List ℕ → Option ℕ
digits_from n [] = Some n
digits_from n (b ∷ l) = on_some (with_digit n b) (λ m. digits_from m l) None

-- a number is one to ten decimal digits, at most 4294967295
unfoldable pub number_of : List ℕ → Option ℕ
number_of l = pick (ltb (length l) 1) None (pick (ltb 10 (length l)) None (digits_from 0 l))

-- two words that are numbers, and no more
unfoldable pub pair_of : List ℕ → Option (ℕ × ℕ)
pair_of l =
    on_some (number_of (first_word l)) (λ m. on_some (number_of (after_word l)) (λ n. Some (m, n)) None) None

-- hexadecimal in either case: what a digit stands for; any other byte is none
unfoldable pub hex_digit : ℕ → Option ℕ
hex_digit b =
    pick (ltb b 48) None
    (pick (ltb b 58) (Some (b - 48))
    (pick (ltb b 65) None
    (pick (ltb b 71) (Some (b - 55))
    (pick (ltb b 97) None
    (pick (ltb b 103) (Some (b - 87)) None)))))

unfoldable pub all_hex : List ℕ → Bool
all_hex [] = true
all_hex (b ∷ l) = pick (is_some (hex_digit b)) (all_hex l) false

-- two lists of bytes are the same
unfoldable pub same_of : List ℕ → List ℕ → Bool
same_of [] [] = true
same_of [] (b ∷ m) = false
same_of (a ∷ l) [] = false
same_of (a ∷ l) (b ∷ m) = pick (eqb a b) (same_of l m) false

-- two digits a byte, 1 to 512 bytes, and `-` for none
unfoldable pub is_record : List ℕ → Bool
is_record l =
    pick (same_of l (dash ∷ [])) true
    (pick (ltb (length l) 2) false
    (pick (ltb (2 * most_bytes) (length l)) false (pick (eqb (length l % 2) 0) (all_hex l) false)))

-- the bytes of a word, two digits a byte. `-` has no two digits, and is no byte. What is no digit counts as 0
unfoldable pub hex_byte : ℕ → ℕ → ℕ
hex_byte high low = unwrap_or (hex_digit high) 0 * 16 + unwrap_or (hex_digit low) 0

unfoldable pub hex_bytes : List ℕ → List ℕ
hex_bytes [] = []
hex_bytes (a ∷ []) = []
hex_bytes (a ∷ b ∷ l) = hex_byte a b ∷ hex_bytes l

abbrev pub record_in : List ℕ → List ℕ
record_in l = take most_bytes (hex_bytes l)

-- the words that name a call, in ASCII: those with one number after them, and all
unfoldable pub one_verb : List ℕ → Option Verb
one_verb l =
    pick (same_of l (99 ∷ 111 ∷ 108 ∷ 108 ∷ 101 ∷ 99 ∷ 116 ∷ [])) (Some Collect)
    (pick (same_of l (100 ∷ 114 ∷ 111 ∷ 112 ∷ [])) (Some Drop)
    (pick (same_of l (119 ∷ 111 ∷ 114 ∷ 100 ∷ [])) (Some Word)
    (pick (same_of l (108 ∷ 111 ∷ 99 ∷ 107 ∷ [])) (Some Lock)
    (pick (same_of l (112 ∷ 97 ∷ 114 ∷ 107 ∷ [])) (Some Park)
    None))))

unfoldable pub verb_of : List ℕ → Option Verb
verb_of l =
    pick (same_of l (115 ∷ 101 ∷ 116 ∷ 117 ∷ 112 ∷ [])) (Some Setup)
    (pick (same_of l (98 ∷ 101 ∷ 103 ∷ 105 ∷ 110 ∷ [])) (Some Begin)
    (pick (same_of l (115 ∷ 116 ∷ 101 ∷ 112 ∷ [])) (Some Step)
    (pick (same_of l (115 ∷ 104 ∷ 111 ∷ 119 ∷ [])) (Some Show)
    (one_verb l))))

-- `setup HEX`, of the words after the first
unfoldable pub setup_line : List ℕ → Option Call
setup_line l = pick (is_record l) (Some Call.Setup) None

-- `begin W L HEX`: from the lock on, and all
unfoldable pub lock_line : ℕ → List ℕ → Option Call
lock_line w l = on_some (number_of (first_word l)) (λ k. pick (is_record (after_word l)) (Some (Call.Begin w k)) None) None

unfoldable pub begin_line : List ℕ → Option Call
begin_line l = on_some (number_of (first_word l)) (λ w. lock_line w (after_word l)) None

-- `step W` or `step W N`; 1 if not given
unfoldable pub step_line : List ℕ → Option Call
step_line l =
    on_some (number_of l) (λ w. Some (Call.Step w 1)) (on_some (pair_of l) (λ p. Some (Call.Step p.0 p.1)) None)

-- `show S N`; N at most 512
unfoldable pub show_line : List ℕ → Option Call
show_line l = on_some (pair_of l) (λ p. pick (ltb most_bytes p.1) None (Some (Call.Show p.0 p.1))) None

-- `collect W`, `drop W`, `word I`, `lock I` and `park N`, N at most 512
unfoldable pub park_line : ℕ → Option Call
park_line n = pick (ltb most_bytes n) None (Some (Call.Park n))

unfoldable pub one_number : Verb → ℕ → Option Call
one_number Setup n = None
one_number Begin n = None
one_number Step n = None
one_number Collect n = Some (Call.Collect n)
one_number Drop n = Some (Call.Drop n)
one_number Word n = Some (Call.Word n)
one_number Lock n = Some (Call.Lock n)
one_number Show n = None
one_number Park n = park_line n

unfoldable pub one_line : Verb → List ℕ → Option Call
one_line verb l = on_some (number_of l) (λ n. one_number verb n) None

-- the call that a line's first word names, with the words after it
unfoldable pub call_of : Verb → List ℕ → Option Call
call_of Setup l = setup_line l
call_of Begin l = begin_line l
call_of Step l = step_line l
call_of Collect l = one_line Collect l
call_of Drop l = one_line Drop l
call_of Word l = one_line Word l
call_of Lock l = one_line Lock l
call_of Show l = show_line l
call_of Park l = one_line Park l

-- the call that a line names with all its words
unfoldable pub named_call : List ℕ → Option Call
named_call l = on_some (verb_of (first_word l)) (λ verb. call_of verb (after_word l)) None

-- a line that starts with `#` or is empty is passed over
unfoldable pub line_of : List ℕ → Line
line_of l =
    pick (eqb (length l) 0) Passed (pick (eqb (get_or l 0 0) hash) Passed (on_some (named_call l) (λ call. Makes call) Bad))
