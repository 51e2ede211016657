-- Lists of bytes by fours: what is read of each four, and what is written as four. One set of laws, for instructions and numbers.
use Prim.Native.Nat.{ℕ, suc, ◌+◌, ◌*◌, ◌/◌, ◌%◌, ◌^◌, ◌≤◌, ◌<◌}
use mathlib.Core.Path.{◌≡◌, refl, ◌∙◌, sym, ap}
use mathlib.Core.List.{List, [], ◌∷◌, ◌++◌}
use native.Mathlib.Omega.{arith}
use lib.ListN.{length, get_or, drop}
use Rattle.parts.specs.Parts.{instr0}
use Rattle.parts.specs.declared.Instr.{Instr}
use Rattle.records.specs.Bytes.{u32_of, u32_at, u32s_of, u32s_bytes}
use Rattle.records.specs.Job.{instrs_of, code_bytes, first_instr}

-- what f makes of each four bytes
by_fours : {A : Type 0} → (ℕ → ℕ → ℕ → ℕ → A) → List ℕ → List A
by_fours f [] = []
by_fours f (a ∷ []) = []
by_fours f (a ∷ b ∷ []) = []
by_fours f (a ∷ b ∷ c ∷ []) = []
by_fours f (a ∷ b ∷ c ∷ d ∷ rest) = f a b c d ∷ by_fours f rest

instr_of : ℕ → ℕ → ℕ → ℕ → Instr
instr_of o a b c = record { op = o; a = a; b = b; c = c }

instrs_are : (s : List ℕ) → instrs_of s ≡ by_fours instr_of s
unfolding instrs_of by_fours instr_of
instrs_are [] = refl
instrs_are (a ∷ []) = refl
instrs_are (a ∷ b ∷ []) = refl
instrs_are (a ∷ b ∷ c ∷ []) = refl
instrs_are (a ∷ b ∷ c ∷ d ∷ rest) = ap (λ (l : List Instr). instr_of a b c d ∷ l) (instrs_are rest)

u32s_are : (s : List ℕ) → u32s_of s ≡ by_fours (λ a b c d. u32_of a b c d) s
unfolding u32s_of by_fours
u32s_are [] = refl
u32s_are (a ∷ []) = refl
u32s_are (a ∷ b ∷ []) = refl
u32s_are (a ∷ b ∷ c ∷ []) = refl
u32s_are (a ∷ b ∷ c ∷ d ∷ rest) = ap (λ (l : List ℕ). u32_of a b c d ∷ l) (u32s_are rest)

fours_short : {A : Type 0} (f : ℕ → ℕ → ℕ → ℕ → A) (s : List ℕ) → length s < 4 → by_fours f s ≡ []
unfolding by_fours
fours_short f [] h = refl
fours_short f (a ∷ []) h = refl
fours_short f (a ∷ b ∷ []) h = refl
fours_short f (a ∷ b ∷ c ∷ []) h = refl
fours_short f (a ∷ b ∷ c ∷ d ∷ rest) h = absurd (omega arith)

fours_turn :
    {A : Type 0} (f : ℕ → ℕ → ℕ → ℕ → A) (s : List ℕ) →
    4 ≤ length s →
    by_fours f s ≡ f (get_or s 0 0) (get_or s 1 0) (get_or s 2 0) (get_or s 3 0) ∷ by_fours f (drop 4 s)
unfolding by_fours
fours_turn f [] h = absurd (omega arith)
fours_turn f (a ∷ []) h = absurd (omega arith)
fours_turn f (a ∷ b ∷ []) h = absurd (omega arith)
fours_turn f (a ∷ b ∷ c ∷ []) h = absurd (omega arith)
fours_turn f (a ∷ b ∷ c ∷ d ∷ rest) h = refl

fours_four :
    {A : Type 0} (f : ℕ → ℕ → ℕ → ℕ → A) (s four rest : List ℕ) → s ≡ four ++ rest → length four ≡ 4 →
    by_fours f s ≡ f (get_or four 0 0) (get_or four 1 0) (get_or four 2 0) (get_or four 3 0) ∷ by_fours f rest
unfolding by_fours
fours_four f s [] rest e n = absurd (omega arith)
fours_four f s (a ∷ []) rest e n = absurd (omega arith)
fours_four f s (a ∷ b ∷ []) rest e n = absurd (omega arith)
fours_four f s (a ∷ b ∷ c ∷ []) rest e n = absurd (omega arith)
fours_four f s (a ∷ b ∷ c ∷ d ∷ []) rest e n = ap (by_fours f) e
fours_four f s (a ∷ b ∷ c ∷ d ∷ x ∷ xs) rest e n = absurd (omega arith)

fours_length : {A : Type 0} (f : ℕ → ℕ → ℕ → ℕ → A) (s : List ℕ) → length (by_fours f s) ≡ length s / 4
unfolding by_fours
fours_length f [] = refl
fours_length f (a ∷ []) = omega arith
fours_length f (a ∷ b ∷ []) = omega arith
fours_length f (a ∷ b ∷ c ∷ []) = omega arith
fours_length f (a ∷ b ∷ c ∷ d ∷ rest) = omega (arith, fours_length f rest)

pub instrs_short : (s : List ℕ) → length s < 4 → instrs_of s ≡ []
instrs_short s h = instrs_are s ∙ fours_short instr_of s h

pub instrs_turn : (s : List ℕ) → 4 ≤ length s → instrs_of s ≡ first_instr s ∷ instrs_of (drop 4 s)
unfolding instr_of
instrs_turn s h = instrs_are s ∙ fours_turn instr_of s h ∙ ap (λ (l : List Instr). first_instr s ∷ l) (sym (instrs_are (drop 4 s)))

-- a list that begins with these four bytes, as `chunks_exact` gives them
pub instrs_four : (s four rest : List ℕ) → s ≡ four ++ rest → length four ≡ 4 → instrs_of s ≡ first_instr four ∷ instrs_of rest
unfolding instr_of
instrs_four s four rest e n =
    instrs_are s ∙ fours_four instr_of s four rest e n ∙ ap (λ (l : List Instr). first_instr four ∷ l) (sym (instrs_are rest))

pub instrs_length : (s : List ℕ) → length (instrs_of s) ≡ length s / 4
instrs_length s = ap length (instrs_are s) ∙ fours_length instr_of s

pub u32s_short : (s : List ℕ) → length s < 4 → u32s_of s ≡ []
u32s_short s h = u32s_are s ∙ fours_short _ s h

pub u32s_turn :
    (s : List ℕ) →
    4 ≤ length s →
    u32s_of s ≡ u32_of (get_or s 0 0) (get_or s 1 0) (get_or s 2 0) (get_or s 3 0) ∷ u32s_of (drop 4 s)
u32s_turn s h =
    u32s_are s ∙ fours_turn _ s h ∙
    ap (λ (l : List ℕ). u32_of (get_or s 0 0) (get_or s 1 0) (get_or s 2 0) (get_or s 3 0) ∷ l) (sym (u32s_are (drop 4 s)))

pub u32s_four : (s four rest : List ℕ) → s ≡ four ++ rest → length four ≡ 4 → u32s_of s ≡ u32_at four 0 ∷ u32s_of rest
u32s_four s four rest e n =
    u32s_are s ∙ fours_four _ s four rest e n ∙ ap (λ (l : List ℕ). u32_at four 0 ∷ l) (sym (u32s_are rest))

pub u32s_length : (s : List ℕ) → length (u32s_of s) ≡ length s / 4
u32s_length s = ap length (u32s_are s) ∙ fours_length _ s

-- the four numbers of each element
into_fours : {A : Type 0} → (A → ℕ) → (A → ℕ) → (A → ℕ) → (A → ℕ) → List A → List ℕ
into_fours p q r s [] = []
into_fours p q r s (x ∷ xs) = p x ∷ q x ∷ r x ∷ s x ∷ into_fours p q r s xs

code_are : (is : List Instr) → code_bytes is ≡ into_fours (λ i. i.op) (λ i. i.a) (λ i. i.b) (λ i. i.c) is
unfolding code_bytes into_fours
code_are [] = refl
code_are (i ∷ is) = ap (λ (l : List ℕ). i.op ∷ i.a ∷ i.b ∷ i.c ∷ l) (code_are is)

bytes_are :
    (xs : List ℕ) →
    u32s_bytes xs ≡ into_fours (λ x. x % 256) (λ x. x / 256 % 256) (λ x. x / 65536 % 256) (λ x. x / 16777216 % 256) xs
unfolding u32s_bytes into_fours
bytes_are [] = refl
bytes_are (x ∷ xs) =
    ap (λ (l : List ℕ). x % 256 ∷ x / 256 % 256 ∷ x / 65536 % 256 ∷ x / 16777216 % 256 ∷ l) (bytes_are xs)

module _ {A : Type 0} (f : ℕ → ℕ → ℕ → ℕ → A) (p q r s : A → ℕ) where
  into_length : (xs : List A) → length (into_fours p q r s xs) ≡ 4 * length xs
  unfolding into_fours
  into_length [] = refl
  into_length (x ∷ xs) = omega (arith, into_length xs)

  -- what was written is read
  read_written :
      (xs : List A) (d : A) →
      ((k : ℕ) → f (p (get_or xs k d)) (q (get_or xs k d)) (r (get_or xs k d)) (s (get_or xs k d)) ≡ get_or xs k d) →
      by_fours f (into_fours p q r s xs) ≡ xs
  unfolding by_fours into_fours
  read_written [] d h = refl
  read_written (x ∷ xs) d h =
      let e : f (p x) (q x) (r x) (s x) ≡ x = h 0 in
      let t : by_fours f (into_fours p q r s xs) ≡ xs = read_written xs d (λ k. h (suc k)) in
      cc

  -- what was read is written
  written_read :
      ((a b c d : ℕ) →
      a < 256 →
      b < 256 →
      c < 256 →
      d < 256 →
      (p (f a b c d) ≡ a) × (q (f a b c d) ≡ b) × (r (f a b c d) ≡ c) × (s (f a b c d) ≡ d)) →
      (l : List ℕ) →
      ((k : ℕ) → get_or l k 0 < 256) →
      length l % 4 ≡ 0 →
      into_fours p q r s (by_fours f l) ≡ l
  unfolding by_fours into_fours
  written_read back [] h m = refl
  written_read back (a ∷ []) h m = absurd (omega arith)
  written_read back (a ∷ b ∷ []) h m = absurd (omega arith)
  written_read back (a ∷ b ∷ c ∷ []) h m = absurd (omega arith)
  written_read back (a ∷ b ∷ c ∷ d ∷ rest) h m =
      let e = back a b c d (h 0) (h 1) (h 2) (h 3) in
      let t : into_fours p q r s (by_fours f rest) ≡ rest =
      written_read back rest (λ k. h (suc (suc (suc (suc k))))) (omega arith) in
      cc

pub instrs_of_code : (is : List Instr) → instrs_of (code_bytes is) ≡ is
unfolding instr_of
instrs_of_code is =
    instrs_are (code_bytes is) ∙ ap (λ (l : List ℕ). by_fours instr_of l) (code_are is) ∙
    read_written instr_of (λ i. i.op) (λ i. i.a) (λ i. i.b) (λ i. i.c) is instr0 (λ k. refl)

pub code_of_instrs : (l : List ℕ) → ((k : ℕ) → get_or l k 0 < 256) → length l % 4 ≡ 0 → code_bytes (instrs_of l) ≡ l
unfolding instr_of
code_of_instrs l h m =
    ap code_bytes (instrs_are l) ∙ code_are (by_fours instr_of l) ∙
    written_read instr_of (λ i. i.op) (λ i. i.a) (λ i. i.b) (λ i. i.c) (λ a b c d i j k n. (refl, refl, refl, refl)) l h m

pub code_length : (is : List Instr) → length (code_bytes is) ≡ 4 * length is
code_length is = ap length (code_are is) ∙ into_length instr_of (λ i. i.op) (λ i. i.a) (λ i. i.b) (λ i. i.c) is

pub u32s_of_bytes : (xs : List ℕ) → ((k : ℕ) → get_or xs k 0 < 2 ^ 32) → u32s_of (u32s_bytes xs) ≡ xs
u32s_of_bytes xs h =
    u32s_are (u32s_bytes xs) ∙ ap (λ (l : List ℕ). by_fours (λ a b c d. u32_of a b c d) l) (bytes_are xs) ∙
    read_written _ _ _ _ _ xs 0 (λ k. number (get_or xs k 0) (h k))
  where
    sum :
        (x y z w a b c d : ℕ) → 256 * y + a ≡ x → 256 * z + b ≡ y → 256 * w + c ≡ z → w ≡ d → u32_of a b c d ≡ x
    sum x y z w a b c d e f g h = omega arith

    number : (x : ℕ) → x < 2 ^ 32 → u32_of (x % 256) (x / 256 % 256) (x / 65536 % 256) (x / 16777216 % 256) ≡ x
    number x h =
        let a : x / 256 / 256 ≡ x / 65536 = omega arith in
        let b : x / 65536 / 256 ≡ x / 16777216 = omega arith in
        let c : x / 16777216 < 256 = omega arith in
        sum x (x / 256) (x / 65536) (x / 16777216) _ _ _ _ (omega arith) (omega arith) (omega arith) (omega arith)

pub bytes_of_u32s : (l : List ℕ) → ((k : ℕ) → get_or l k 0 < 256) → length l % 4 ≡ 0 → u32s_bytes (u32s_of l) ≡ l
bytes_of_u32s l h m =
    ap u32s_bytes (u32s_are l) ∙ bytes_are (by_fours (λ a b c d. u32_of a b c d) l) ∙
    written_read _ _ _ _ _ (λ a b c d i j k n. (omega arith, omega arith, omega arith, omega arith)) l h m

pub bytes_length : (xs : List ℕ) → length (u32s_bytes xs) ≡ 4 * length xs
bytes_length xs = ap length (bytes_are xs) ∙ into_length (λ a b c d. u32_of a b c d) _ _ _ _ xs
