-- What the library's methods tell of a word or a line, as the definitions say it, and what a word that is read picks.
use Rattle.std.proofs.Common.{◌≡◌, ℕ, zero, suc, ◌+◌, ◌*◌, ◌/◌, ◌^◌, ◌≤◌, ◌<◌, min, Bool, true, false, List, [], ◌∷◌, ◌++◌, Option, Some, None, refl, ◌∙◌, sym, ap, arith, length, get_or, set, take, take-suc-set, eqb, leb, nat_eq, is_some, eq-eqb, ne_eqb}
use borrow.Author.Tests.{leb-true, leb-false}
use Rattle.std.proofs.Math.Seq.{take-suc, take_all}
use Rattle.std.proofs.Common.{add-one, ◌&&◌}
use Rattle.std.proofs.lemmas.Bool.Decides.{nat_tests}
use Rattle.std.proofs.lemmas.Grind.{common_steps}
use Rattle.std.specs.Int.{IsInRange}
use Rattle.std.specs.Bool.{MatchBool}
use Rattle.std.specs.Char.{digit_value}
use Rattle.std.specs.List.{AllWithin, HoldsAt}
use Rattle.std.specs.Option.{SomeIff, MatchOption, unwrap_or}
use Rattle.std.specs.Cmp.Lexicographic.{pointwise}
use Rattle.std.proofs.lemmas.Iterator.{index_from_first}
use Rattle.std.proofs.lemmas.Str.{digit_value_digit}
use Rattle.std.proofs.lemmas.Str.Parse.{digit_from_value}
use Rattle.parts.specs.Pick.{pick}
use Rattle.text.specs.Text.{most_bytes}
use Rattle.script.specs.Line.{first_at, on_some, with_digit, number_of, hex_digit, all_hex, same_of, is_record, hex_byte, hex_bytes, record_in}

-- the first place of x
pub first_found :
    (x : ℕ) (s : List ℕ) (r : Option ℕ) →
    MatchOption r (AllWithin (λ b. b ≡ x → ⊥) s 0 (length s)) (λ i. (i < length s) × HoldsAt (λ b. b ≡ x) s i × AllWithin (λ b. b ≡ x → ⊥) s 0 i) →
    first_at x s ≡ unwrap_or r (length s)
unfolding first_at
first_found x s r h =
    index_from_first (first_at x) (λ b. b ≡ x) (λ b. b ≡ x → ⊥) refl (λ b l e. simp (eq-eqb b x e)) (λ b l e. simp (ne_eqb b x e) (omega arith)) s r h

-- what a digit stands for, by what `to_digit` tells
pub hex_by : (r : Option ℕ) (k b : ℕ) → SomeIff r (digit_value k < 16) (digit_value k) → k ≡ b → r ≡ hex_digit b
unfolding hex_digit
hex_by None k b h e = grind (arith, nat_tests)
hex_by (Some d) k b (h, g) e = grind (arith, nat_tests)

pub digit_within : (b : ℕ) → unwrap_or (hex_digit b) 0 < 16
unfolding hex_digit
digit_within b = grind (arith, common_steps)

-- the digit b after the number n: no digit, too large, and the number
in_decimal : (d k b : ℕ) → digit_value k < 10 → d ≡ digit_value k → k ≡ b → (48 ≤ b) × (b ≤ 57) × (d + 48 ≡ b)
in_decimal d k b h e g =
    let r : IsInRange 48 57 k = digit_from_value k h in
    let q : digit_value k + 48 ≡ k = digit_value_digit k r in
    (omega arith, omega arith, omega arith)

pub digit_none : (q : Option ℕ) (k b n : ℕ) → SomeIff q (digit_value k < 10) (digit_value k) → k ≡ b → q ≡ None → None ≡ with_digit n b
unfolding with_digit
digit_none None k b n h e i = grind (arith, nat_tests)
digit_none (Some d) k b n h e i = absurd (cc)

pub digit_large :
    (m : Option ℕ) (d k b n : ℕ) →
    (digit_value k < 10) × (d ≡ digit_value k) →
    k ≡ b →
    SomeIff m (n * 10 < 2 ^ 32) (n * 10) →
    m ≡ None →
    None ≡ with_digit n b
unfolding with_digit
digit_large None d k b n (h, f) e g l =
    let (o, a, c) = in_decimal d k b h f e in
    grind (arith, nat_tests)
digit_large (Some m) d k b n h e g l = absurd (cc)

pub digit_added :
    (q m r : Option ℕ) (d k b n t : ℕ) →
    SomeIff q (digit_value k < 10) (digit_value k) →
    k ≡ b →
    q ≡ Some d →
    SomeIff m (n * 10 < 2 ^ 32) (n * 10) →
    m ≡ Some t →
    SomeIff r (t + d < 2 ^ 32) (t + d) →
    r ≡ with_digit n b
unfolding with_digit
digit_added (Some d) (Some m) (Some r) u k b n t (h, f) e i (g, w) l (p, v) =
    let x : d ≡ u = cc in
    let y : m ≡ t = cc in
    grind (arith, nat_tests)
digit_added (Some d) (Some m) None u k b n t (h, f) e i (g, w) l p =
    let x : d ≡ u = cc in
    let y : m ≡ t = cc in
    grind (arith, nat_tests)
digit_added None m r u k b n t h e i g l p = absurd (cc)
digit_added q None r u k b n t h e i g l p = absurd (cc)

-- every byte is a hexadecimal digit
pub hex_all :
    (r : Bool) (s : List ℕ) →
    MatchBool r (AllWithin (λ b. is_some (hex_digit b) ≡ true) s 0 (length s)) ((k : ℕ) × (k < length s) × HoldsAt (λ b. is_some (hex_digit b) ≡ false) s k) →
    r ≡ all_hex s
unfolding all_hex
hex_all true s h = go s h
  where
    go : (s : List ℕ) → AllWithin (λ b. is_some (hex_digit b) ≡ true) s 0 (length s) → true ≡ all_hex s
    go [] h = refl
    go (b ∷ l) h =
        let q : is_some (hex_digit b) ≡ true = h 0 0 (omega arith) (omega arith) in
        simp q (go l (λ k d i j. h (suc k) d (omega arith) (omega arith)))
hex_all false s (k, i, n) = go s k i n
  where
    go : (s : List ℕ) (k : ℕ) → k < length s → HoldsAt (λ b. is_some (hex_digit b) ≡ false) s k → false ≡ all_hex s
    go [] k i n = absurd (omega arith)
    go (b ∷ l) zero i n = let q : is_some (hex_digit b) ≡ false = n 0 in simp q
    go (b ∷ l) (suc k) i n = on (is_some (hex_digit b)) (go l k (omega arith) n)
      where
        on : (q : Bool) → false ≡ all_hex l → false ≡ pick q (all_hex l) false
        on true e = e
        on false e = refl

-- two words are the same, as `==` tells
same_pointwise : (l m : List ℕ) → same_of l m ≡ pointwise nat_eq l m
unfolding same_of
same_pointwise [] [] = refl
same_pointwise [] (b ∷ m) = refl
same_pointwise (a ∷ l) [] = refl
same_pointwise (a ∷ l) (b ∷ m) = go (eqb a b) (same_pointwise l m)
  where
    go : (q : Bool) → same_of l m ≡ pointwise nat_eq l m → pick q (same_of l m) false ≡ (q && pointwise nat_eq l m)
    go true e = e
    go false e = refl

pub same_is : {A : Type 0} (q : Bool) (l m : List ℕ) (x y z : A) → q ≡ pointwise nat_eq l m → q ≡ true → x ≡ y → x ≡ pick (same_of l m) y z
same_is q l m x y z e h g = simp (same_pointwise l m ∙ sym e ∙ h) g

pub same_not : {A : Type 0} (q : Bool) (l m : List ℕ) (x y z : A) → q ≡ pointwise nat_eq l m → q ≡ false → x ≡ z → x ≡ pick (same_of l m) y z
same_not q l m x y z e h g = simp (same_pointwise l m ∙ sym e ∙ h) g

-- what an optional value q picks, and what a number or a record that a word was read as picks: q is what was read of l, which is m
pub some_is : {A B : Type 0} (q t : Option A) (v : A) (x b : B) (f : A → B) → q ≡ t → q ≡ Some v → x ≡ f v → x ≡ on_some t f b
some_is q t v x b f e i g = simp (sym e ∙ i) g

pub some_not : {A B : Type 0} (q t : Option A) (x b : B) (f : A → B) → q ≡ t → q ≡ None → x ≡ b → x ≡ on_some t f b
some_not q t x b f e i g = simp (sym e ∙ i) g

pub number_is :
    {B : Type 0} (l m : List ℕ) (q : Option ℕ) (v : ℕ) (x b : B) (f : ℕ → B) → q ≡ number_of l → l ≡ m → q ≡ Some v → x ≡ f v → x ≡ on_some (number_of m) f b
number_is l m q v x b f e k i g = some_is q (number_of m) v x b f (e ∙ ap number_of k) i g

pub number_not :
    {B : Type 0} (l m : List ℕ) (q : Option ℕ) (x b : B) (f : ℕ → B) → q ≡ number_of l → l ≡ m → q ≡ None → x ≡ b → x ≡ on_some (number_of m) f b
number_not l m q x b f e k i g = some_not q (number_of m) x b f (e ∙ ap number_of k) i g

pub record_is :
    {A : Type 0} (l m : List ℕ) (q : Bool) (x y z : A) → q ≡ is_record l → l ≡ m → q ≡ true → x ≡ y → x ≡ pick (is_record m) y z
record_is l m q x y z e k i g = simp (ap is_record (sym k) ∙ sym e ∙ i) g

pub record_not :
    {A : Type 0} (l m : List ℕ) (q : Bool) (x y z : A) → q ≡ is_record l → l ≡ m → q ≡ false → x ≡ z → x ≡ pick (is_record m) y z
record_not l m q x y z e k i g = simp (ap is_record (sym k) ∙ sym e ∙ i) g

-- the bytes of a word
hex_length : (l : List ℕ) → length (hex_bytes l) ≡ length l / 2
unfolding hex_bytes
hex_length [] = refl
hex_length (a ∷ []) = refl
hex_length (a ∷ b ∷ l) = let q : length (hex_bytes l) ≡ length l / 2 = hex_length l in omega arith

hex_at : (l : List ℕ) (j : ℕ) → j < length l / 2 → get_or (hex_bytes l) j 0 ≡ hex_byte (get_or l (2 * j) 0) (get_or l (2 * j + 1) 0)
unfolding hex_bytes
hex_at [] j h = absurd (omega arith)
hex_at (a ∷ []) j h = absurd (omega arith)
hex_at (a ∷ b ∷ l) zero h = refl
hex_at (a ∷ b ∷ l) (suc j) h =
    let q : 2 * suc j ≡ suc (suc (2 * j)) = omega arith in
    let k : suc (suc (2 * j)) + 1 ≡ suc (suc (2 * j + 1)) = omega arith in
    let g : get_or (hex_bytes l) j 0 ≡ hex_byte (get_or l (2 * j) 0) (get_or l (2 * j + 1) 0) = hex_at l j (omega arith) in
    simp (q, k) g

-- one more byte of a record, and its end
pub record_turn :
    (word bytes : List ℕ) (n j v : ℕ) →
    take j bytes ≡ take j (hex_bytes word) →
    n ≡ min (length word / 2) most_bytes →
    j < n →
    length bytes ≡ most_bytes →
    v ≡ hex_byte (get_or word (2 * j) 0) (get_or word (2 * j + 1) 0) →
    take (j + 1) (set bytes j v) ≡ take (j + 1) (hex_bytes word)
record_turn word bytes n j v g e h k q =
    let b : j < length bytes = omega arith in
    let w : j < length word / 2 = omega arith in
    let z : j < length (hex_bytes word) = omega (arith, hex_length word) in
    ap (λ (i : ℕ). take i (set bytes j v)) (add-one j) ∙ take-suc-set bytes j v b ∙
    ap (λ (l : List ℕ). l ++ (v ∷ [])) g ∙
    ap (λ (i : ℕ). take j (hex_bytes word) ++ (i ∷ [])) (q ∙ sym (hex_at word j w)) ∙
    sym (take-suc (hex_bytes word) j 0 z) ∙
    ap (λ (i : ℕ). take i (hex_bytes word)) (sym (add-one j))

pub record_end :
    (word bytes : List ℕ) (n j : ℕ) →
    take j bytes ≡ take j (hex_bytes word) →
    n ≡ min (length word / 2) most_bytes →
    j ≤ n →
    n ≤ j →
    take n bytes ≡ record_in word
record_end word bytes n j g e h k =
    let s : n ≡ j = omega arith in
    let q : take j (hex_bytes word) ≡ take most_bytes (hex_bytes word) = go (leb (length word / 2) most_bytes) refl in
    ap (λ (i : ℕ). take i bytes) s ∙ g ∙ q
  where
    go : (b : Bool) → leb (length word / 2) most_bytes ≡ b → take j (hex_bytes word) ≡ take most_bytes (hex_bytes word)
    go true q =
        let f : length word / 2 ≤ most_bytes = leb-true _ _ q in
        let a : length (hex_bytes word) ≤ j = omega (arith, hex_length word) in
        let b : length (hex_bytes word) ≤ most_bytes = omega (arith, hex_length word) in
        take_all j (hex_bytes word) a ∙ sym (take_all most_bytes (hex_bytes word) b)
    go false q =
        let f : most_bytes < length word / 2 = leb-false _ _ q in
        let a : j ≡ most_bytes = omega arith in ap (λ (i : ℕ). take i (hex_bytes word)) a

pub ruleset reading = (same_is, same_not, number_is, number_not, record_is, record_not, some_is, some_not)
