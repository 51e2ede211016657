-- What the writers put: a text after another, the digits of a number, the bytes in hexadecimal.
use Prim.Native.Nat.{ℕ, zero, suc, ◌+◌, ◌*◌, ◌/◌, ◌%◌, ◌≤◌, ◌<◌}
use mathlib.Core.Bool.{Bool, true, false}
use mathlib.Core.Path.{◌≡◌, refl, ◌∙◌, sym, ap}
use mathlib.Core.List.{List, [], ◌∷◌, ◌++◌}
use native.Mathlib.Omega.{arith}
use lib.ListN.{length, get_or, take, drop, set, length-append}
use Rattle.std.proofs.Common.{eqb}
use borrow.Author.Tests.{eq-eqb, ne_eqb, lt-ltb, ltb-true, ltb-false}
use Rattle.std.proofs.Math.Nat.{pow-succ'}
use Rattle.std.specs.Prelude.{slice_index}
use Rattle.hex.specs.Hex.{lower_digits, encode_with, encode_lower}
use Rattle.std.specs.Fmt.{digits_onto, digits, decimal}
use Rattle.std.proofs.Common.{◌-◌, ◌^◌, ◌==◌, nat_lt, ltb, append_assoc, append-nil}
use Rattle.parts.specs.Lay.{lay}
use Rattle.parts.specs.Told.{refusal_number, refusal_place}
use Rattle.parts.specs.declared.Refusal.{Refusal}
use Rattle.parts.proofs.Lay.{lay-append, lay_is}
use borrow.Rule.Slice.PartMut.{put_mid, Post-is}
use Rattle.std.specs.Prelude.{OnOk, Result, Ok, Err}
use Rattle.text.specs.Text.{space, dash, most_bytes, Puts, decimal_from, decimal_of, pair_text, refusal_text, glyph_of, hex_text, bytes_text}
use Rattle.text.proofs.Loops.{turn, end}

-- nothing; one byte; one text after another; the same text, in more room
pub puts_none : (at k : ℕ) (b : List ℕ) → Puts at k [] b b at
unfolding lay
puts_none at k b = record { place = omega arith; within = omega arith; laid = refl }

pub puts_byte : (at x : ℕ) (b : List ℕ) → Puts at 1 (x ∷ []) b (set b at x) (at + 1)
unfolding lay
puts_byte at x b = record { place = refl; within = omega arith; laid = refl }

pub puts_two :
    (at m r j k : ℕ) (xs ys a b c : List ℕ) → Puts at j xs a b m → Puts m k ys b c r → Puts at (j + k) (xs ++ ys) a c r
puts_two at m r j k xs ys a b c p q =
    let u : r ≡ m + length ys = q.place in
    let v : m ≡ at + length xs = p.place in
    let w : r ≤ m + k = q.within in
    let z : m ≤ at + j = p.within in
    record {
      place = omega (arith, length-append xs ys);
      within = omega arith;
      laid =
          q.laid ∙ ap (λ (l : List ℕ). lay m ys l) p.laid ∙ ap (λ (i : ℕ). lay i ys (lay at xs a)) v ∙
          sym (lay-append at xs ys a);
    }

pub puts_same : (at r j k : ℕ) (xs ys a b : List ℕ) → Puts at j xs a b r → xs ≡ ys → j ≤ k → Puts at k ys a b r
puts_same at r j k xs ys a b p e h =
    let w : r ≤ at + j = p.within in
    record {
      place = p.place ∙ ap (λ (t : List ℕ). at + length t) e;
      within = omega arith;
      laid = p.laid ∙ ap (λ (t : List ℕ). lay at t a) e;
    }

pub puts_both :
    (at m r j k t : ℕ) (xs ys a b c : List ℕ) →
    Puts at j xs a b m →
    Puts m k ys b c r →
    j + k ≤ t →
    Puts at t (xs ++ ys) a c r
puts_both at m r j k t xs ys a b c p q h = puts_same at r (j + k) t _ _ a c (puts_two at m r j k xs ys a b c p q) refl h

pub puts_cons :
    (at m r x k t : ℕ) (ys a b c : List ℕ) →
    Puts at 1 (x ∷ []) a b m →
    Puts m k ys b c r →
    1 + k ≤ t →
    Puts at t (x ∷ ys) a c r
puts_cons at m r x k t ys a b c p q h = puts_both at m r 1 k t (x ∷ []) ys a b c p q h

-- a text by cases, f, of a value p whose case is known
pub puts_case :
    {A : Type 0} (f : A → List ℕ) (p q : A) (at r j k : ℕ) (a b : List ℕ) →
    p ≡ q →
    Puts at j (f q) a b r →
    j ≤ k →
    Puts at k (f p) a b r
puts_case f p q at r j k a b e h l = puts_same at r j k (f q) (f p) a b h (ap f (sym e)) l

pub puts_case_of :
    {A B : Type 0} (f : A → B → List ℕ) (p q : A) (y : B) (at r j k : ℕ) (a b : List ℕ) →
    p ≡ q →
    Puts at j (f q y) a b r →
    j ≤ k →
    Puts at k (f p y) a b r
puts_case_of f p q y at r j k a b e h l = puts_case (λ x. f x y) p q at r j k a b e h l

pub puts_none_of :
    {A B : Type 0} (f : A → B → List ℕ) (p q : A) (y : B) (at k : ℕ) (b : List ℕ) →
    p ≡ q →
    [] ≡ f q y →
    Puts at k (f p y) b b at
puts_none_of f p q y at k b e h =
    puts_case_of f p q y at at k k b b e (puts_same at at k k [] (f q y) b b (puts_none at k b) h (omega arith)) (omega arith)

-- texts by what callees ensure of their parts
pub refusal_by :
    (f : Refusal) (m n at r : ℕ) (a b : List ℕ) →
    m ≡ refusal_number f →
    n ≡ refusal_place f →
    Puts at 42 (pair_text m n) a b r →
    Puts at 42 (refusal_text f) a b r
unfolding refusal_text
refusal_by f m n at r a b e k p = puts_same at r 42 42 _ _ a b p (cc) (omega arith)

-- bytes in hexadecimal, by the library's digits
glyph_digit : (d : ℕ) → d < 16 → slice_index lower_digits d ≡ glyph_of d
unfolding glyph_of
glyph_digit zero h = refl
glyph_digit (suc zero) h = refl
glyph_digit (suc (suc zero)) h = refl
glyph_digit (suc (suc (suc zero))) h = refl
glyph_digit (suc (suc (suc (suc zero)))) h = refl
glyph_digit (suc (suc (suc (suc (suc zero))))) h = refl
glyph_digit (suc (suc (suc (suc (suc (suc zero)))))) h = refl
glyph_digit (suc (suc (suc (suc (suc (suc (suc zero))))))) h = refl
glyph_digit (suc (suc (suc (suc (suc (suc (suc (suc zero)))))))) h = refl
glyph_digit (suc (suc (suc (suc (suc (suc (suc (suc (suc zero))))))))) h = refl
glyph_digit (suc (suc (suc (suc (suc (suc (suc (suc (suc (suc zero)))))))))) h = refl
glyph_digit (suc (suc (suc (suc (suc (suc (suc (suc (suc (suc (suc zero))))))))))) h = refl
glyph_digit (suc (suc (suc (suc (suc (suc (suc (suc (suc (suc (suc (suc zero)))))))))))) h = refl
glyph_digit (suc (suc (suc (suc (suc (suc (suc (suc (suc (suc (suc (suc (suc zero))))))))))))) h = refl
glyph_digit (suc (suc (suc (suc (suc (suc (suc (suc (suc (suc (suc (suc (suc (suc zero)))))))))))))) h = refl
glyph_digit (suc (suc (suc (suc (suc (suc (suc (suc (suc (suc (suc (suc (suc (suc (suc zero))))))))))))))) h = refl
glyph_digit (suc (suc (suc (suc (suc (suc (suc (suc (suc (suc (suc (suc (suc (suc (suc (suc d)))))))))))))))) h = absurd (omega arith)

hex_is : (s : List ℕ) → ((k : ℕ) → k < length s → get_or s k 0 < 256) → encode_lower s ≡ hex_text s
unfolding hex_text encode_with
hex_is [] h = refl
hex_is (b ∷ l) h =
    let f : b < 256 = h 0 (omega arith) in
    let x : slice_index lower_digits (b / 16) ≡ glyph_of (b / 16) = glyph_digit (b / 16) (omega arith) in
    let y : slice_index lower_digits (b % 16) ≡ glyph_of (b % 16) = glyph_digit (b % 16) (omega arith) in
    let z : encode_lower l ≡ hex_text l = hex_is l (λ k i. h (suc k) (omega arith)) in
    cc

hex_size : (l : List ℕ) → length (hex_text l) ≡ 2 * length l
unfolding hex_text
hex_size [] = refl
hex_size (b ∷ l) = let q : length (hex_text l) ≡ 2 * length l = hex_size l in omega arith

pub hex_by :
    {A E : Type 0} (r : Result A E) (u : A) (s xs old : List ℕ) (at : ℕ) →
    OnOk r (xs ≡ encode_lower s) →
    r ≡ Ok u →
    ((k : ℕ) → k < length s → get_or s k 0 < 256) →
    at + 2 * length s ≤ length old →
    Puts at (2 * length s) (hex_text s) old (put_mid at (at + 2 * length s - at) old xs) (at + 2 * length s)
hex_by (Err e) u s xs old at w o b h = absurd (cc)
hex_by (Ok v) u s xs old at w o b h =
    let n : length (hex_text s) ≡ 2 * length s = hex_size s in
    let g : at + length (hex_text s) ≤ length old = omega arith in
    let i : at + 2 * length s ≡ at + length (hex_text s) = omega arith in
    let k : at ≤ at + 2 * length s = omega arith in
    record {
      place = omega arith;
      within = omega arith;
      laid =
          ap (λ (t : List ℕ). take at old ++ (xs ++ t)) (Post-is at (at + 2 * length s) old k) ∙
          ap (λ (t : List ℕ). take at old ++ (t ++ drop (at + 2 * length s) old)) (w ∙ hex_is s b) ∙
          ap (λ (i : ℕ). take at old ++ (hex_text s ++ drop i old)) i ∙
          sym (lay_is at (hex_text s) old g ∙ append_assoc (take at old) (hex_text s) (drop (at + length (hex_text s)) old));
    }

-- a text as it stands: a byte after those before it; all of them
pub text_laid :
    (goal s a b : List ℕ) (m r j : ℕ) →
    goal ≡ lay m (drop j s) a →
    j < length s →
    Puts m 1 (get_or s j 0 ∷ []) a b r →
    goal ≡ lay r (drop (j + 1) s) b
text_laid goal s a b m r j g h q =
    let u : r ≡ m + 1 = q.place in
    turn (λ t. lay m t a) goal s j g h ∙
    lay-append m (get_or s j 0 ∷ []) (drop (j + 1) s) a ∙
    ap (λ (i : ℕ). lay i (drop (j + 1) s) (lay m (get_or s j 0 ∷ []) a)) (sym u) ∙
    ap (λ (l : List ℕ). lay r (drop (j + 1) s) l) (sym q.laid)

pub text_end :
    (s a b : List ℕ) (at m j : ℕ) → lay at s a ≡ lay m (drop j s) b → m ≡ at + j → j ≤ length s → length s ≤ j → Puts at (length s) s a b m
unfolding lay
text_end s a b at m j g e h k =
    record { place = omega arith; within = omega arith; laid = sym (end (λ t. lay m t b) (lay at s a) s j g k) }

-- the library's decimal digits are those of a number with a bound on their count
onto_is :
    (j k n : ℕ) (acc : List ℕ) (b : Bool) →
    ltb n 10 ≡ b →
    n < 10 ^ suc j →
    n < 10 ^ suc k →
    digits_onto (suc j) 10 false n acc ≡ decimal_from (suc k) n ++ acc
unfolding decimal_from
onto_is j k n acc true e h g =
    let f : n < 10 = ltb-true n 10 e in
    let q : (n / 10 == 0) ≡ true = eq-eqb (n / 10) 0 (omega arith) in
    let d : nat_lt (n % 10) 10 ≡ true = lt-ltb (n % 10) 10 (omega arith) in
    simp (e, q, d)
onto_is zero k n acc false e h g = let f : 10 ≤ n = ltb-false n 10 e in absurd (omega arith)
onto_is (suc j) zero n acc false e h g = let f : 10 ≤ n = ltb-false n 10 e in absurd (omega arith)
onto_is (suc j) (suc k) n acc false e h g =
    let f : 10 ≤ n = ltb-false n 10 e in
    let q : (n / 10 == 0) ≡ false = ne_eqb (n / 10) 0 (λ z. absurd (omega arith)) in
    let d : nat_lt (n % 10) 10 ≡ true = lt-ltb (n % 10) 10 (omega arith) in
    let u : 10 ^ suc (suc j) ≡ 10 * 10 ^ suc j = pow-succ' 10 (suc j) in
    let v : 10 ^ suc (suc k) ≡ 10 * 10 ^ suc k = pow-succ' 10 (suc k) in
    let r :
    digits_onto (suc j) 10 false (n / 10) ((48 + n % 10) ∷ acc) ≡
    decimal_from (suc k) (n / 10) ++ ((48 + n % 10) ∷ acc) =
    onto_is j k (n / 10) ((48 + n % 10) ∷ acc) (ltb (n / 10) 10) refl (omega arith) (omega arith) in
    simp (e, q, d, append_assoc) r

pub decimal_is : (n : ℕ) → n < 2 ^ 64 → decimal n ≡ decimal_of n
unfolding digits
decimal_is n h = onto_is 63 19 n [] (ltb n 10) refl (omega arith) (omega arith) ∙ append-nil (decimal_of n)

pub decimal_by :
    (n at r : ℕ) (s t a b : List ℕ) →
    Puts at (length t) t a b r →
    t ≡ s →
    s ≡ decimal n →
    length s ≤ 20 →
    n < 2 ^ 64 →
    Puts at 20 (decimal_of n) a b r
decimal_by n at r s t a b p e g h k =
    puts_same at r (length t) 20 t (decimal_of n) a b p (e ∙ g ∙ decimal_is n k) (rw e h)

-- a space, and bytes or `-`: b tells whether there are none
no_bytes : (b : Bool) (l : List ℕ) → b ≡ eqb (length l) 0 → b ≡ true → space ∷ dash ∷ [] ≡ bytes_text l
unfolding bytes_text
no_bytes b l e h = simp (sym e ∙ h)

some_bytes : (b : Bool) (l : List ℕ) → b ≡ eqb (length l) 0 → b ≡ false → space ∷ hex_text l ≡ bytes_text l
unfolding bytes_text
some_bytes b l e h = simp (sym e ∙ h)

pub bytes_none :
    (q : Bool) (l a b c : List ℕ) (at m r : ℕ) →
    q ≡ eqb (length l) 0 →
    q ≡ true →
    Puts at 1 (space ∷ []) a b m →
    Puts m 1 (dash ∷ []) b c r →
    Puts at (1 + 2 * most_bytes) (bytes_text l) a c r
bytes_none q l a b c at m r e h p s =
    puts_same at r 2 _ (space ∷ dash ∷ []) _ a c (puts_two at m r 1 1 (space ∷ []) (dash ∷ []) a b c p s) (no_bytes q l e h)
    (omega arith)

pub bytes_some :
    (q : Bool) (l a b c : List ℕ) (at m r : ℕ) →
    q ≡ eqb (length l) 0 →
    q ≡ false →
    length l ≤ most_bytes →
    Puts at 1 (space ∷ []) a b m →
    Puts m (2 * length l) (hex_text l) b c r →
    Puts at (1 + 2 * most_bytes) (bytes_text l) a c r
bytes_some q l a b c at m r e h k p s =
    puts_same at r (1 + 2 * length l) _ (space ∷ hex_text l) _ a c
    (puts_two at m r 1 (2 * length l) (space ∷ []) (hex_text l) a b c p s) (some_bytes q l e h) (omega arith)

pub ruleset writing = (puts_none, puts_both, puts_cons)
