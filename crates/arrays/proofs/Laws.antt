-- One turn and the end of each loop. What is yet to be laid, or told, is that of the elements from the j-th on.
use Rattle.std.specs.Prelude.{Err, None, Ok, Some}
use Prim.Native.Nat.{ℕ, suc, ◌+◌, ◌*◌, ◌-◌, ◌≤◌, ◌<◌}
use mathlib.Core.Path.{◌≡◌, refl, ◌∙◌, sym, ap}
use mathlib.Core.List.{List, [], ◌∷◌, ◌++◌, map}
use native.Mathlib.Nat.{add-zero}
use native.Mathlib.Numerals.{add-one}
use native.Mathlib.Omega.{arith}
use lib.ListN.{length, get_or, take, drop, set, replicate, length-drop, length-map, length-replicate, drop_of_length-le}
use lib.Seq.{drop-cons, drop-drop, get_or-drop, get_or-take, length-take-le, take_all}
use borrow.Rule.Slice.PartMut.{put_mid}
use Rattle.parts.specs.Lay.{lay}
use Rattle.parts.specs.declared.LockWord.{LockWord}
use Rattle.parts.specs.declared.Instr.{Instr}
use Rattle.parts.specs.declared.Refusal.TheVariants.{Held}
use Rattle.parts.specs.Told.{Told}
use Rattle.parts.specs.declared.Word.{Word}
use Rattle.parts.proofs.Lay.{lay-append, lay_whole, lay_step, lay_done}
use Rattle.records.specs.Bytes.{u32_of, u32s_of, u32s_bytes}
use Rattle.records.specs.Job.{code_bytes}
use Rattle.records.proofs.Fours.{u32s_turn}
use Rattle.records.proofs.Laws.{part_end, part_laid}
use Rattle.arrays.specs.Fresh.{words_from}
use Rattle.arrays.specs.Held.{held_told}

-- of the first n elements, those from the j-th on: the j-th, and those after it; none
first_turn :
    {A : Type 0} (xs : List A) (n j : ℕ) (d : A) →
    j < n →
    n ≤ length xs →
    drop j (take n xs) ≡ get_or xs j d ∷ drop (j + 1) (take n xs)
first_turn xs n j d h k =
    let q : length (take n xs) ≡ n = length-take-le n xs k in
    drop-cons (take n xs) j d (omega arith) ∙ simp (add-one j, get_or-take n xs j d h)

first_end : {A : Type 0} (xs : List A) (n j : ℕ) → n ≤ j → n ≤ length xs → drop j (take n xs) ≡ []
first_end xs n j h k =
    let q : length (take n xs) ≤ j = omega (arith, length-take-le n xs k) in
    drop_of_length-le (take n xs) q

-- n elements from `base` on are there
pub fits_from : {A : Type 0} (base n : ℕ) (xs : List A) → base + n ≤ length xs → n ≤ length (drop base xs)
fits_from base n xs h = simp (length-drop base xs) (omega arith)

-- of those, f is yet to be laid: there are none
pub first_done :
    {A B : Type 0} (f : List A → List B) (goal l : List B) (xs : List A) (at n j : ℕ) →
    f [] ≡ [] →
    goal ≡ lay at (f (drop j (take n xs))) l →
    n ≤ j →
    n ≤ length xs →
    l ≡ goal
first_done f goal l xs at n j e g h k = lay_done goal l _ at (ap f (first_end xs n j h k) ∙ e) g

-- an element's f is laid
pub map_turn :
    {A B : Type 0} (f : A → B) (goal l : List B) (xs : List A) (at next n j : ℕ) (d : A) →
    goal ≡ lay at (map f (drop j (take n xs))) l →
    next ≡ at + 1 →
    j < n →
    n ≤ length xs →
    goal ≡ lay next (map f (drop (j + 1) (take n xs))) (set l at (f (get_or xs j d)))
map_turn f goal l xs at next n j d g e h k =
    lay_step goal l _ _ at next (f (get_or xs j d)) e (ap (map f) (first_turn xs n j d h k)) g

-- every element's f is to be laid, over a list as long
pub map-start :
    {A B : Type 0} (f : A → B) (xs : List A) (l : List B) (n : ℕ) →
    length xs ≡ n →
    length l ≡ n →
    map f xs ≡ lay 0 (map f (take n xs)) l
map-start f xs l n h k =
    let q : length (map f xs) ≡ length l = length-map xs f ∙ h ∙ sym k in
    sym (ap (λ (r : List _). lay 0 (map f r) l) (take_all n xs (omega arith)) ∙ lay_whole (map f xs) l q)

-- of n equal elements, those from the j-th on: one, and those after it; none
pub fill_next : {A : Type 0} (x : A) (n j : ℕ) → j < n → replicate (n - j) x ≡ x ∷ replicate (n - (j + 1)) x
fill_next x n j h =
    let q : n - j ≡ suc (n - (j + 1)) = omega arith in
    ap (λ (m : ℕ). replicate m x) q

pub fill_none : {A : Type 0} (x : A) (n j : ℕ) → n ≤ j → replicate (n - j) x ≡ []
fill_none x n j h =
    let q : n - j ≡ 0 = omega arith in
    ap (λ (m : ℕ). replicate m x) q

-- a part that is filled
pub filled :
    {A : Type 0} (at n : ℕ) (x : A) (ys l : List A) → ys ≡ replicate (length (take (at + n - at) (drop at l))) x →
    at + n ≤ length l → put_mid at (at + n - at) l ys ≡ lay at (replicate n x) l
filled at n x ys l e h =
    let f : at + n - at ≡ n = omega arith in
    let d : n ≤ length (drop at l) = fits_from at n l h in
    part_laid at n (replicate n x) ys l (e ∙ simp (f, length-take-le n (drop at l) d)) (length-replicate n x) h

-- f writes a list element by element, four bytes for each
pub record Fours {A : Type 0} (f : List A → List ℕ) : Type 0 where
  pub more : (x : A) (xs : List A) → f (x ∷ xs) ≡ f (x ∷ []) ++ f xs
  pub four : (x : A) → length (f (x ∷ [])) ≡ 4

pub code_fours : Fours code_bytes
unfolding code_bytes
code_fours = record { more = λ x xs. refl; four = λ x. refl }

pub u32_fours : {A : Type 0} (f : A → ℕ) → Fours (λ (xs : List A). u32s_bytes (map f xs))
unfolding u32s_bytes
u32_fours f = record { more = λ x xs. refl; four = λ x. refl }

-- an element's four bytes are laid
pub fours_laid :
    {A : Type 0} (f : List A → List ℕ) (goal l next : List ℕ) (x : A) (ys xs : List A) (here after : ℕ) →
    Fours f →
    goal ≡ lay here (f ys) l →
    ys ≡ x ∷ xs →
    next ≡ lay here (f (x ∷ [])) l →
    after ≡ here + 4 →
    goal ≡ lay after (f xs) next
fours_laid f goal l next x ys xs here after w g h e k =
    let q : here + length (f (x ∷ [])) ≡ after = omega (arith, w.four x) in
    g ∙ ap (λ (r : List _). lay here (f r) l) h ∙ ap (λ (r : List ℕ). lay here r l) (w.more x xs) ∙
    lay-append here (f (x ∷ [])) (f xs) l ∙ ap (λ (m : ℕ). lay m (f xs) (lay here (f (x ∷ [])) l)) q ∙
    ap (λ (m : List ℕ). lay after (f xs) m) (sym e)

-- of the first n elements, the j-th's are
pub four_turn :
    {A : Type 0} (f : List A → List ℕ) (goal l next : List ℕ) (xs : List A) (at n j : ℕ) (d : A) →
    Fours f →
    goal ≡ lay (at + 4 * j) (f (drop j (take n xs))) l →
    next ≡ lay (at + 4 * j) (f (get_or xs j d ∷ [])) l →
    j < n →
    n ≤ length xs →
    goal ≡ lay (at + 4 * (j + 1)) (f (drop (j + 1) (take n xs))) next
four_turn f goal l next xs at n j d w g e h k = fours_laid f goal l next _ _ _ _ _ w g (first_turn xs n j d h k) e (omega arith)

-- the same, of the instructions from `base` on
pub code_put :
    (goal l next : List ℕ) (program : List Instr) (base at n j : ℕ) (d : Instr) →
    goal ≡ lay (at + 4 * j) (code_bytes (drop j (take n (drop base program)))) l →
    next ≡ lay (at + 4 * j) (code_bytes (get_or program (base + j) d ∷ [])) l →
    j < n →
    base + n ≤ length program →
    goal ≡ lay (at + 4 * (j + 1)) (code_bytes (drop (j + 1) (take n (drop base program)))) next
code_put goal l next program base at n j d g e h k =
    four_turn code_bytes goal l next (drop base program) at n j d code_fours g
    (e ∙ ap (λ (x : Instr). lay (at + 4 * j) (code_bytes (x ∷ [])) l) (sym (get_or-drop base program j d))) h
    (fits_from base n program k)

-- what f makes of the first four bytes is laid at `place`
pub turn_laid :
    {A : Type 0} (f : List ℕ → List A) (goal l : List A) (s rest : List ℕ) (here place next : ℕ) (x : A) →
    goal ≡ lay here (f s) l →
    f s ≡ x ∷ f rest →
    place ≡ here →
    next ≡ here + 1 →
    goal ≡ lay next (f rest) (set l place x)
turn_laid f goal l s rest here place next x g e p n =
    lay_step goal l _ _ here next x n e g ∙ ap (λ (k : ℕ). lay next (f rest) (set l k x)) (sym p)

-- what f makes of the first four bytes is laid
pub walk_turn :
    {A : Type 0} (f : List ℕ → List A) (goal l : List A) (s : List ℕ) (at next : ℕ) (x : A) →
    goal ≡ lay at (f s) l →
    next ≡ at + 1 →
    f s ≡ x ∷ f (drop 4 s) →
    goal ≡ lay next (f (take (length s - 4) (drop 4 s))) (set l at x)
walk_turn f goal l s at next x g n e =
    lay_step goal l _ _ at next x n (e ∙ ap (λ (r : List ℕ). x ∷ f r) (sym (part_end 4 s))) g

-- the words from the j-th on: its guard, and the value of its four bytes, and those after it; none
pub words_next :
    (guards values : List ℕ) (v j : ℕ) →
    v ≡
    u32_of (get_or values (4 * j) 0) (get_or values (4 * j + 1) 0) (get_or values (4 * j + 2) 0) (get_or values (4 * j + 3) 0) →
    j < length guards →
    length values ≡ 4 * length guards →
    words_from (drop j guards) (u32s_of (drop (4 * j) values)) ≡
    record { value = v; count = 0; guard = get_or guards j 0 } ∷
    words_from (drop (j + 1) guards) (u32s_of (drop (4 * (j + 1)) values))
unfolding words_from
words_next guards values v j e h k =
    let q : 4 * suc j ≡ 4 * j + 4 = omega arith in
    let m : 4 ≤ length (drop (4 * j) values) = simp (length-drop (4 * j) values) (omega arith) in
    simp (q, add-one j, drop-cons guards j 0 h, u32s_turn (drop (4 * j) values) m, get_or-drop, drop-drop, add-zero, e)

pub words_none : (guards values : List ℕ) (j : ℕ) → length guards ≤ j → words_from (drop j guards) values ≡ []
unfolding words_from
words_none guards values j h = ap (λ (r : List ℕ). words_from r values) (drop_of_length-le guards h)

-- word j is laid
pub words_turn :
    (goal l : List Word) (guards values : List ℕ) (v j : ℕ) →
    goal ≡ lay j (words_from (drop j guards) (u32s_of (drop (4 * j) values))) l →
    v ≡
    u32_of (get_or values (4 * j) 0) (get_or values (4 * j + 1) 0) (get_or values (4 * j + 2) 0) (get_or values (4 * j + 3) 0) →
    j < length guards →
    length values ≡ 4 * length guards →
    goal ≡
    lay (j + 1) (words_from (drop (j + 1) guards) (u32s_of (drop (4 * (j + 1)) values)))
    (set l j (record { value = v; count = 0; guard = get_or guards j 0 }))
words_turn goal l guards values v j g e h k =
    lay_step goal l _ _ j (j + 1) (record { value = v; count = 0; guard = get_or guards j 0 }) refl
    (words_next guards values v j e h k) g

pub words_end :
    (goal l : List Word) (guards values : List ℕ) (j : ℕ) →
    goal ≡ lay j (words_from (drop j guards) values) l →
    length guards ≤ j →
    l ≡ goal
words_end goal l guards values j g h = lay_done goal l _ j (words_none guards values j h) g

-- lock j is free, and those after it are looked at; or it is held; or there is none
pub held_turn :
    (goal : Told) (locks : List LockWord) (n j : ℕ) (d : LockWord) →
    goal ≡ held_told (drop j (take n locks)) j →
    (get_or locks j d).holder ≡ None →
    j < n →
    n ≤ length locks →
    goal ≡ held_told (drop (j + 1) (take n locks)) (j + 1)
unfolding held_told
held_turn goal locks n j d g e h k =
    g ∙ ap (λ (r : List LockWord). held_told r j) (first_turn locks n j d h k) ∙ simp e

pub held_stop :
    (goal : Told) (locks : List LockWord) (n j s : ℕ) (d : LockWord) →
    goal ≡ held_told (drop j (take n locks)) j →
    (get_or locks j d).holder ≡ Some s →
    j < n →
    n ≤ length locks →
    Err (Held j) ≡ goal
unfolding held_told
held_stop goal locks n j s d g e h k =
    sym (g ∙ ap (λ (r : List LockWord). held_told r j) (first_turn locks n j d h k) ∙ simp e)

pub held_end :
    (goal : Told) (locks : List LockWord) (n j : ℕ) →
    goal ≡ held_told (drop j (take n locks)) j →
    n ≤ j →
    n ≤ length locks →
    (Ok tt) ≡ goal
unfolding held_told
held_end goal locks n j g h k = sym (g ∙ ap (λ (r : List LockWord). held_told r j) (first_end locks n j h k))
