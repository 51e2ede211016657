-- What the marks say of a sheet, and what a turn of each loop does.
use Rattle.std.specs.Prelude.{None, Some}
use Prim.Native.Nat.{ℕ, zero, suc, ◌+◌, ◌*◌, ◌/◌, ◌%◌, ◌^◌, ◌≤◌, ◌<◌, min}
use mathlib.Core.Path.{◌≡◌, refl, ◌∙◌, sym, ap, subst}
use mathlib.Core.Bool.{Bool, true, false}
use mathlib.Core.List.{List, [], ◌∷◌}
use mathlib.Core.Logic.{⊎_elim}
use native.Mathlib.Nat.{one-mul, zero-div, eq-or-lt_of_le}
use native.Mathlib.Numerals.{add-one}
use native.Mathlib.Omega.{arith}
use lib.Bits.{bit_and, bit_or, and_mask}
use Rattle.std.specs.Int.{w32, bit_at, trailing_ones}
use Rattle.std.specs.List.{fold}
use Rattle.std.proofs.lemmas.Nat.Bits.{bit_at-lt, bit_at_or, bit_at-pow_same, bit_at-pow_other, bit_at-trailing_ones}
use lib.Count.{count_trailing_zeros}
use lib.Dec.{eqb, ltb}
use lib.ListN.{length, get_or, drop, drop_of_length-le}
use lib.Pow.{shl_exact}
use lib.Seq.{drop-cons}
use borrow.Author.Tests.{eqb-true, eqb-false, eq-eqb, lt-ltb}
use Rattle.parts.specs.Numbers.{sheets}
use Rattle.parts.specs.Pick.{pick, ◌or◌}
use Rattle.parts.specs.declared.LockWord.{LockWord}
use Rattle.steps.specs.Places.{names, helped_of}
use Rattle.steps.specs.Worker.{on_state}
use Rattle.steps.specs.declared.State.{State}
use Rattle.steps.specs.declared.State.TheVariants.{Idle, UnderWay, Finished}
use Rattle.steps.specs.declared.Worker.{Worker}
use Rattle.sheets.specs.Sheets.{any_of, lock_names, worker_keeps, in_use_of, lowest_of}
use Rattle.sheets.specs.Marks.{marked_of, sheet_marks, holder_marks, lock_marks, worker_marks, all_mark, marks_of}

pub or_none : (a : Bool) → (a or false) ≡ a
or_none true = refl
or_none false = refl

pub or_assoc : (a b c : Bool) → ((a or b) or c) ≡ (a or (b or c))
or_assoc true b c = refl
or_assoc false b c = refl

or_true : (a : Bool) → (a or true) ≡ true
or_true true = refl
or_true false = refl

-- the lowest number depends only on the numbers that it is sought among
pub lowest_same :
    (used marked : ℕ → Bool) (at n : ℕ) →
    ((j : ℕ) → j < at + n → marked j ≡ used j) →
    lowest_of marked at n ≡ lowest_of used at n
unfolding lowest_of
lowest_same used marked at zero h = refl
lowest_same used marked at (suc n) h =
    simp (h at (omega arith), lowest_same used marked (at + 1) n (λ j l. h j (omega arith)))

-- the first that is not used is the lowest, or the number after them
lowest_found :
    (used : ℕ → Bool) (at n k : ℕ) → at ≤ k → k ≤ at + n → ((j : ℕ) → j < k → used j ≡ true) →
    (k < at + n → used k ≡ false) → k ≡ lowest_of used at n
unfolding lowest_of
lowest_found used at zero k l h a b = omega arith
lowest_found used at (suc n) k l h a b =
    ⊎_elim here (λ q. simp (a at q) (lowest_found used (at + 1) n k (omega arith) (omega arith) a (λ r. b (omega arith)))) (eq-or-lt_of_le l)
  where
    here : at ≡ k → k ≡ lowest_of used at (suc n)
    here e = let f : used at ≡ false = rw e (b (omega arith)) in simp f (sym e)

-- a loop over elements that mark their sheets, at the element j; and at its end
pub all_turn :
    {A : Type 0} (mark : ℕ → A → ℕ) (goal marks next : ℕ) (xs : List A) (j : ℕ) (d : A) →
    next ≡ mark marks (get_or xs j d) → goal ≡ all_mark mark marks (drop j xs) → j < length xs →
    goal ≡ all_mark mark next (drop (j + 1) xs)
unfolding all_mark
all_turn mark goal marks next xs j d e g h =
    g ∙ ap (all_mark mark marks) (drop-cons xs j d h) ∙ rw (add-one, e)

pub all_end :
    {A : Type 0} (mark : ℕ → A → ℕ) (goal marks : ℕ) (xs : List A) (j : ℕ) →
    goal ≡ all_mark mark marks (drop j xs) → length xs ≤ j → marks ≡ goal
unfolding all_mark
all_end mark goal marks xs j g h = sym (g ∙ ap (all_mark mark marks) (drop_of_length-le xs h))

-- `marks | (1 << s)` and `(marks >> s) & 1 == 1`, as the machine has them
pub shifted : (s : ℕ) → s < sheets → 1 * 2 ^ s % 2 ^ 32 ≡ 2 ^ s
shifted s h = shl_exact {a = 1} 1 s 32 (omega arith) (omega arith) ∙ one-mul (2 ^ s)

pub tested : (m s : ℕ) → eqb (bit_and (m / 2 ^ s) 1) 1 ≡ marked_of m s
unfolding marked_of
tested m s = ap (λ (x : ℕ). eqb x 1) (and_mask (m / 2 ^ s) 1)

-- What a way to mark does to the marks: sheet s is marked then if it was, or if the element has it.
abbrev pub Marks : {A : Type 0} → (ℕ → A → ℕ) → (ℕ → A → Bool) → Type 0
Marks mark has = (marks : ℕ) (x : _) (s : ℕ) → s < sheets → marked_of (mark marks x) s ≡ (marked_of marks s or has s x)

sheet_marks_lem : Marks sheet_marks (λ s t. eqb t s)
unfolding sheet_marks marked_of
sheet_marks_lem marks t s h = go (eqb t s) refl
  where
    other : (b : Bool) → (t ≡ s → ⊥) → marked_of (pick b (bit_or marks (2 ^ t)) marks) s ≡ marked_of marks s
    other true n =
        let d : bit_at (bit_or marks (2 ^ t)) s ≡ bit_at marks s =
        bit_at_or marks (2 ^ t) s ∙ omega (arith, bit_at-pow_other t s (λ e. n (sym e))) in
        ap (λ (x : ℕ). eqb x 1) d
    other false n = refl

    go : (b : Bool) → eqb t s ≡ b → marked_of (sheet_marks marks t) s ≡ (marked_of marks s or b)
    go true e =
        let l = bit_at-lt marks s in
        let d : bit_at (bit_or marks (2 ^ s)) s ≡ 1 = bit_at_or marks (2 ^ s) s ∙ omega (arith, bit_at-pow_same s) in
        ap (λ (k : ℕ). marked_of (sheet_marks marks k) s) (eqb-true t s e) ∙
        ap (λ (b : Bool). marked_of (pick b (bit_or marks (2 ^ s)) marks) s) (lt-ltb s sheets h) ∙
        ap (λ (x : ℕ). eqb x 1) d ∙ sym (or_true (marked_of marks s))
    go false e = other (ltb t sheets) (eqb-false t s e) ∙ sym (or_none (marked_of marks s))

-- the marks' lowest digits that are 1, at most all but the last sheet's
pub lowest_lem : (marks : ℕ) → marks < 2 ^ 32 → min (trailing_ones w32 marks) 31 ≡ lowest_of (marked_of marks) 0 31
unfolding lowest_of marked_of count_trailing_zeros
lowest_lem marks h = ⊎_elim all some (eq-or-lt_of_le (omega arith))
  where
    all : suc marks ≡ 2 ^ 32 → min (trailing_ones w32 marks) 31 ≡ lowest_of (marked_of marks) 0 31
    all e = let q : marks ≡ 4294967295 = omega arith in
        subst (λ (m : ℕ). min (trailing_ones w32 m) 31 ≡ lowest_of (marked_of m) 0 31) (sym q) refl

    some : suc marks < 2 ^ 32 → min (trailing_ones w32 marks) 31 ≡ lowest_of (marked_of marks) 0 31
    some q =
        let t = bit_at-trailing_ones w32 marks (omega arith) in
        lowest_found (marked_of marks) 0 31 _ (omega arith) (omega arith)
        (λ j l. eq-eqb _ _ (t.2 j (omega arith))) (λ l. let e : min (trailing_ones w32 marks) 31 ≡ trailing_ones w32 marks = omega arith in simp (e, t.1))

-- one after the other marks its sheets
pub all_folds : {A : Type 0} (mark : ℕ → A → ℕ) (marks : ℕ) (xs : List A) → fold mark marks xs ≡ all_mark mark marks xs
unfolding all_mark
all_folds mark marks [] = refl
all_folds mark marks (x ∷ xs) = all_folds mark (mark marks x) xs

-- any number of elements mark the sheets that some of them has
pub all_marks :
    {A : Type 0} (mark : ℕ → A → ℕ) (has : ℕ → A → Bool) → Marks mark has → Marks (all_mark mark) (λ s xs. any_of (has s) xs)
unfolding all_mark any_of
all_marks mark has one marks [] s h = sym (or_none (marked_of marks s))
all_marks mark has one marks (x ∷ xs) s h =
    all_marks mark has one (mark marks x) xs s h ∙ ap (λ (b : Bool). b or any_of (has s) xs) (one marks x s h) ∙
    or_assoc (marked_of marks s) (has s x) (any_of (has s) xs)

-- each way to mark, with what it marks
holder_marks_lem : Marks holder_marks (λ s h. names h s)
unfolding holder_marks
holder_marks_lem marks None s h = sym (or_none (marked_of marks s))
holder_marks_lem marks (Some t) s h = sheet_marks_lem marks t s h

lock_marks_lem : Marks lock_marks lock_names
unfolding lock_marks
lock_marks_lem marks x s h = holder_marks_lem marks x.holder s h

worker_marks_lem : Marks worker_marks worker_keeps
unfolding worker_marks
worker_marks_lem marks k s h = more k.state
  where
    more :
        (t : State) →
        marked_of (on_state t marks (λ p. holder_marks (sheet_marks marks k.own) (helped_of p)) (λ x. marks)) s ≡
        (marked_of marks s or on_state t false (λ p. eqb k.own s or names (helped_of p) s) (λ x. false))
    more Idle = sym (or_none (marked_of marks s))
    more (UnderWay p) =
        holder_marks_lem (sheet_marks marks k.own) (helped_of p) s h ∙
        ap (λ (b : Bool). b or names (helped_of p) s) (sheet_marks_lem marks k.own s h) ∙
        or_assoc (marked_of marks s) (eqb k.own s) (names (helped_of p) s)
    more (Finished x) = sym (or_none (marked_of marks s))

-- no digit of 0 is 1
unmarked : (s : ℕ) → marked_of 0 s ≡ false
unfolding marked_of
unmarked s = ap (λ (x : ℕ). eqb (x % 2) 1) (zero-div (2 ^ s))

-- digit s says whether sheet s is in use: some lock names it, or some worker has it
pub marked_in_use :
    (locks : List LockWord) (ks : List Worker) (s : ℕ) → s < sheets → marked_of (marks_of locks ks) s ≡ in_use_of locks ks s
unfolding marks_of in_use_of
marked_in_use locks ks s h =
    all_marks worker_marks worker_keeps worker_marks_lem (all_mark lock_marks 0 locks) ks s h ∙
    ap (λ (b : Bool). b or any_of (worker_keeps s) ks)
    (all_marks lock_marks lock_names lock_marks_lem 0 locks s h ∙ ap (λ (b : Bool). b or any_of (lock_names s) locks) (unmarked s))
