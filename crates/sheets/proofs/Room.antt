-- How many sheets are in use: a held lock names one, a worker under way keeps two at most, any other none. So with
-- enough sheets one is free while a worker is idle. It is counted over any numbers of locks, workers and sheets.
use Rattle.std.specs.Prelude.{None, Option, Some}
use Prim.Native.Nat.{ℕ, zero, suc, ◌+◌, ◌*◌, ◌-◌, ◌≤◌, ◌<◌}
use native.Mathlib.Nat.{mul-suc}
use native.Mathlib.Omega.{arith}
use mathlib.Core.Logic.{⊎_elim}
use mathlib.Core.Path.{◌≡◌, refl, ◌∙◌, sym, ap}
use mathlib.Core.Bool.{Bool, true, false}
use mathlib.Core.List.{List, [], ◌∷◌, ◌++◌}
use lib.Dec.{eqb, ltb}
use lib.ListN.{length, get_or, length-append}
use borrow.Author.Tests.{eqb-true, eqb-false, ltb-true, ltb-false, lt-ltb, le-ltb}
use Rattle.parts.specs.Numbers.{sheets}
use Rattle.parts.specs.Pick.{pick, ◌or◌}
use Rattle.parts.specs.declared.LockWord.{LockWord}
use Rattle.parts.proofs.Order.{below_or_not}
use Rattle.steps.specs.Places.{helped_of, names, keeps}
use Rattle.steps.specs.Worker.{on_state, worker0}
use Rattle.steps.specs.declared.State.{State}
use Rattle.steps.specs.declared.State.TheVariants.{Idle, UnderWay, Finished}
use Rattle.steps.specs.declared.Worker.{Worker}
use Rattle.sheets.specs.Counted.{used_of, most_used, Counted}
use Rattle.sheets.specs.Sheets.{any_of, lock_names, worker_keeps, in_use_of, lowest_of, free_sheet_of}
use Rattle.sheets.proofs.Laws.{or_none}
use Rattle.sheets.proofs.Lowest.{lowest_is, lowest_free, lowest_within, any_append}

-- how many of the numbers have it
tally : (ℕ → Bool) → List ℕ → ℕ
tally has [] = 0
tally has (x ∷ xs) = pick (has x) 1 0 + tally has xs

tally_most : (has : ℕ → Bool) (xs : List ℕ) → tally has xs ≤ length xs
unfolding tally
tally_most has [] = omega arith
tally_most has (x ∷ xs) = go (has x) (tally_most has xs)
  where
    go : (b : Bool) → tally has xs ≤ length xs → pick b 1 0 + tally has xs ≤ suc (length xs)
    go true rest = omega arith
    go false rest = omega arith

tally_some : (has : ℕ → Bool) (xs : List ℕ) → any_of has xs ≡ true → 1 ≤ tally has xs
unfolding tally any_of
tally_some has [] e = let z : ◌≡◌ {A = ℕ} 0 1 = cc in absurd (omega arith)
tally_some has (x ∷ xs) e = go (has x) e (λ q. tally_some has xs q)
  where
    go :
        (b : Bool) → (b or any_of has xs) ≡ true → (any_of has xs ≡ true → 1 ≤ tally has xs) → 1 ≤ pick b 1 0 + tally has xs
    go true q rest = omega arith
    go false q rest = omega (arith, rest q)

-- those below n + 1 are those below n, and those that are n
one_next : (x n : ℕ) → pick (ltb x (suc n)) 1 0 ≡ pick (ltb x n) 1 0 + pick (eqb x n) 1 0
one_next x n = go (ltb x n) (eqb x n) refl refl
  where
    go : (b c : Bool) → ltb x n ≡ b → eqb x n ≡ c → pick (ltb x (suc n)) 1 0 ≡ pick b 1 0 + pick c 1 0
    go true true p q = let h = ltb-true x n p in let e = eqb-true x n q in absurd (omega arith)
    go true false p q = let h = ltb-true x n p in simp (lt-ltb x (suc n) (omega arith))
    go false true p q = let e = eqb-true x n q in simp (lt-ltb x (suc n) (omega arith))
    go false false p q =
        let h = ltb-false x n p in
        let e = eqb-false x n q in
        simp (le-ltb x (suc n) (omega arith))

tally_next :
    (n : ℕ) (xs : List ℕ) → tally (λ x. ltb x (suc n)) xs ≡ tally (λ x. ltb x n) xs + tally (λ x. eqb x n) xs
unfolding tally
tally_next n [] = refl
tally_next n (x ∷ xs) = omega (arith, one_next x n, tally_next n xs)

-- a list of numbers that has all of 0 .. n - 1 in it is at least n long
pigeon : (xs : List ℕ) (n : ℕ) → ((j : ℕ) → j < n → any_of (λ x. eqb x j) xs ≡ true) → n ≤ length xs
pigeon xs n all = omega (arith, below n (λ j h. all j h), tally_most (λ x. ltb x n) xs)
  where
    below : (m : ℕ) → ((j : ℕ) → j < m → any_of (λ x. eqb x j) xs ≡ true) → m ≤ tally (λ x. ltb x m) xs
    below zero h = omega arith
    below (suc m) h =
        omega
        (arith, below m (λ j l. h j (omega arith)), tally_some (λ x. eqb x m) xs (h m (omega arith)), tally_next m xs)

-- of the numbers 0 .. n - 1, a list has no more in it than it is long
in_list : (xs : List ℕ) (n : ℕ) → used_of (λ s. any_of (λ x. eqb x s) xs) n ≤ length xs
unfolding used_of
in_list xs n = omega (arith, below n, tally_most (λ x. ltb x n) xs)
  where
    below : (m : ℕ) → used_of (λ s. any_of (λ x. eqb x s) xs) m ≤ tally (λ x. ltb x m) xs
    below zero = omega arith
    below (suc m) = go (any_of (λ x. eqb x m) xs) refl (below m)
      where
        go :
            (b : Bool) → any_of (λ x. eqb x m) xs ≡ b → used_of (λ s. any_of (λ x. eqb x s) xs) m ≤ tally (λ x. ltb x m) xs →
            pick b 1 0 + used_of (λ s. any_of (λ x. eqb x s) xs) m ≤ tally (λ x. ltb x (suc m)) xs
        go true e h = omega (arith, tally_some (λ x. eqb x m) xs e, tally_next m xs)
        go false e h = omega (arith, tally_next m xs)

-- the numbers that the elements of a list name
gather : {A : Type 0} → (A → List ℕ) → List A → List ℕ
gather f [] = []
gather f (x ∷ xs) = f x ++ gather f xs

gather_has :
    {A : Type 0} (has : ℕ → Bool) (f : A → List ℕ) (xs : List A) →
    any_of has (gather f xs) ≡ any_of (λ x. any_of has (f x)) xs
unfolding gather any_of
gather_has has f [] = refl
gather_has has f (x ∷ xs) =
    any_append has (f x) (gather f xs) ∙ ap (λ (b : Bool). any_of has (f x) or b) (gather_has has f xs)

-- where each names n at most; and where one of them names none
gather_most :
    {A : Type 0} (n : ℕ) (f : A → List ℕ) (xs : List A) →
    ((x : A) → length (f x) ≤ n) → length (gather f xs) ≤ n * length xs
unfolding gather
gather_most n f [] most = omega arith
gather_most n f (x ∷ xs) most =
    omega (arith, most x, gather_most n f xs most, length-append (f x) (gather f xs), mul-suc n (length xs))

gather_but :
    {A : Type 0} (n : ℕ) (f : A → List ℕ) (xs : List A) (d : A) (k : ℕ) →
    ((x : A) → length (f x) ≤ n) → k < length xs → length (f (get_or xs k d)) ≡ 0 →
    length (gather f xs) + n ≤ n * length xs
unfolding gather
gather_but n f [] d k most h e = absurd (omega arith)
gather_but n f (x ∷ xs) d zero most h e =
    omega (arith, e, gather_most n f xs most, length-append (f x) (gather f xs), mul-suc n (length xs))
gather_but n f (x ∷ xs) d (suc k) most h e =
    omega
    (arith, most x, gather_but n f xs d k most (omega arith) e, length-append (f x) (gather f xs), mul-suc n (length xs))

-- the sheets that a holder names, and that a worker keeps in use
named_by : Option ℕ → List ℕ
named_by None = []
named_by (Some s) = s ∷ []

kept_by : Worker → List ℕ
kept_by k = on_state k.state [] (λ p. k.own ∷ named_by (helped_of p)) (λ x. [])

named_is : (s : ℕ) (h : Option ℕ) → any_of (λ x. eqb x s) (named_by h) ≡ names h s
unfolding named_by any_of
named_is s None = refl
named_is s (Some t) = or_none (eqb t s)

named_most : (h : Option ℕ) → length (named_by h) ≤ 1
unfolding named_by
named_most None = omega arith
named_most (Some s) = omega arith

kept_is : (s : ℕ) (k : Worker) → any_of (λ x. eqb x s) (kept_by k) ≡ keeps k s
unfolding kept_by any_of
kept_is s k = go k.state
  where
    go :
        (x : State) →
        any_of (λ x. eqb x s) (on_state x [] (λ p. k.own ∷ named_by (helped_of p)) (λ x. [])) ≡
        on_state x false (λ p. eqb k.own s or names (helped_of p) s) (λ x. false)
    go Idle = refl
    go (UnderWay p) = ap (λ (b : Bool). eqb k.own s or b) (named_is s (helped_of p))
    go (Finished x) = refl

kept_most : (k : Worker) → length (kept_by k) ≤ 2
unfolding kept_by
kept_most k = go k.state
  where
    go : (x : State) → length (on_state x [] (λ p. k.own ∷ named_by (helped_of p)) (λ x. [])) ≤ 2
    go Idle = omega arith
    go (UnderWay p) = omega (arith, named_most (helped_of p))
    go (Finished x) = omega arith

kept_none : (k : Worker) → k.state ≡ Idle → length (kept_by k) ≡ 0
unfolding kept_by
kept_none k q = simp q

-- the sheets that the lock words name, and that the workers keep, are the sheets in use
abbrev held_in : List LockWord → List ℕ
held_in = gather (λ l. named_by l.holder)

used_is :
    (locks : List LockWord) (ks : List Worker) (s : ℕ) →
    in_use_of locks ks s ≡ any_of (λ x. eqb x s) (held_in locks ++ gather kept_by ks)
unfolding in_use_of
used_is locks ks s =
    let is : ℕ → Bool = λ x. eqb x s in
    let held : any_of is (held_in locks) ≡ any_of (lock_names s) locks =
    gather_has is _ locks ∙ ap (λ (has : LockWord → Bool). any_of has locks) (λ i l. named_is s l.holder i) in
    let kept : any_of is (gather kept_by ks) ≡ any_of (worker_keeps s) ks =
    gather_has is kept_by ks ∙ ap (λ (has : Worker → Bool). any_of has ks) (λ i k. kept_is s k i) in
    let all = any_append is (held_in locks) (gather kept_by ks) in
    cc

-- so many are named and kept where one worker is idle
all_most :
    (locks : List LockWord) (ks : List Worker) (d : Worker) (w : ℕ) → w < length ks → (get_or ks w d).state ≡ Idle →
    length (held_in locks ++ gather kept_by ks) ≤ most_used (length locks) (length ks)
all_most locks ks d w h i =
    let held = gather_most 1 (λ (l : LockWord). named_by l.holder) locks (λ l. named_most l.holder) in
    let kept = gather_but 2 kept_by ks d w kept_most h (kept_none (get_or ks w d) i) in
    omega (arith, length-append (held_in locks) (gather kept_by ks))

pub used_most :
    (locks : List LockWord) (ks : List Worker) (d : Worker) (n w : ℕ) → w < length ks → (get_or ks w d).state ≡ Idle →
    used_of (in_use_of locks ks) n ≤ most_used (length locks) (length ks)
used_most locks ks d n w h i =
    let xs = held_in locks ++ gather kept_by ks in
    let same : used_of (in_use_of locks ks) n ≡ used_of (λ s. any_of (λ x. eqb x s) xs) n =
    ap (λ (f : ℕ → Bool). used_of f n) (λ j s. used_is locks ks s j) in
    omega (arith, same, in_list xs n, all_most locks ks d w h i)

-- with more sheets than the locks name and all workers but one keep, one of the sheets is free
pub room :
    (locks : List LockWord) (ks : List Worker) (d : Worker) (n w : ℕ) → w < length ks → (get_or ks w d).state ≡ Idle →
    most_used (length locks) (length ks) < n → lowest_of (in_use_of locks ks) 0 n < n
room locks ks d n w h i few = ⊎_elim (λ q. q) (λ q. absurd (full q)) (below_or_not (lowest_of (in_use_of locks ks) 0 n) n)
  where
    full : n ≤ lowest_of (in_use_of locks ks) 0 n → ⊥
    full q =
        let many =
        pigeon (held_in locks ++ gather kept_by ks) n
        (λ j l. sym (used_is locks ks j) ∙ (lowest_is (in_use_of locks ks) 0 n).below j (omega arith) (omega arith)) in
        omega (arith, all_most locks ks d w h i)

pub counted : Counted
counted =
    record {
      most = λ locks ks n w h i. used_most locks ks worker0 n w h i;
      free = λ locks ks n w h i few. room locks ks worker0 n w h i few;
    }

-- "Begin takes the free sheet with the lowest number": with so few locks and workers there is one
pub takes_lowest :
    (locks : List LockWord) (ks : List Worker) (w : ℕ) → w < length ks → (get_or ks w worker0).state ≡ Idle →
    most_used (length locks) (length ks) < sheets →
    (in_use_of locks ks (free_sheet_of locks ks) ≡ false) × ((j : ℕ) → j < free_sheet_of locks ks → in_use_of locks ks j ≡ true)
takes_lowest locks ks w h i few =
    let used = in_use_of locks ks in
    let one = room locks ks worker0 sheets w h i few in
    let same : lowest_of used 0 sheets ≡ free_sheet_of locks ks = sym (lowest_within used (sheets - 1) sheets one (omega arith)) in
    lowest_free used sheets (free_sheet_of locks ks) same (omega arith)
