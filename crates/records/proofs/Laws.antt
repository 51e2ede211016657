-- One turn and the end of each loop.
use Rattle.std.specs.Prelude.{Err, Ok}
use Rattle.std.proofs.Common.{add-one}
use Prim.Native.Nat.{ℕ, zero, suc, ◌+◌, ◌-◌, ◌*◌, ◌/◌, ◌≤◌, ◌<◌}
use mathlib.Core.Path.{◌≡◌, refl, ◌∙◌, sym, ap}
use mathlib.Core.Bool.{Bool, true, false}
use mathlib.Core.List.{List, [], ◌∷◌, ◌++◌, append_assoc}
use native.Mathlib.Omega.{arith}
use lib.Dec.{eqb, ltb}
use lib.ListN.{length, get_or, set, take, drop, length-append, length-drop, drop_of_length-le}
use lib.Seq.{drop-drop, take_all, drop-cons}
use borrow.Rule.Slice.PartMut.{put_mid}
use borrow.Author.Tests.{ltb-false, eqb-true, le-leb, lt-leb}
use Rattle.parts.specs.Lay.{lay}
use Rattle.parts.specs.Numbers.{last_turn}
use Rattle.parts.specs.Pick.{pick, ◌or◌}
use Rattle.parts.specs.Told.{◌then◌, refuse_if}
use Rattle.parts.specs.declared.Instr.{Instr}
use Rattle.parts.specs.declared.Refusal.{Refusal}
use Rattle.parts.specs.declared.Refusal.TheVariants.{Length, Range}
use Rattle.parts.specs.Told.{Told}
use Rattle.parts.proofs.Lay.{lay_is, lay_step, lay_done}
use Rattle.records.specs.Bytes.{u32_at, u32s_of, length_field, length_told}
use Rattle.records.specs.Job.{instrs_of, first_instr}
use Rattle.records.specs.Inner.{Lowest}
use Rattle.records.specs.Setup.{guards_told, turns_told}
use Rattle.records.proofs.Fours.{instrs_short, instrs_four, instrs_length, u32s_short, u32s_four}

-- the row on a record's length is passed: there are four bytes, and the length field is their number
pub length_known :
    (rec : List ℕ) (t : Told) → t ≡ length_told rec → t ≡ Ok tt → (4 ≤ length rec) × (length_field rec ≡ length rec)
length_known rec t q h = go (ltb (length rec) 4) (eqb (length_field rec) (length rec)) refl refl (sym q ∙ h)
  where
    go :
        (a b : Bool) →
        ltb (length rec) 4 ≡ a →
        eqb (length_field rec) (length rec) ≡ b →
        refuse_if (a or pick b false true) Length ≡ Ok tt →
        (4 ≤ length rec) × (length_field rec ≡ length rec)
    go true b p q e = let z : ◌≡◌ {A = ℕ} 0 1 = cc in absurd (omega arith)
    go false true p q e = (ltb-false _ _ p, eqb-true _ _ q)
    go false false p q e = let z : ◌≡◌ {A = ℕ} 0 1 = cc in absurd (omega arith)

pub length_four : (rec : List ℕ) (t : Told) → t ≡ length_told rec → t ≡ Ok tt → 4 ≤ length rec
length_four rec t q h = (length_known rec t q h).0

-- a part of a slice, as the code takes it
pub part_end : (n : ℕ) (s : List ℕ) → take (length s - n) (drop n s) ≡ drop n s
part_end n s = take_all (length s - n) (drop n s) (simp (length-drop n s) (omega arith))

pub part_of : (a n : ℕ) (s : List ℕ) → take (a + n - a) (drop a s) ≡ take n (drop a s)
part_of a n s = let e : a + n - a ≡ n = omega arith in simp e

-- a part that is written whole, as the code puts it back, is laid
pub part_laid :
    {A : Type 0} (at n : ℕ) (xs ys l : List A) → ys ≡ xs → length xs ≡ n → at + n ≤ length l →
    put_mid at (at + n - at) l ys ≡ lay at xs l
part_laid at n xs ys l e k h =
    let f : at + n - at ≡ n = omega arith in
    let s : at + length xs ≤ length l = omega arith in
    simp (e, f, ← k, lay_is at xs l s, append_assoc, drop-drop)

-- one turn and the end of a loop that writes numbers one by one
pub write_turn :
    (goal l xs : List ℕ) (at j : ℕ) →
    goal ≡ lay (at + j) (drop j xs) l →
    j < length xs →
    goal ≡ lay (at + (j + 1)) (drop (j + 1) xs) (set l (at + j) (get_or xs j 0))
write_turn goal l xs at j g h =
    lay_step goal l _ _ (at + j) (at + (j + 1)) (get_or xs j 0) (omega arith) (drop-cons xs j 0 h ∙ simp (add-one j)) g

pub write_end : (goal l xs : List ℕ) (at j : ℕ) → goal ≡ lay (at + j) (drop j xs) l → length xs ≤ j → l ≡ goal
write_end goal l xs at j g h = lay_done goal l _ (at + j) (drop_of_length-le xs h) g

-- the first instruction, of which u is told, and those after it; n is the length of the whole code. The place and the number of those
-- after it are any that equal these, so that code is held to their values and not to how it writes them
module _ (Tells : Instr → ℕ → ℕ → Told → Type 0) (t : Told) where
  pub lowest_turn :
      (s four rest : List ℕ) (i : Instr) (at place left next n : ℕ) (u : Told) →
      s ≡ four ++ rest →
      length four ≡ 4 →
      length s + 4 * at ≡ n →
      place ≡ at →
      left ≡ n / 4 - 1 - at →
      next ≡ at + 1 →
      i ≡ first_instr four →
      Tells i place left u →
      (u ≡ Ok tt → Lowest Tells (instrs_of rest) next t) →
      ((r : Refusal) → u ≡ Err r → t ≡ Err r) →
      Lowest Tells (instrs_of s) at t
  unfolding Lowest
  lowest_turn s four rest i at place left next n u e f m p d q o h a b =
      let k = simp length-append at (ap length e) in
      let l : n / 4 - 1 - at ≡ length (instrs_of rest) = simp (instrs_length rest) (omega arith) in
      rw (instrs_four s four rest e f) (u, rw (o, p, d ∙ l) at h, λ z. rw q at (a z), b)

  pub lowest_end : (s : List ℕ) (place : ℕ) → length s < 4 → t ≡ Ok tt → Lowest Tells (instrs_of s) place t
  unfolding Lowest
  lowest_end s place h e = rw (instrs_short s h) e

-- where each is told what `each` says, and `all` is that of the first, and then that of those after it
pub lowest_is :
    (Tells : Instr → ℕ → ℕ → Told → Type 0) (each : Instr → ℕ → ℕ → Told) (all : List Instr → ℕ → Told) →
    ((i : Instr) (place left : ℕ) (u : Told) → Tells i place left u → u ≡ each i place left) →
    ((place : ℕ) → all [] place ≡ Ok tt) →
    ((i : Instr) (is : List Instr) (place : ℕ) → all (i ∷ is) place ≡ (each i place (length is) then all is (place + 1))) →
    (is : List Instr) (place : ℕ) (t : Told) → Lowest Tells is place t → t ≡ all is place
unfolding Lowest
lowest_is Tells each all tells none more [] place t h = h ∙ sym (none place)
lowest_is Tells each all tells none more (i ∷ is) place t (u, x, a, b) =
    go u (tells i place (length is) u x) (λ z. lowest_is Tells each all tells none more is (place + 1) t (a z)) b ∙ sym (more i is place)
  where
    go :
        (u : Told) → u ≡ each i place (length is) → (u ≡ Ok tt → t ≡ all is (place + 1)) → ((r : Refusal) → u ≡ Err r → t ≡ Err r) →
        t ≡ (each i place (length is) then all is (place + 1))
    go (Ok _) e a b = a refl ∙ simp (← e)
    go (Err r) e a b = b r refl ∙ simp (← e)

-- the guards before the i-th are locks, and it is none; all are
pub guards_at :
    (guards : List ℕ) (locks place i : ℕ) → i < length guards → locks ≤ get_or guards i 0 →
    ((k : ℕ) → k < i → get_or guards k 0 < locks) → Err (Range (place + i)) ≡ guards_told guards locks place
unfolding guards_told
guards_at [] locks place i h a b = absurd (omega arith)
guards_at (g ∷ gs) locks place zero h a b = let e : place + 0 ≡ place = omega arith in simp (le-leb locks g a, e)
guards_at (g ∷ gs) locks place (suc i) h a b =
    let e : place + suc i ≡ place + 1 + i = omega arith in
    simp (e, lt-leb locks g (b 0 (omega arith))) (guards_at gs locks (place + 1) i (omega arith) a (λ k q. b (suc k) (omega arith)))

pub guards_all :
    (guards : List ℕ) (locks place : ℕ) → ((k : ℕ) → k < length guards → get_or guards k 0 < locks) →
    (Ok tt) ≡ guards_told guards locks place
unfolding guards_told
guards_all [] locks place b = refl
guards_all (g ∷ gs) locks place b =
    simp (lt-leb locks g (b 0 (omega arith))) (guards_all gs locks (place + 1) (λ k q. b (suc k) (omega arith)))

-- the first turn, and those after it
pub turns_turn :
    (s four rest : List ℕ) (place : ℕ) →
    s ≡ four ++ rest →
    length four ≡ 4 →
    turns_told (u32s_of s) place ≡
    (refuse_if (ltb last_turn (u32_at four 0)) (Range place) then turns_told (u32s_of rest) (place + 4))
unfolding turns_told
turns_turn s four rest place e n = simp (u32s_four s four rest e n)

pub turns_end : (s : List ℕ) (place : ℕ) → length s < 4 → turns_told (u32s_of s) place ≡ Ok tt
unfolding turns_told
turns_end s place h = simp (u32s_short s h)
