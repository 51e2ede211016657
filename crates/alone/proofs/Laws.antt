-- The instructions of a part of the bytes, and one turn of a job alone.
use Prim.Native.Nat.{ℕ, zero, suc, ◌+◌, ◌-◌, ◌*◌, ◌≤◌, ◌<◌}
use mathlib.Core.Path.{◌≡◌, refl, ◌∙◌, sym}
use mathlib.Core.Bool.{Bool, false}
use mathlib.Core.List.{List, [], ◌∷◌}
use native.Mathlib.Omega.{arith}
use lib.ListN.{length, get_or, set, take, drop}
use lib.Seq.{drop-drop, drop-nil}
use Rattle.parts.specs.Instr.{asks_of, follows_of, on_asks, on_follows}
use Rattle.parts.specs.declared.Asks.{Asks}
use Rattle.parts.specs.declared.Asks.TheVariants.{Halt, Go, Touch}
use Rattle.parts.specs.declared.Follows.{Follows}
use Rattle.parts.specs.declared.Follows.TheVariants.{Done, Swap}
use Rattle.parts.specs.declared.Instr.{Instr}
use Rattle.parts.specs.declared.Registers.{Registers}
use Rattle.records.specs.Job.{first_instr, instrs_of}
use Rattle.records.proofs.Fours.{instrs_short, instrs_turn}
use Rattle.records.proofs.Laws.{part_end}
use Rattle.alone.specs.Alone.{Left, left_of, touched_registers, touched_words, alone_from}

-- what follows the first instruction
instrs_rest : (n : ℕ) (s : List ℕ) → drop n (instrs_of (drop 4 s)) ≡ drop (suc n) (instrs_of s)
unfolding instrs_of
instrs_rest n [] = drop-nil n
instrs_rest n (op ∷ []) = drop-nil n
instrs_rest n (op ∷ a ∷ []) = drop-nil n
instrs_rest n (op ∷ a ∷ b ∷ []) = drop-nil n
instrs_rest n (op ∷ a ∷ b ∷ c ∷ rest) = refl

-- the program's bytes from instruction n on are its instructions from n on
pub instrs_drop : (n : ℕ) (s : List ℕ) → instrs_of (drop (4 * n) s) ≡ drop n (instrs_of s)
instrs_drop zero s = refl
instrs_drop (suc n) s =
    let e : 4 * suc n ≡ 4 + 4 * n = omega arith in
    rw (e, ← drop-drop (4 * n) 4 s) (instrs_drop n (drop 4 s) ∙ instrs_rest n s)

-- "a skip goes on with the rest of the program from the instruction reached"
pub alone_drop :
    (n : ℕ) (is : List Instr) (r : Registers) (words : List ℕ) (k : ℕ) →
    alone_from n is r words k ≡ alone_from zero (drop n is) r words k
unfolding alone_from
alone_drop zero is r words k = refl
alone_drop (suc n) [] r words k = refl
alone_drop (suc n) (i ∷ is) r words k = alone_drop n is r words k

-- a program with no instruction left
pub alone_end :
    (s : List ℕ) (r : Registers) (words : List ℕ) (k : ℕ) →
    length s < 4 →
    left_of false k words ≡ alone_from zero (instrs_of s) r words k
unfolding alone_from
alone_end s r words k h = simp (instrs_short s h)

-- a job that touched its word goes on with what that left
pub touched_on :
    (f : Follows) (r : Registers) (w : ℕ) (words : List ℕ) (on : Registers → List ℕ → Left) →
    on_follows f (λ next. on next words) (λ new. on r (set words w new)) ≡
    on (on_follows f (λ next. next) (λ new. r)) (on_follows f (λ next. words) (λ new. set words w new))
touched_on (Done next) r w words on = refl
touched_on (Swap new) r w words on = refl

-- a program that has an instruction left
module _ (s : List ℕ) (r : Registers) (words : List ℕ) (k : ℕ) (h : 4 ≤ length s) where
  -- one turn, by what the first instruction asks
  pub alone_turn :
      alone_from zero (instrs_of s) r words k ≡
      on_asks (asks_of (first_instr s) r) (λ said. left_of said (k + 1) words)
      (λ next n. alone_from n (instrs_of (drop 4 s)) next words (k + 1))
      (λ w.
      on_follows (follows_of (first_instr s) r (get_or words w 0)) (λ next. alone_from zero (instrs_of (drop 4 s)) next words (k + 1))
      (λ new. alone_from zero (instrs_of (drop 4 s)) r (set words w new) (k + 1)))
  unfolding alone_from
  alone_turn = simp (instrs_turn s h)

  -- a halt
  pub alone_halt :
      (i : Instr) (asks : Asks) (said : Bool) →
      i ≡ first_instr s →
      asks ≡ asks_of i r →
      asks ≡ Halt said →
      left_of said (k + 1) words ≡ alone_from zero (instrs_of s) r words k
  alone_halt i asks said e q f = sym (simp (alone_turn, ← e, ← q, f))

  -- set, add, sub and skip: on from the instruction reached
  pub alone_go :
      (i : Instr) (asks : Asks) (next : Registers) (n : ℕ) (rest : List ℕ) (left : Left) →
      i ≡ first_instr s →
      asks ≡ asks_of i r →
      asks ≡ Go next n →
      rest ≡ drop (4 * n) (take (length s - 4) (drop 4 s)) →
      left ≡ alone_from zero (instrs_of rest) next words (k + 1) →
      left ≡ alone_from zero (instrs_of s) r words k
  alone_go i asks next n rest left e q f p g =
      g ∙ sym (simp (alone_turn, ← e, ← q, f, p, part_end, instrs_drop) (alone_drop n (instrs_of (drop 4 s)) next words (k + 1)))

  -- load, store and cam: on with the next instruction
  pub alone_touch :
      (i : Instr) (asks : Asks) (w : ℕ) (next : Registers) (after : List ℕ) (left : Left) →
      i ≡ first_instr s →
      asks ≡ asks_of i r →
      asks ≡ Touch w →
      next ≡ touched_registers i r w words →
      after ≡ touched_words i r w words →
      left ≡ alone_from zero (instrs_of (take (length s - 4) (drop 4 s))) next after (k + 1) →
      left ≡ alone_from zero (instrs_of s) r words k
  alone_touch i asks w next after left e q f n a g =
      let t : asks_of (first_instr s) r ≡ Touch w = simp (← e) (cc) in
      let on : Registers → List ℕ → Left = λ next words. alone_from zero (instrs_of (drop 4 s)) next words (k + 1) in
      g ∙ simp (part_end, n, a, e)
      (sym (simp (alone_turn, t) (touched_on (follows_of (first_instr s) r (get_or words w 0)) r w words on)))

-- each return of the run
pub ruleset turns = (alone_end, alone_halt, alone_go, alone_touch)
