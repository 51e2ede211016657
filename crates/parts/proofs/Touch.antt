-- The word that an instruction touches is the word that it names: what a step reads out of the state by `word_of` is what a job
-- alone reads by `asks_of`.
use Rattle.std.proofs.Common.{◌≡◌, ℕ, Bool, true, false, eqb, refl, arith, eqb-true}
use Rattle.parts.specs.Instr.{set_of, add_of, sub_of, over_of, word_of, asks_of}
use Rattle.parts.specs.Pick.{pick}
use Rattle.parts.specs.declared.Asks.TheVariants.{Halt, Go, Touch}
use Rattle.parts.specs.declared.Instr.{Instr}
use Rattle.parts.specs.declared.Registers.{Registers}

pub touch_word : (i : Instr) (r : Registers) (w : ℕ) → asks_of i r ≡ Touch w → w ≡ word_of i
unfolding asks_of word_of
touch_word i r w h =
    go (eqb op 0) (eqb op 1) (eqb op 2) (eqb op 3) (eqb op 4) (eqb op 5) (eqb op 6) (eqb op 7) refl refl refl h
  where
    op : ℕ
    op = i.op

    go :
        (a b c d e f g k : Bool) →
        eqb i.op 2 ≡ c →
        eqb i.op 3 ≡ d →
        eqb i.op 4 ≡ e →
        pick a (Halt (eqb i.a 1))
        (pick b (Go (set_of i r) 0)
        (pick c (Touch i.b)
        (pick d (Touch i.b)
        (pick e (Touch i.c)
        (pick f (Go (add_of i r) 0)
        (pick g (Go (sub_of i r) 0)
        (pick k (Go r (over_of i r)) (Halt false)))))))) ≡ Touch w →
        w ≡ pick (eqb i.op 4) i.c i.b
    go true b c d e f g k p q s h = let z : ◌≡◌ {A = ℕ} 0 1 = cc in absurd (omega arith)
    go false true c d e f g k p q s h = let z : ◌≡◌ {A = ℕ} 0 1 = cc in absurd (omega arith)
    go false false true d e f g k p q s h =
        let two : i.op ≡ 2 = eqb-true i.op 2 p in
        simp two (cc)
    go false false false true e f g k p q s h =
        let three : i.op ≡ 3 = eqb-true i.op 3 q in
        simp three (cc)
    go false false false false true f g k p q s h = simp s (cc)
    go false false false false false true g k p q s h = let z : ◌≡◌ {A = ℕ} 0 1 = cc in absurd (omega arith)
    go false false false false false false true k p q s h = let z : ◌≡◌ {A = ℕ} 0 1 = cc in absurd (omega arith)
    go false false false false false false false true p q s h = let z : ◌≡◌ {A = ℕ} 0 1 = cc in absurd (omega arith)
    go false false false false false false false false p q s h = let z : ◌≡◌ {A = ℕ} 0 1 = cc in absurd (omega arith)
