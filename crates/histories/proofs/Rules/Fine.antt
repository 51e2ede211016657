-- A job that is told accepted is one that the theory asks for: each of its instructions goes on inside the program, and names a
-- word that the lock guards. The eight instructions enter once, in `sound`.
use Rattle.std.specs.Prelude.{Ok}
use Prim.Native.Nat.{ℕ, zero, suc, ◌+◌, ◌-◌, ◌≤◌, ◌<◌}
use native.Mathlib.Omega.{arith}
use mathlib.Core.Path.{◌≡◌, refl, ◌∙◌, sym, subst}
use mathlib.Core.Bool.{Bool, true, false}
use mathlib.Core.List.{List, [], ◌∷◌}
use lib.Dec.{eqb, leb, ltb}
use lib.ListN.{length, get_or}
use borrow.Author.Tests.{eqb-false, leb-false, ne_eqb}
use Rattle.parts.specs.Instr.{asks_of, over_of}
use Rattle.parts.specs.Numbers.{instructions}
use Rattle.parts.specs.Parts.{register_of}
use Rattle.parts.specs.Pick.{pick, ◌or◌, ◌isnt◌}
use Rattle.parts.specs.Told.{refuse_if}
use Rattle.parts.specs.declared.Instr.{Instr}
use Rattle.parts.specs.declared.Refusal.TheVariants.{Instruction, Guard}
use Rattle.parts.specs.declared.Registers.{Registers}
use Rattle.parts.proofs.Order.{first_all, both_pass, row_passes, neither, not_isnt}
use Rattle.records.specs.Job.{job_of, no_register, badly_formed, ends_otherwise, strays, strays_at, instr_told, code_told, job_told}
use Rattle.records.proofs.Form.{job_code}
use Rattle.engine.proofs.Begins.{job_size}
use Rattle.helping.specs.Machine.{Rules, Act, fin, go, touch, target, act_of, act_at}
use Rattle.helping.specs.Ideal.{Touches, far_of, Fine}
use Rattle.ranges.proofs.Frame.{pick_all}

-- what is asked of the act of an instruction that `left` others follow
Sound : ℕ → ℕ → List ℕ → Act → Type 0
Sound left lock guards (fin said) = Unit {0}
Sound left lock guards (go rs n) = n < left
Sound left lock guards (touch w f) = (0 < left) × (strays w lock guards ≡ false)

module _ (lock : ℕ) (guards : List ℕ) (r : Registers) where
  -- an instruction that is no halt is not the last
  more : (left : ℕ) → pick (eqb left 0) true false ≡ false → 0 < left
  more left h = go (eqb left 0) refl h
    where
      go : (b : Bool) → eqb left 0 ≡ b → pick b true false ≡ false → 0 < left
      go true e q = let z : ◌≡◌ {A = ℕ} 0 1 = cc in absurd (omega arith)
      go false e q = let n = eqb-false left 0 e in omega arith

  -- op by op: a skip passes over fewer than follow it; an op above 7, which no checked job has, would halt
  sound :
      (left op a b c : ℕ) → let i : Instr = record { op = op; a = a; b = b; c = c } in
      badly_formed i left ≡ false → ends_otherwise i left ≡ false → strays_at i lock guards ≡ false →
      Sound left lock guards (act_of i r)
  unfolding Sound badly_formed strays_at act_of asks_of
  sound left zero a b c f o s = tt
  sound left (suc zero) a b c f o s = more left o
  sound left (suc (suc zero)) a b c f o s = (more left o, s)
  sound left (suc (suc (suc zero))) a b c f o s = (more left o, s)
  sound left (suc (suc (suc (suc zero)))) a b c f o s = (more left o, s)
  sound left (suc (suc (suc (suc (suc zero))))) a b c f o s = more left o
  sound left (suc (suc (suc (suc (suc (suc zero)))))) a b c f o s = more left o
  sound left (suc (suc (suc (suc (suc (suc (suc zero))))))) a b c f o s =
      let over : over_of (record { op = 7; a = a; b = b; c = c }) r ≤ c =
      pick_all (λ n. n ≤ c) (eqb (register_of r a) (register_of r b)) c 0 (omega arith) (omega arith) in
      let registers = (neither (no_register a) (no_register b or ltb c 1 or leb left c) f).1 in
      let far = (neither (ltb c 1) (leb left c) (neither (no_register b) (ltb c 1 or leb left c) registers).1).1 in
      omega (arith, over, leb-false left c far)
  sound left (suc (suc (suc (suc (suc (suc (suc (suc op)))))))) a b c f o s =
      let no : (k : ℕ) → k < 8 → eqb (suc (suc (suc (suc (suc (suc (suc (suc op)))))))) k ≡ false =
      λ k h. ne_eqb _ k (λ q. omega arith) in
      simp (
        no 0 (omega arith),
        no 1 (omega arith),
        no 2 (omega arith),
        no 3 (omega arith),
        no 4 (omega arith),
        no 5 (omega arith),
        no 6 (omega arith),
        no 7 (omega arith),
      )
      tt

  instr_sound :
      (i : Instr) (place left : ℕ) → instr_told i place left lock guards ≡ Ok tt → Sound left lock guards (act_of i r)
  unfolding instr_told
  instr_sound i place left h =
      let rows =
      refuse_if (badly_formed i left or ends_otherwise i left) (Instruction place) ∷
      refuse_if (strays_at i lock guards) (Guard place) ∷ [] in
      let row = first_all rows h in
      let form = neither (badly_formed i left) (ends_otherwise i left) (row_passes _ (Instruction place) (row 0)) in
      sound left i.op i.a i.b i.c form.0 form.1 (row_passes _ (Guard place) (row 1))

  -- each instruction of a program that is told accepted
  code_sound :
      (code : List Instr) (place n left : ℕ) → code_told code place lock guards ≡ Ok tt → n + suc left ≡ length code →
      Sound left lock guards (act_at code n r)
  unfolding code_told
  code_sound [] place n left h q = absurd (omega arith)
  code_sound (i ∷ is) place zero left h q =
      let here = (both_pass (instr_told i place (length is) lock guards) (code_told is (place + 1) lock guards) h).0 in
      let last : length is ≡ left = omega arith in
      subst (λ m. Sound m lock guards (act_of i r)) last (instr_sound i place (length is) here)
  code_sound (i ∷ is) place (suc n) left h q =
      let rest = (both_pass (instr_told i place (length is) lock guards) (code_told is (place + 1) lock guards) h).1 in
      code_sound is (place + 1) n left rest (omega arith)

-- such an act goes no further than what follows, and the word that it touches does not stray
sound_far : (left lock : ℕ) (guards : List ℕ) (x : Act) → Sound left lock guards x → far_of x ≤ left
unfolding Sound
sound_far left lock guards (fin said) s = omega arith
sound_far left lock guards (go rs n) s = s
sound_far left lock guards (touch w f) s = s.0

sound_names :
    (left lock : ℕ) (guards : List ℕ) (x : Act) → Sound left lock guards x → Touches x →
    (target x < length guards) × (get_or guards (target x) 0 ≡ lock)
unfolding Sound
sound_names left lock guards (fin said) s t = absurd t
sound_names left lock guards (go rs n) s t = absurd t
sound_names left lock guards (touch w f) s t =
    let h = neither (leb (length guards) w) (get_or guards w 0 isnt lock) s.1 in
    (leb-false (length guards) w h.0, not_isnt (get_or guards w 0) lock h.1)

-- a job that is told accepted on a lock is fine there, under rules that have these words and guards
pub told_fine :
    (K : Rules) (rec : List ℕ) (l : ℕ) (guards : List ℕ) → K.most ≡ instructions → length K.values ≡ length guards →
    ((q : ℕ) → q < length guards → get_or guards q 0 ≡ K.guard q) → job_told rec l guards ≡ Ok tt → Fine K l (job_of rec)
told_fine K rec l guards most words g a =
    let size = job_size rec l guards a in
    record {
      some = size.0;
      short = omega (arith, size.1);
      inside = λ n r h. omega (arith, sound_far _ l guards (act_at (job_of rec) n r) (each n r h));
      names =
          λ n r h t.
          let w = sound_names _ l guards (act_at (job_of rec) n r) (each n r h) t in
          (omega (arith, w.0), sym (g _ w.0) ∙ w.1);
    }
  where
    each :
        (n : ℕ) (r : Registers) → n < length (job_of rec) →
        Sound (length (job_of rec) - suc n) l guards (act_at (job_of rec) n r)
    each n r h =
        code_sound l guards r (job_of rec) 0 n _ (job_code rec l guards a) (omega arith)
