-- A job record's form comes before its instructions: which records have one, and what is told of the others.
use Rattle.std.specs.Prelude.{Err, Ok}
use Prim.Native.Nat.{ℕ, ◌+◌, ◌-◌, ◌*◌, ◌/◌, ◌%◌, ◌≤◌, ◌<◌}
use native.Mathlib.Omega.{arith}
use mathlib.Core.Bool.{Bool, true, false}
use mathlib.Core.List.{List}
use mathlib.Core.Path.{◌≡◌, refl, ◌∙◌, sym, ap}
use lib.Dec.{eqb, ltb}
use lib.ListN.{length, drop, length-drop}
use borrow.Author.Tests.{ltb-true, ltb-false, le-ltb, lt-ltb, eqb-true, eq-eqb}
use Rattle.parts.specs.Numbers.{instructions}
use Rattle.parts.specs.Pick.{pick, ◌or◌, ◌isnt◌}
use Rattle.parts.specs.Told.{◌then◌, refuse_if, first_of}
use Rattle.parts.specs.declared.Refusal.TheVariants.{Length, Kind}
use Rattle.parts.specs.declared.Refusal.{Refusal}
use Rattle.parts.specs.Told.{Told}
use Rattle.parts.proofs.Laws.{then_pass_by, then_stop_by}
use Rattle.parts.proofs.Order.{first_all, both_pass, row_passes, neither, not_isnt}
use Rattle.records.specs.Bytes.{kind_field, length_told, header}
use Rattle.records.specs.Inner.{Formed}
use Rattle.records.specs.Job.{Form, short, long, forms, kind_for, job_of, no_job_length, no_job_kind, outside_kind, form_order, code_told, told_by, job_told}
use Rattle.records.proofs.Fours.{instrs_length}
use Rattle.records.proofs.Laws.{length_four}

three_then : (t u v w : Told) → (t then (u then (v then w))) ≡ ((t then (u then v)) then w)
three_then (Err r) u v w = refl
three_then (Ok _) (Err r) v w = refl
three_then (Ok _) (Ok _) v w = refl

pub told_by_form :
    (takes : List Form) (rec : List ℕ) (lock : ℕ) (guards : List ℕ) →
    told_by takes rec lock guards ≡ (first_of (form_order takes rec) then code_told (job_of rec) 0 lock guards)
unfolding told_by
told_by_form takes rec lock guards =
    three_then (length_told rec) (refuse_if (no_job_kind takes (kind_field rec)) Kind)
    (refuse_if (outside_kind takes (kind_field rec) (length rec)) Length) (code_told (job_of rec) 0 lock guards)

-- what a callee told of the form
pub form_four : (rec : List ℕ) (t : Told) → t ≡ first_of (form_order forms rec) → t ≡ Ok tt → 4 ≤ length rec
form_four rec t q h = length_four rec (length_told rec) refl (first_all (form_order forms rec) (sym q ∙ h) 0)

pub job_stop :
    (rec : List ℕ) (lock : ℕ) (guards : List ℕ) (t : Told) (r : Refusal) → t ≡ first_of (form_order forms rec) → t ≡ Err r →
    t ≡ job_told rec lock guards
job_stop rec lock guards t r q h = then_stop_by t _ _ r q h ∙ sym (told_by_form forms rec lock guards)

pub job_pass :
    (rec : List ℕ) (lock : ℕ) (guards : List ℕ) (t x : Told) → t ≡ first_of (form_order forms rec) → t ≡ Ok tt →
    x ≡ code_told (job_of rec) 0 lock guards → x ≡ job_told rec lock guards
job_pass rec lock guards t x q h e = then_pass_by t _ _ x q h e ∙ sym (told_by_form forms rec lock guards)

-- a length of 4 + 4n, n in its range
pub length_in :
    (fewest most bytes : ℕ) → no_job_length fewest most bytes ≡ false →
    (bytes % 4 ≡ 0) × (4 + 4 * fewest ≤ bytes) × (bytes ≤ 4 + 4 * most)
length_in fewest most bytes h =
    let n = neither (bytes % 4 isnt 0) (ltb bytes (4 + 4 * fewest) or ltb (4 + 4 * most) bytes) h in
    let b = neither (ltb bytes (4 + 4 * fewest)) (ltb (4 + 4 * most) bytes) n.1 in
    (not_isnt (bytes % 4) 0 n.0, ltb-false bytes (4 + 4 * fewest) b.0, ltb-false (4 + 4 * most) bytes b.1)

pub in_length :
    (fewest most n : ℕ) → fewest ≤ n → n ≤ most → no_job_length fewest most (4 + 4 * n) ≡ false
in_length fewest most n low high =
    let m : (4 + 4 * n) % 4 ≡ 0 = omega arith in
    simp (eq-eqb ((4 + 4 * n) % 4) 0 m, le-ltb (4 + 4 * n) (4 + 4 * fewest) (omega arith), le-ltb (4 + 4 * most) (4 + 4 * n) (omega arith))

-- the kind of a count
kind_short : (n : ℕ) → n ≤ short.most → kind_for n ≡ short.kind
kind_short n h = ap (λ (b : Bool). pick b long.kind short.kind) (le-ltb short.most n h)

kind_long : (n : ℕ) → short.most < n → kind_for n ≡ long.kind
kind_long n h = ap (λ (b : Bool). pick b long.kind short.kind) (lt-ltb short.most n h)

pub kind_field_lem : (size kind : ℕ) (body : List ℕ) → kind_field (header size kind body) ≡ kind
kind_field_lem size kind body = omega arith

pub kind_byte : (n : ℕ) → kind_for n < 256
kind_byte n = go (ltb short.most n)
  where
    go : (b : Bool) → pick b long.kind short.kind < 256
    go true = omega arith
    go false = omega arith

-- a kind that is taken, with a count in its range: it is the kind of that count
pub form_known :
    (kind bytes n : ℕ) → n ≡ (bytes - 4) / 4 → no_job_kind forms kind ≡ false → outside_kind forms kind bytes ≡ false →
    (kind ≡ kind_for n) × (1 ≤ n) × (n ≤ instructions) × (bytes ≡ 4 + 4 * n)
form_known kind bytes n count a b = go (eqb kind short.kind) (eqb kind long.kind) refl refl a b
  where
    go :
        (p q : Bool) → eqb kind short.kind ≡ p → eqb kind long.kind ≡ q → pick p false (pick q false true) ≡ false →
        pick p (no_job_length short.fewest short.most bytes) (pick q (no_job_length long.fewest long.most bytes) false) ≡ false →
        (kind ≡ kind_for n) × (1 ≤ n) × (n ≤ instructions) × (bytes ≡ 4 + 4 * n)
    go true q e f x y =
        let l = length_in short.fewest short.most bytes y in
        (eqb-true kind short.kind e ∙ sym (kind_short n (omega arith)), omega arith, omega arith, omega arith)
    go false true e f x y =
        let l = length_in long.fewest long.most bytes y in
        (eqb-true kind long.kind f ∙ sym (kind_long n (omega arith)), omega arith, omega arith, omega arith)
    go false false e f x y = let z : ◌≡◌ {A = ℕ} 0 1 = cc in absurd (omega arith)

pub job_count : (rec : List ℕ) → length (job_of rec) ≡ (length rec - 4) / 4
job_count rec = instrs_length (drop 4 rec) ∙ ap (λ (k : ℕ). k / 4) (length-drop 4 rec)

pub formed : (rec : List ℕ) → first_of (form_order forms rec) ≡ Ok tt → Formed rec
formed rec h =
    let row = first_all (form_order forms rec) h in
    let known =
    form_known (kind_field rec) (length rec) (length (job_of rec)) (job_count rec) (row_passes _ Kind (row 1)) (row_passes _ Length (row 2)) in
    record { told = row 0; kind = known.0; fewest = known.1; most = known.2; size = known.3 }

-- and the other way
form_taken : (n : ℕ) → 1 ≤ n → n ≤ instructions →
    (no_job_kind forms (kind_for n) ≡ false) × (outside_kind forms (kind_for n) (4 + 4 * n) ≡ false)
form_taken n low high = go (ltb short.most n) refl
  where
    go :
        (b : Bool) → ltb short.most n ≡ b →
        (no_job_kind forms (pick b long.kind short.kind) ≡ false) ×
        (outside_kind forms (pick b long.kind short.kind) (4 + 4 * n) ≡ false)
    go true e = let l = ltb-true short.most n e in (refl, in_length long.fewest long.most n (omega arith) high)
    go false e = (refl, in_length short.fewest short.most n low (ltb-false short.most n e))

pub formed_passes : (rec : List ℕ) → Formed rec → first_of (form_order forms rec) ≡ Ok tt
formed_passes rec f =
    let taken = form_taken (length (job_of rec)) f.fewest f.most in
    let kind : no_job_kind forms (kind_field rec) ≡ false = ap (no_job_kind forms) f.kind ∙ taken.0 in
    let size : outside_kind forms (kind_field rec) (length rec) ≡ false =
    ap (λ (k : ℕ). outside_kind forms k (length rec)) f.kind ∙
    ap (outside_kind forms (kind_for (length (job_of rec)))) f.size ∙ taken.1 in
    simp (f.told, kind, size)

-- an accepted job record has the form, and its instructions pass
pub job_formed : (rec : List ℕ) (lock : ℕ) (guards : List ℕ) → job_told rec lock guards ≡ Ok tt → Formed rec
job_formed rec lock guards h = formed rec (both_pass _ (code_told (job_of rec) 0 lock guards) (sym (told_by_form forms rec lock guards) ∙ h)).0

pub job_code :
    (rec : List ℕ) (lock : ℕ) (guards : List ℕ) → job_told rec lock guards ≡ Ok tt → code_told (job_of rec) 0 lock guards ≡ Ok tt
job_code rec lock guards h = (both_pass (first_of (form_order forms rec)) _ (sym (told_by_form forms rec lock guards) ∙ h)).1
