-- Records have one encoding each: an accepted record is the record of what it says, so that two that say the same are equal.
use Rattle.std.specs.Prelude.{Ok}
use Prim.Native.Nat.{ℕ, zero, suc, ◌+◌, ◌*◌, ◌/◌, ◌%◌, ◌≤◌, ◌<◌}
use mathlib.Core.Path.{◌≡◌, refl, ◌∙◌, sym, ap}
use mathlib.Core.Bool.{false}
use mathlib.Core.List.{List, [], ◌∷◌, ◌++◌, append_assoc}
use native.Mathlib.Omega.{arith}
use lib.Dec.{ltb}
use lib.ListN.{length, get_or, take, drop, length-drop, take-append-drop}
use lib.Seq.{drop-cons, drop-drop, get_or-drop, length-take-le}
use borrow.Author.Tests.{ltb-false}
use Rattle.parts.specs.Numbers.{most_locks, most_words}
use Rattle.parts.specs.Pick.{◌isnt◌}
use Rattle.parts.specs.Told.{refuse_if}
use Rattle.parts.specs.declared.Instr.{Instr}
use Rattle.parts.specs.declared.Refusal.TheVariants.{Length, Kind, Range}
use Rattle.parts.proofs.Order.{first_all, row_passes, neither, not_isnt}
use Rattle.records.specs.Bytes.{AllBytes, u32s_bytes, kind_field, length_told, header}
use Rattle.records.specs.Job.{kind_for, job_of, job_record, job_told}
use Rattle.records.specs.Setup.{setup_kind, locks_field, words_field, guards_field, values_field, turns_field, setup_length, setup_record, outside, guards_told, turns_told, setup_told}
use Rattle.records.specs.Inner.{Sized}
use Rattle.records.proofs.Fours.{u32s_length, code_of_instrs, bytes_of_u32s}
use Rattle.records.proofs.Form.{kind_byte, job_formed}
use Rattle.records.proofs.Laws.{length_known}

pub drop_bytes : (n : ℕ) (s : List ℕ) → AllBytes s → AllBytes (drop n s)
drop_bytes n s h k = omega (arith, get_or-drop n s k 0, h (n + k))

four_first : (s : List ℕ) → 4 ≤ length s → s ≡ get_or s 0 0 ∷ get_or s 1 0 ∷ get_or s 2 0 ∷ get_or s 3 0 ∷ drop 4 s
four_first [] h = absurd (omega arith)
four_first (a ∷ []) h = absurd (omega arith)
four_first (a ∷ b ∷ []) h = absurd (omega arith)
four_first (a ∷ b ∷ c ∷ []) h = absurd (omega arith)
four_first (a ∷ b ∷ c ∷ d ∷ rest) h = refl

-- a record whose length and kind are right is their header with what follows
pub header_is :
    (rec : List ℕ) (n kind : ℕ) (body : List ℕ) →
    AllBytes rec →
    length_told rec ≡ Ok tt →
    kind_field rec ≡ kind →
    kind < 256 →
    n ≡ length rec →
    body ≡ drop 4 rec →
    header n kind body ≡ rec
header_is rec n kind body h t k q e b =
    let f = length_known rec (length_told rec) refl t in
    let b0 = h 0 in
    let b1 = h 1 in
    let b2 = h 2 in
    let e0 : n % 256 ≡ get_or rec 0 0 = omega arith in
    let d : n / 256 ≡ get_or rec 1 0 = omega arith in
    let e1 : n / 256 % 256 ≡ get_or rec 1 0 = omega arith in
    let e2 : kind ≡ get_or rec 2 0 = omega arith in
    let e3 : 0 ≡ get_or rec 3 0 = omega arith in
    let w = four_first rec f.0 in
    cc

-- an accepted job record is the record of its job
pub job_back :
    (rec : List ℕ) (lock : ℕ) (guards : List ℕ) → AllBytes rec → job_told rec lock guards ≡ Ok tt → job_record (job_of rec) ≡ rec
job_back rec lock guards b h =
    let f = job_formed rec lock guards h in
    header_is rec (4 + 4 * length (job_of rec)) (kind_for (length (job_of rec))) _ b f.told f.kind (kind_byte (length (job_of rec)))
    (sym f.size) (code_of_instrs (drop 4 rec) (drop_bytes 4 rec b) (omega (arith, length-drop 4 rec, f.size)))

-- two accepted job records of one job are equal, whatever the locks and the guards
pub job_one :
    (rec rec' : List ℕ) (lock lock' : ℕ) (guards guards' : List ℕ) →
    AllBytes rec →
    AllBytes rec' →
    job_told rec lock guards ≡ Ok tt →
    job_told rec' lock' guards' ≡ Ok tt →
    job_of rec ≡ job_of rec' →
    rec ≡ rec'
job_one rec rec' lock lock' guards guards' b b' h h' e =
    sym (job_back rec lock guards b h) ∙ ap (λ (is : List Instr). job_record is) e ∙ job_back rec' lock' guards' b' h'

take_bytes : (n : ℕ) (s : List ℕ) → AllBytes s → AllBytes (take n s)
take_bytes zero s h k = omega arith
take_bytes (suc n) [] h k = omega arith
take_bytes (suc n) (x ∷ s) h zero = h zero
take_bytes (suc n) (x ∷ s) h (suc k) = take_bytes n s (λ j. h (suc j)) k

inside : (most n : ℕ) → outside most n ≡ false → (1 ≤ n) × (n ≤ most)
inside most n h = let e = neither (ltb n 1) (ltb most n) h in (ltb-false n 1 e.0, ltb-false most n e.1)

pub setup_sized : (rec : List ℕ) → setup_told rec ≡ Ok tt → Sized rec
unfolding setup_told
setup_sized rec h =
    let rows =
    length_told rec ∷ refuse_if (kind_field rec isnt setup_kind) Kind ∷ refuse_if (ltb (length rec) 6) Length ∷
    refuse_if (outside most_locks (locks_field rec)) (Range 4) ∷ refuse_if (outside most_words (words_field rec)) (Range 5) ∷
    refuse_if (length rec isnt setup_length (locks_field rec) (words_field rec)) Length ∷
    guards_told (guards_field rec) (locks_field rec) 6 ∷ turns_told (turns_field rec) (6 + 5 * words_field rec) ∷ [] in
    let row = first_all rows h in
    record {
      told = row 0;
      kind = not_isnt (kind_field rec) setup_kind (row_passes _ Kind (row 1));
      locks = inside most_locks (locks_field rec) (row_passes _ (Range 4) (row 3));
      words = inside most_words (words_field rec) (row_passes _ (Range 5) (row 4));
      size = not_isnt (length rec) _ (row_passes _ Length (row 5));
      guards = row 6;
      turns = row 7;
    }

module _ (rec : List ℕ) (h : setup_told rec ≡ Ok tt) where
  sized : Sized rec
  sized = setup_sized rec h

  -- there are as many guards and values as W says, and as many turns as L says
  pub guards_count : length (guards_field rec) ≡ words_field rec
  guards_count =
      let z = sized.size in
      let d = length-drop 6 rec in
      length-take-le (words_field rec) (drop 6 rec) (omega arith)

  value_bytes : length (take (4 * words_field rec) (drop (6 + words_field rec) rec)) ≡ 4 * words_field rec
  value_bytes =
      let z = sized.size in
      let d = length-drop (6 + words_field rec) rec in
      length-take-le (4 * words_field rec) (drop (6 + words_field rec) rec) (omega arith)

  pub values_count : length (values_field rec) ≡ words_field rec
  values_count = u32s_length (take (4 * words_field rec) (drop (6 + words_field rec) rec)) ∙ omega (arith, value_bytes)

  pub turns_count : length (turns_field rec) ≡ locks_field rec
  turns_count =
      let z = sized.size in
      u32s_length (drop (6 + 5 * words_field rec) rec) ∙ omega (arith, length-drop (6 + 5 * words_field rec) rec)

  -- an accepted setup record is the record of its fields
  pub setup_back : AllBytes rec → setup_record (guards_field rec) (values_field rec) (turns_field rec) ≡ rec
  setup_back b =
      let z = sized.size in
      let w = words_field rec in
      let rest = drop (6 + w) rec in
      let vs : u32s_bytes (values_field rec) ≡ take (4 * w) rest =
      bytes_of_u32s (take (4 * w) rest) (take_bytes (4 * w) rest (drop_bytes (6 + w) rec b)) (omega (arith, value_bytes)) in
      let at : 6 + w + 4 * w ≡ 6 + 5 * w = omega arith in
      let ts : u32s_bytes (turns_field rec) ≡ drop (4 * w) rest =
      bytes_of_u32s (drop (6 + 5 * w) rec) (drop_bytes (6 + 5 * w) rec b) (omega (arith, length-drop (6 + 5 * w) rec)) ∙
      sym (drop-drop (4 * w) (6 + w) rec ∙ ap (λ (k : ℕ). drop k rec) at) in
      let joined : u32s_bytes (values_field rec) ++ u32s_bytes (turns_field rec) ≡ drop w (drop 6 rec) =
      simp (vs, ts) (take-append-drop (4 * w) rest ∙ sym (drop-drop w 6 rec)) in
      let all : guards_field rec ++ u32s_bytes (values_field rec) ++ u32s_bytes (turns_field rec) ≡ drop 6 rec =
      append_assoc (guards_field rec) _ _ ∙ ap (λ (l : List ℕ). guards_field rec ++ l) joined ∙ take-append-drop w (drop 6 rec) in
      let l4 = drop-cons rec 4 0 (omega arith) in
      let l5 = drop-cons rec 5 0 (omega arith) in
      header_is rec _ setup_kind _ b sized.told sized.kind (omega arith) (omega (arith, turns_count, guards_count))
      (cc (turns_count, guards_count))

-- two accepted setup records with the same fields are equal
pub setup_one :
    (rec rec' : List ℕ) →
    AllBytes rec →
    AllBytes rec' →
    setup_told rec ≡ Ok tt →
    setup_told rec' ≡ Ok tt →
    guards_field rec ≡ guards_field rec' →
    values_field rec ≡ values_field rec' →
    turns_field rec ≡ turns_field rec' →
    rec ≡ rec'
setup_one rec rec' b b' h h' g v t =
    sym (setup_back rec h b) ∙ simp (g, v, t) (setup_back rec' h' b')
