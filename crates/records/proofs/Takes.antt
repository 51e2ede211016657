-- What is written is taken: the setup record of fields that are in range is accepted, and has those fields; a job record is told
-- what its instructions are told, and has that job.
use Rattle.std.specs.Prelude.{Ok}
use Prim.Native.Nat.{ℕ, zero, suc, ◌+◌, ◌*◌, ◌/◌, ◌^◌, ◌≤◌, ◌<◌}
use mathlib.Core.Path.{◌≡◌, refl, ◌∙◌, sym, ap, subst}
use mathlib.Core.List.{List, [], ◌∷◌, ◌++◌, append_assoc}
use native.Mathlib.Omega.{arith}
use lib.Dec.{leb, ltb}
use lib.ListN.{length, get_or, take, drop, length-append}
use lib.Seq.{drop-drop, take_at, drop_at}
use borrow.Author.Tests.{leb-false, le-ltb, ltb-false}
use Rattle.parts.specs.Numbers.{instructions, most_locks, most_words, last_turn}
use Rattle.parts.specs.declared.Instr.{Instr}
use Rattle.parts.specs.Told.{refuse_if, first_of}
use Rattle.parts.specs.declared.Refusal.TheVariants.{Range}
use Rattle.parts.proofs.Laws.{laws, order}
use Rattle.parts.proofs.Order.{both_pass, row_passes}
use Rattle.records.specs.Bytes.{u32s_of, u32s_bytes, length_field, length_told}
use Rattle.records.specs.Job.{forms, kind_for, code_bytes, job_of, job_record, form_order, code_told, job_told}
use Rattle.records.specs.Setup.{locks_field, words_field, guards_field, values_field, turns_field, setup_length, setup_record, guards_told, turns_told, setup_told}
use Rattle.records.specs.Inner.{Sized}
use Rattle.records.proofs.Form.{kind_field_lem, formed_passes, job_pass}
use Rattle.records.proofs.Laws.{guards_all}
use Rattle.records.proofs.Fours.{instrs_of_code, code_length, u32s_of_bytes, bytes_length}

-- every turn is at most the last
turns_all : (turns : List ℕ) (place : ℕ) → ((k : ℕ) → get_or turns k 0 ≤ last_turn) → turns_told turns place ≡ Ok tt
unfolding turns_told
turns_all [] place h = refl
turns_all (t ∷ ts) place h = simp (le-ltb last_turn t (h zero)) (turns_all ts (place + 4) (λ k. h (suc k)))

-- and where they are accepted they are so
pub guards_below :
    (guards : List ℕ) (locks place : ℕ) →
    guards_told guards locks place ≡ Ok tt →
    (k : ℕ) →
    k < length guards →
    get_or guards k 0 < locks
unfolding guards_told
guards_below [] locks place h k q = absurd (omega arith)
guards_below (g ∷ gs) locks place h zero q =
    leb-false locks g (row_passes (leb locks g) (Range place) (both_pass _ (guards_told gs locks (place + 1)) h).0)
guards_below (g ∷ gs) locks place h (suc k) q =
    guards_below gs locks (place + 1) (both_pass (refuse_if (leb locks g) (Range place)) _ h).1 k (omega arith)

pub turns_below : (turns : List ℕ) (place : ℕ) → turns_told turns place ≡ Ok tt → (k : ℕ) → get_or turns k 0 ≤ last_turn
unfolding turns_told
turns_below [] place h k = omega arith
turns_below (t ∷ ts) place h zero =
    ltb-false last_turn t (row_passes (ltb last_turn t) (Range place) (both_pass _ (turns_told ts (place + 4)) h).0)
turns_below (t ∷ ts) place h (suc k) =
    turns_below ts (place + 4) (both_pass (refuse_if (ltb last_turn t) (Range place)) _ h).1 k

length_passes : (rec : List ℕ) → 4 ≤ length rec → length_field rec ≡ length rec → Ok tt ≡ length_told rec
length_passes rec h e = search laws depth 8

-- the sizes and fields of a record are right: it is accepted
pub sized_setup : (rec : List ℕ) → Sized rec → setup_told rec ≡ Ok tt
unfolding setup_told
sized_setup rec z =
    let t : Ok tt ≡ length_told rec = sym z.told in
    let g : Ok tt ≡ guards_told (guards_field rec) (locks_field rec) 6 = sym z.guards in
    let u : Ok tt ≡ turns_told (turns_field rec) (6 + 5 * words_field rec) = sym z.turns in
    let n : 6 ≤ length rec = omega arith in
    sym (search (laws, order) depth 12)

module _ (guards values turns : List ℕ) (same : length values ≡ length guards) where
  written : List ℕ
  written = setup_record guards values turns

  body : drop 6 written ≡ guards ++ (u32s_bytes values ++ u32s_bytes turns)
  unfolding written
  body = append_assoc guards (u32s_bytes values) (u32s_bytes turns)

  written_length : length written ≡ setup_length (length turns) (length guards)
  unfolding written
  written_length =
      let v = bytes_length values in
      let t = bytes_length turns in
      let a = length-append (guards ++ u32s_bytes values) (u32s_bytes turns) in
      let b = length-append guards (u32s_bytes values) in
      omega arith

  guards_same : guards_field written ≡ guards
  unfolding written
  guards_same = ap (λ (l : List ℕ). take (length guards) l) body ∙ take_at guards _ (length guards) refl

  after : drop (6 + length guards) written ≡ u32s_bytes values ++ u32s_bytes turns
  after =
      sym (drop-drop (length guards) 6 written) ∙ ap (λ (l : List ℕ). drop (length guards) l) body ∙
      drop_at guards _ (length guards) refl

  count : length (u32s_bytes values) ≡ 4 * length guards
  count = bytes_length values ∙ omega arith

  values_same : ((k : ℕ) → get_or values k 0 < 2 ^ 32) → values_field written ≡ values
  unfolding written
  values_same h =
      ap (λ (l : List ℕ). u32s_of (take (4 * length guards) l)) after ∙
      ap u32s_of (take_at (u32s_bytes values) (u32s_bytes turns) (4 * length guards) count) ∙ u32s_of_bytes values h

  turns_same : ((k : ℕ) → get_or turns k 0 < 2 ^ 32) → turns_field written ≡ turns
  unfolding written
  turns_same h =
      let at : 6 + length guards + 4 * length guards ≡ 6 + 5 * length guards = omega arith in
      ap u32s_of
      (sym (drop-drop (4 * length guards) (6 + length guards) written ∙ ap (λ (k : ℕ). drop k written) at) ∙
      ap (λ (l : List ℕ). drop (4 * length guards) l) after ∙
      drop_at (u32s_bytes values) (u32s_bytes turns) (4 * length guards) count) ∙
      u32s_of_bytes turns h

pub setup_takes :
    (guards values turns : List ℕ) →
    (1 ≤ length turns) × (length turns ≤ most_locks) →
    (1 ≤ length guards) × (length guards ≤ most_words) →
    length values ≡ length guards →
    ((k : ℕ) → get_or guards k 0 < length turns) →
    ((k : ℕ) → get_or values k 0 < 2 ^ 32) →
    ((k : ℕ) → get_or turns k 0 ≤ last_turn) →
    (setup_told (setup_record guards values turns) ≡ Ok tt) × (guards_field (setup_record guards values turns) ≡ guards) ×
    (values_field (setup_record guards values turns) ≡ values) × (turns_field (setup_record guards values turns) ≡ turns)
unfolding written
setup_takes guards values turns l w same below fits last =
    let rec = setup_record guards values turns in
    let n = setup_length (length turns) (length guards) in
    let g = guards_same guards values turns same in
    let v = values_same guards values turns same fits in
    let t = turns_same guards values turns same (λ k. omega (arith, last k)) in
    let size : length rec ≡ n = written_length guards values turns same in
    let low : n / 256 < 256 = omega arith in
    let field : length_field rec ≡ length rec = omega arith in
    let told = sym (length_passes rec (omega arith) field) in
    let gs : guards_told (guards_field rec) (locks_field rec) 6 ≡ Ok tt = simp g (sym (guards_all guards (length turns) 6 (λ k q. below k))) in
    let ts : turns_told (turns_field rec) (6 + 5 * length guards) ≡ Ok tt = simp t (turns_all turns _ last) in
    (sized_setup rec (record { told = told; kind = refl; locks = l; words = w; size = size; guards = gs; turns = ts }), g, v, t)

-- of the record of 1 to 64 instructions is told what is told of the instructions
pub job_takes :
    (is : List Instr) (lock : ℕ) (guards : List ℕ) →
    (1 ≤ length is) × (length is ≤ instructions) →
    (job_told (job_record is) lock guards ≡ code_told is 0 lock guards) × (job_of (job_record is) ≡ is)
job_takes is lock guards n =
    let rec = job_record is in
    let job : job_of rec ≡ is = instrs_of_code is in
    let size : length rec ≡ 4 + 4 * length is = omega (arith, code_length is) in
    let byte : (4 + 4 * length is) / 256 < 256 = omega arith in
    let field : length_field rec ≡ length rec = omega arith in
    let same : length is ≡ length (job_of rec) = ap length (sym job) in
    let low : length_told rec ≡ Ok tt = sym (length_passes rec (omega arith) field) in
    let passes : first_of (form_order forms rec) ≡ Ok tt =
    formed_passes rec
    (record {
      told = low;
      kind = kind_field_lem (4 + 4 * length is) (kind_for (length is)) (code_bytes is) ∙ ap kind_for same;
      fewest = subst (λ (n : ℕ). 1 ≤ n) same n.0;
      most = subst (λ (n : ℕ). n ≤ instructions) same n.1;
      size = size ∙ ap (λ (n : ℕ). 4 + 4 * n) same;
    }) in
    (sym (job_pass rec lock guards (Ok tt) (code_told is 0 lock guards) (sym passes) refl (ap (λ (l : List Instr). code_told l 0 lock guards) (sym job))), job)
