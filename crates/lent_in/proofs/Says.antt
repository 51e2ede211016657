-- The numbers that setup and begin leave say the state of the call by value: by the definitions alone, of any numbers that are enough
-- for a state, and of a job's record whose elements are bytes.
use Rattle.std.specs.Prelude.{Err, Ok}
use Prim.Native.Nat.{ℕ, zero, suc, ◌+◌, ◌≤◌, ◌<◌}
use mathlib.Core.List.{List, [], ◌∷◌, map}
use mathlib.Core.Path.{◌≡◌, refl, ◌∙◌, sym, ap, subst}
use native.Mathlib.Omega.{arith}
use lib.ListN.{length, get_or, drop, replicate, length-map}
use lib.Seq.{get_or-drop}
use Rattle.arrays.specs.Fresh.{words_from, free_at}
use Rattle.parts.specs.Numbers.{most_locks, most_words, sheets, instructions}
use Rattle.parts.specs.Parts.{instr0, entry0}
use Rattle.parts.specs.Told.{on_told}
use Rattle.parts.specs.Told.{Told}
use Rattle.records.specs.Bytes.{AllBytes}
use Rattle.records.specs.Job.{instrs_of, job_of}
use Rattle.records.specs.Setup.{locks_field, words_field, guards_field, values_field, turns_field, setup_told}
use Rattle.records.proofs.One.{setup_sized, guards_count, turns_count}
use Rattle.records.proofs.Takes.{guards_below}
use Rattle.steps.specs.Worker.{looking_of, began_of}
use Rattle.steps.specs.declared.Worker.{Worker}
use Rattle.engine.specs.Calls.{outcome_of, fresh_of, setup_of, begin_told, begun_of, taken_of, begin_of}
use Rattle.engine.specs.Inner.{Begins}
use Rattle.engine.specs.State.{blank_of, worker_at, free_sheet, base_of, with_worker}
use Rattle.engine.specs.declared.Engine.{Engine}
use Rattle.engine.proofs.Begins.{begins, job_size, sheet_taken, looks}
use Rattle.cells.specs.Layout.{numbers, worker_part, lock_part, word_part, sheet_part, instr_part, entry_part, unpack, put_sizes, put_sheet, blanked}
use Rattle.cells.specs.Pieces.{Part, put_piece}
use Rattle.cells.specs.State.{with_sheet}
use Rattle.cells.proofs.Back.{word_back, sheet_back, instr_back, worker_back}
use Rattle.cells.proofs.Pieces.{length-put}
use Rattle.cells.proofs.Unpack.{Says, Puts, unpack_worker, unpack_lock, unpack_word, unpack_sheet, unpack_instr, unpack_entry, unpack_sizes, unpack-blanked, length_sizes, length-blanked}
use Rattle.lent_in.specs.Calls.{filled_numbers, filled_of, setup_numbers, copied_numbers, copied_of, sheet_for, begun_numbers, begin_numbers}
use Rattle.lent_in.specs.Laid.{put_all, lay_words, lay_locks, lay_program, lay_log}
use Rattle.lent_in.proofs.Filled.{fresh_is}
use Rattle.lent_in.proofs.Loops.{Lays, lays_words, lays_locks, lays_program, lays_log}

-- what is written of each piece reads back
Back : {A : Type 0} → Part A → List A → Type 0
Back p [] = Unit {0}
Back p (x ∷ xs) = (p.reading (p.writing x) ≡ x) × Back p xs

-- pieces written one after the other
laid_says :
    {A : Type 0} {p : Part A} {put : Engine → ℕ → A → Engine} {over : Engine → ℕ → List A → Engine} →
    Lays p put over → Puts p put →
    (s : List ℕ) (i : ℕ) (xs : List A) → numbers ≤ length s → i + length xs ≤ p.count → Back p xs →
    Says s (put_all p s i xs) (over (unpack s) i xs)
unfolding Back put_all
laid_says o law s i [] h b r = (sym (o.none (unpack s) i), refl)
laid_says {A} {p} {put} {over} o law s i (x ∷ xs) h b r =
    let z : length (put_piece p s i x) ≡ length s = length-put p s i x in
    let q = law s i x h (omega arith) r.0 in
    let t = laid_says o law (put_piece p s i x) (i + 1) xs (omega (arith, z)) (omega arith) r.1 in
    (t.0 ∙ ap (λ (e : Engine). over e (i + 1) xs) q ∙ sym (o.more (unpack s) i x xs), t.1 ∙ z)

back_same : {A : Type 0} (p : Part A) (x : A) → p.reading (p.writing x) ≡ x → (n : ℕ) → Back p (replicate n x)
unfolding Back
back_same p x r zero = tt
back_same p x r (suc n) = (r, back_same p x r n)

back_instrs : (s : List ℕ) → AllBytes s → Back instr_part (instrs_of s)
unfolding Back instrs_of
back_instrs [] h = tt
back_instrs (o ∷ []) h = tt
back_instrs (o ∷ a ∷ []) h = tt
back_instrs (o ∷ a ∷ b ∷ []) h = tt
back_instrs (o ∷ a ∷ b ∷ c ∷ s) h =
    (instr_back (record { op = o; a = a; b = b; c = c }) (h 0) (h 1) (h 2) (h 3), back_instrs s (λ k. h (suc (suc (suc (suc k))))))

back_words : (guards values : List ℕ) → ((k : ℕ) → k < length guards → get_or guards k 0 < 256) → Back word_part (words_from guards values)
unfolding Back words_from
back_words [] values h = tt
back_words (g ∷ gs) [] h = tt
back_words (g ∷ gs) (v ∷ vs) h =
    (word_back (record { value = v; count = 0; guard = g }) (h 0 (omega arith)), back_words gs vs (λ k l. h (suc k) (omega arith)))

back_locks : (turns : List ℕ) → Back lock_part (map free_at turns)
unfolding Back
back_locks [] = tt
back_locks (t ∷ ts) = (refl, back_locks ts)

words_size : (guards values : List ℕ) → length (words_from guards values) ≤ length guards
unfolding words_from
words_size [] values = omega arith
words_size (g ∷ gs) [] = omega arith
words_size (g ∷ gs) (v ∷ vs) = omega (arith, words_size gs vs)

-- "Setup makes a fresh state; a refused one gives the blank state"
filled_says :
    (s rec : List ℕ) → numbers ≤ length s → setup_told rec ≡ Ok tt → Says s (filled_numbers s rec) (filled_of (unpack s) rec)
unfolding filled_numbers filled_of
filled_says s rec h a =
    let z = setup_sized rec a in
    let L = locks_field rec in
    let W = words_field rec in
    let words = words_from (guards_field rec) (values_field rec) in
    let locks = map free_at (turns_field rec) in
    let t = put_sizes s L W in
    let n : length t ≡ length s = length_sizes s L W in
    let small : length words ≤ most_words = omega (arith, words_size (guards_field rec) (values_field rec), guards_count rec a, z.words.1) in
    let few : length locks ≤ most_locks = omega (arith, length-map (turns_field rec) free_at, turns_count rec a, z.locks.1) in
    let x = unpack_sizes s L W h (omega (arith, z.locks.1)) (omega (arith, z.words.1)) in
    let y =
    laid_says lays_words unpack_word t 0 words (omega (arith, n)) (omega arith)
    (back_words (guards_field rec) (values_field rec)
    (λ k l. omega (arith, z.locks.1, guards_below (guards_field rec) L 6 z.guards k l))) in
    let v =
    laid_says lays_locks unpack_lock (put_all word_part t 0 words) 0 locks (omega (arith, n, y.1)) (omega arith)
    (back_locks (turns_field rec)) in
    (v.0 ∙ ap (λ (e : Engine). lay_locks e 0 locks) (y.0 ∙ ap (λ (e : Engine). lay_words e 0 words) x), v.1 ∙ y.1 ∙ n)

pub setup_says : (s rec : List ℕ) → numbers ≤ length s → Says s (setup_numbers s rec) (setup_of rec).engine
unfolding setup_numbers setup_of
setup_says s rec h = go (setup_told rec) refl
  where
    go :
        (t : Told) → setup_told rec ≡ t →
        Says s (on_told t (filled_numbers (blanked s) rec) (λ r. blanked s)) (outcome_of blank_of t (fresh_of rec)).engine
    go (Ok _) e =
        let n : length (blanked s) ≡ length s = length-blanked s in
        let x = filled_says (blanked s) rec (omega (arith, n)) e in
        (x.0 ∙ ap (λ (d : Engine). filled_of d rec) (unpack-blanked s h) ∙ fresh_is rec, x.1 ∙ n)
    go (Err r) e = (unpack-blanked s h, length-blanked s)

-- "Begin (worker, lock, job record) takes a sheet, copies the job, empties the log, clears the mark."
copied_says :
    (s rec : List ℕ) (sheet : ℕ) → numbers ≤ length s → sheet < sheets → AllBytes rec → length (job_of rec) ≤ instructions →
    Says s (copied_numbers s rec sheet) (copied_of (unpack s) rec sheet)
unfolding copied_numbers copied_of
copied_says s rec sheet h b bytes m =
    let base = base_of sheet in
    let x =
    laid_says lays_program unpack_instr s base (replicate instructions instr0) h (omega arith)
    (back_same instr_part instr0 refl instructions) in
    let t = put_all instr_part s base (replicate instructions instr0) in
    let y =
    laid_says lays_program unpack_instr t base (job_of rec) (omega (arith, x.1)) (omega arith)
    (back_instrs (drop 4 rec) (λ k. omega (arith, get_or-drop 4 rec k 0, bytes (4 + k)))) in
    let u = put_all instr_part t base (job_of rec) in
    let z =
    laid_says lays_log unpack_entry u base (replicate instructions entry0) (omega (arith, x.1, y.1)) (omega arith)
    (back_same entry_part entry0 refl instructions) in (
      z.0 ∙
          ap (λ (e : Engine). lay_log e base (replicate instructions entry0))
          (y.0 ∙ ap (λ (e : Engine). lay_program e base (job_of rec)) x.0),
      z.1 ∙ y.1 ∙ x.1,
    )

begun_says :
    (s : List ℕ) (w l : ℕ) (rec : List ℕ) → numbers ≤ length s → AllBytes rec → Begins (unpack s) w l rec →
    Says s (begun_numbers s w l rec (free_sheet (unpack s))) (taken_of (unpack s) w l rec)
unfolding begun_numbers begun_of copied_of
begun_says s w l rec h bytes b =
    let sheet = free_sheet (unpack s) in
    let m = job_size rec l _ b.job in
    let x = copied_says s rec sheet h (sheet_taken (unpack s)) bytes m.1 in
    let t = copied_numbers s rec sheet in
    let n : numbers ≤ length t = omega (arith, x.1) in
    let y = unpack_sheet t sheet (sheet_for rec) n (sheet_taken (unpack s)) (sheet_back (sheet_for rec) (omega (arith, m.1))) in
    let u = put_sheet t sheet (sheet_for rec) in
    let q : length u ≡ length t = length-put sheet_part t sheet (sheet_for rec) in
    let k = began_of (worker_at (unpack s) w) l sheet in
    let is : k ≡ looking_of l sheet = looks (worker_at (unpack s) w) l sheet b.idle in
    let back : worker_part.reading (worker_part.writing k) ≡ k =
    subst (λ (j : Worker). worker_part.reading (worker_part.writing j) ≡ j) (sym is)
    (worker_back (looking_of l sheet) (record { lock = omega (arith, b.lock); own = omega (arith, sheet_taken (unpack s)) }) tt) in
    let v = unpack_worker u w k (omega (arith, q)) b.worker back in (
      v ∙ ap (λ (e : Engine). with_worker e w k) (y ∙ ap (λ (e : Engine). with_sheet e sheet (sheet_for rec)) x.0),
      length-put worker_part u w k ∙ q ∙ x.1,
    )

pub begin_says :
    (s : List ℕ) (w l : ℕ) (rec : List ℕ) → numbers ≤ length s → AllBytes rec →
    Says s (begin_numbers s w l rec) (begin_of (unpack s) w l rec).engine
unfolding begin_numbers begin_of
begin_says s w l rec h bytes = go (begin_told (unpack s) w l rec) refl
  where
    go :
        (t : Told) → begin_told (unpack s) w l rec ≡ t →
        Says s (on_told t (begun_numbers s w l rec (free_sheet (unpack s))) (λ r. s))
        (outcome_of (unpack s) t (taken_of (unpack s) w l rec)).engine
    go (Ok _) e = begun_says s w l rec h bytes (begins (unpack s) w l rec e)
    go (Err r) e = (refl, refl)
