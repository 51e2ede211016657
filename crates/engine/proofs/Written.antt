-- What show and park write: a record is laid part by part. And what is known of the buffer where they were accepted.
use Rattle.std.specs.Prelude.{Ok}
use Prim.Native.Nat.{ℕ, ◌+◌, ◌*◌, ◌≤◌, ◌<◌}
use mathlib.Core.Path.{◌≡◌, ◌∙◌, sym, ap}
use mathlib.Core.Bool.{true, false}
use mathlib.Core.List.{List, [], ◌∷◌, ◌++◌, map}
use native.Mathlib.Omega.{arith}
use borrow.Author.Tests.{leb-false, ltb-false}
use lib.Dec.{leb}
use lib.ListN.{length, take, drop, set, length-append, length-map}
use lib.Seq.{length-take-le}
use Rattle.arrays.proofs.Laws.{fits_from}
use Rattle.arrays.specs.Fresh.{guards_of, values_of, turns_of}
use Rattle.parts.specs.Lay.{lay}
use Rattle.parts.specs.Numbers.{sheets, entries, most_words, most_locks}
use Rattle.parts.specs.Pick.{pick}
use Rattle.parts.specs.declared.Instr.{Instr}
use Rattle.parts.specs.declared.LockWord.{LockWord}
use Rattle.parts.specs.declared.Refusal.TheVariants.{SheetFree, Buffer}
use Rattle.parts.specs.Told.{Told}
use Rattle.parts.specs.declared.Word.{Word}
use Rattle.parts.proofs.Lay.{lay-append}
use Rattle.parts.proofs.Order.{first_all, row_passes, neither}
use Rattle.records.specs.Bytes.{u32s_bytes, header}
use Rattle.records.specs.Job.{kind_for, code_bytes, job_record}
use Rattle.records.specs.Setup.{setup_kind, setup_length}
use Rattle.records.proofs.Fours.{code_length, bytes_length}
use Rattle.engine.specs.Calls.{show_order, show_told, park_order, park_told}
use Rattle.engine.specs.State.{lock_count, word_count, in_use, program_length, record_of}
use Rattle.engine.specs.Written.{fields_of}
use Rattle.engine.specs.declared.Engine.{Engine}

-- a list laid, and another laid past it
laid_past :
    {A : Type 0} (at past : ℕ) (xs ys l mid next : List A) →
    past ≡ at + length xs →
    mid ≡ lay at xs l →
    next ≡ lay past ys mid →
    next ≡ lay at (xs ++ ys) l
laid_past at past xs ys l mid next h e f =
    f ∙ ap (λ (k : ℕ). lay k ys mid) h ∙ ap (λ (m : List _). lay (at + length xs) ys m) e ∙ sym (lay-append at xs ys l)

-- of the first n elements there are n, and as many of what f makes of them
first_count : {A : Type 0} (f : A → ℕ) (n : ℕ) (xs : List A) → n ≤ length xs → length (map f (take n xs)) ≡ n
first_count f n xs h = length-map (take n xs) f ∙ length-take-le n xs h

-- n instructions from `base` on are there
code_count : (program : List Instr) (base n : ℕ) → base + n ≤ length program → length (take n (drop base program)) ≡ n
code_count program base n h = length-take-le n (drop base program) (fits_from base n program h)

-- the job record of those: its length, and that it is laid
pub program_size :
    (program : List Instr) (base n : ℕ) →
    base + n ≤ entries →
    length program ≡ entries →
    4 + 4 * n ≡ length (job_record (take n (drop base program)))
program_size program base n h k =
    let c = code_count program base n (omega arith) in
    omega (arith, code_length (take n (drop base program)))

pub program_laid :
    (program : List Instr) (base n kind : ℕ) (buf mid next : List ℕ) →
    mid ≡ lay 0 (header (4 + 4 * n) kind []) buf →
    kind ≡ kind_for n →
    next ≡ lay 4 (code_bytes (take n (drop base program))) mid →
    base + n ≤ entries →
    length program ≡ entries →
    next ≡ lay 0 (job_record (take n (drop base program))) buf
program_laid program base n kind buf mid next e q f h k =
    simp (code_count program base n (omega arith), ← q)
    (laid_past 0 4 (header (4 + 4 * n) kind []) _ buf mid next (omega arith) e f)

-- two bytes past a header
pub sizes_laid :
    (size kind a b : ℕ) (buf mid : List ℕ) →
    mid ≡ lay 0 (header size kind []) buf →
    set (set mid 4 a) 5 b ≡ lay 0 (header size kind (a ∷ b ∷ [])) buf
unfolding lay
sizes_laid size kind a b buf mid e = simp e

-- the setup record of the first w words and the first l locks
module _
    (words : List Word) (locks : List LockWord) (w l : ℕ) (w_Fits : w ≤ most_words) (All-words : length words ≡ most_words)
    (l-fits : l ≤ most_locks) (all-locks : length locks ≡ most_locks) where
  guards_are : length (guards_of (take w words)) ≡ w
  guards_are = first_count (λ x. x.guard) w words (omega arith)

  values_are : length (u32s_bytes (values_of (take w words))) ≡ 4 * w
  values_are =
      bytes_length (values_of (take w words)) ∙ ap (λ (n : ℕ). 4 * n) (first_count (λ x. x.value) w words (omega arith))

  turns_are : length (turns_of (take l locks)) ≡ l
  turns_are = first_count (λ x. x.turn) l locks (omega arith)

  -- its fields are laid one after the other
  pub fields_laid :
      (buf guarded valued next : List ℕ) →
      guarded ≡ lay 6 (guards_of (take w words)) buf →
      valued ≡ lay (6 + w) (u32s_bytes (values_of (take w words))) guarded →
      next ≡ lay (6 + 5 * w) (u32s_bytes (turns_of (take l locks))) valued →
      next ≡ lay 6 (fields_of (take w words) (take l locks)) buf
  fields_laid buf guarded valued next e f g =
      let gs = guards_of (take w words) in
      let vs = u32s_bytes (values_of (take w words)) in
      let p : 6 + w ≡ 6 + length gs = omega (arith, guards_are) in
      let q : 6 + 5 * w ≡ 6 + length (gs ++ vs) = omega (arith, length-append gs vs, guards_are, values_are) in
      laid_past 6 (6 + 5 * w) (gs ++ vs) _ buf valued next q (laid_past 6 (6 + w) gs vs buf guarded valued p e f) g

  -- it is laid: the sizes, and the fields past them
  pub setup_laid :
      (buf sized next : List ℕ) →
      sized ≡ lay 0 (header (setup_length l w) setup_kind (l ∷ w ∷ [])) buf →
      next ≡ lay 6 (fields_of (take w words) (take l locks)) sized →
      next ≡ lay 0 (record_of (take w words) (take l locks)) buf
  setup_laid buf sized next e f =
      simp (guards_are, turns_are)
      (laid_past 0 6 (header (setup_length l w) setup_kind (l ∷ w ∷ [])) _ buf sized next (omega arith) e f)

  -- and its length
  pub setup_size : setup_length l w ≡ length (record_of (take w words) (take l locks))
  setup_size =
      let gs = guards_of (take w words) in
      let vs = u32s_bytes (values_of (take w words)) in
      let ts = u32s_bytes (turns_of (take l locks)) in
      let n = length-append (gs ++ vs) ts in
      let m = length-append gs vs in
      omega (arith, guards_are, values_are, bytes_length (turns_of (take l locks)), turns_are)

-- an accepted show: there is such a sheet, and the buffer has room for its record
pub show_room :
    (e : Engine) (s room : ℕ) (t : Told) →
    t ≡ show_told e s room →
    t ≡ Ok tt →
    (s < sheets) × (4 + 4 * program_length e s ≤ room)
unfolding show_told
show_room e s room t q h =
    let row = first_all (show_order e s room) (sym q ∙ h) in
    let free = neither (leb sheets s) (pick (in_use e s) false true) (row_passes _ SheetFree (row 0)) in
    (leb-false sheets s free.0, ltb-false room _ (row_passes _ Buffer (row 1)))

-- an accepted park: the buffer has room for the record
pub park_room :
    (e : Engine) (room : ℕ) (t : Told) →
    t ≡ park_told e room →
    t ≡ Ok tt →
    setup_length (lock_count e) (word_count e) ≤ room
unfolding park_told
park_room e room t q h = ltb-false room _ (row_passes _ Buffer (first_all (park_order e.lock (lock_count e) (word_count e) room) (sym q ∙ h) 2))
