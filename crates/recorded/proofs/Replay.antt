-- A file's records are walked as their calls are made directly, whatever follows them.
use Rattle.std.specs.Prelude.{Err, Ok}
use Prim.Native.Nat.{ℕ, zero, suc, ◌+◌, ◌≤◌}
use mathlib.Core.Path.{◌≡◌, refl, ◌∙◌, sym, ap, ap₂}
use mathlib.Core.Bool.{Bool, true, false}
use mathlib.Core.List.{List, [], ◌∷◌, ◌++◌, append_assoc, append-nil}
use native.Mathlib.Omega.{arith}
use lib.ListN.{length, take, drop, length-drop, length-append, take-append-drop}
use lib.Seq.{take-append_seam, drop-append_seam}
use borrow.Author.Tests.{le-ltb}
use Rattle.parts.specs.Pick.{pick}
use Rattle.parts.specs.Told.{Told}
use Rattle.records.specs.Bytes.{AllBytes, length_field, length_told}
use Rattle.records.specs.Setup.{setup_told}
use Rattle.records.proofs.Laws.{length_known}
use Rattle.records.proofs.One.{setup_sized, drop_bytes}
use Rattle.engine.specs.Calls.{outcome_of, fresh_of, setup_of}
use Rattle.engine.specs.State.{blank_of}
use Rattle.engine.specs.declared.Engine.{Engine}
use Rattle.past.specs.Past.{Call, Begin, Step, Collect, Drop, ReadWord, ReadLock, Show, Park, after, after_all, AllRecords}
use Rattle.calls.specs.Record.{record_told, call_in, call_record}
use Rattle.calls.proofs.Laws.{holds}
use Rattle.files.specs.File.{call_line, Walked, ◌before◌, walk_from, line_text, lines_text, setup_text, walked_from, most_file, no_setup, setup_state, printed_of, replayed_state}
use Rattle.files.specs.declared.make.Line.{Line}
use Rattle.files.proofs.Walks.{walk_record}
use Rattle.recorded.specs.Recorded.{is_written, records_of, file_of, lines_along, in_bytes, IsFile, Split}
use Rattle.recorded.proofs.Encoding.{read_back, whole_call, calls_in}
use Rattle.recorded.proofs.Same.{told_same, left_same, unwritten_refused}

-- the records of a history: of its first call, and of the others
bytes_first : (c : Call) (cs : List Call) → AllRecords (c ∷ cs) → AllRecords (c ∷ [])
unfolding AllRecords
bytes_first (Begin w l rec) cs h = (h.0, tt)
bytes_first (Step w) cs h = tt
bytes_first (Collect w) cs h = tt
bytes_first (Drop w) cs h = tt
bytes_first (ReadWord i) cs h = tt
bytes_first (ReadLock l) cs h = tt
bytes_first (Show s room) cs h = tt
bytes_first (Park room) cs h = tt

bytes_rest : (c : Call) (cs : List Call) → AllRecords (c ∷ cs) → AllRecords cs
unfolding AllRecords
bytes_rest (Begin w l rec) cs h = h.1
bytes_rest (Step w) cs h = h
bytes_rest (Collect w) cs h = h
bytes_rest (Drop w) cs h = h
bytes_rest (ReadWord i) cs h = h
bytes_rest (ReadLock l) cs h = h
bytes_rest (Show s room) cs h = h
bytes_rest (Park room) cs h = h

-- a call that has no record changes nothing
unwritten_left : (e : Engine) (c : Call) → is_written c ≡ false → after e c ≡ e
unfolding after is_written
unwritten_left e (Begin w l rec) h = (unwritten_refused e w l rec h).1
unwritten_left e (Step w) h = let z : ◌≡◌ {A = ℕ} 0 1 = cc in absurd (omega arith)
unwritten_left e (Collect w) h = let z : ◌≡◌ {A = ℕ} 0 1 = cc in absurd (omega arith)
unwritten_left e (Drop w) h = let z : ◌≡◌ {A = ℕ} 0 1 = cc in absurd (omega arith)
unwritten_left e (ReadWord i) h = refl
unwritten_left e (ReadLock l) h = refl
unwritten_left e (Show s room) h = refl
unwritten_left e (Park room) h = refl

-- lines told before those of a walk
abbrev pub told_before : List Line → Walked → Walked
told_before lines walked = record { lines = lines ++ walked.lines; engine = walked.engine }

-- one record, whatever follows it
one_record :
    (e : Engine) (c : Call) (rest : List ℕ) → AllRecords (c ∷ []) → is_written c ≡ true →
    walk_from zero e (call_record c ++ rest) ≡ (call_line e c before walk_from zero (after e c) rest)
one_record e c rest b h =
    let s = call_record c ++ rest in
    let r = read_back c rest b h in
    walk_record e s r.0 ∙
    ap (λ (k : Call). call_line e k before walk_from zero (after e k) (drop (length_field s) s)) r.2 ∙
    ap (λ (m : Line). m before walk_from zero (after e (in_bytes c)) (drop (length_field s) s)) (told_same e c) ∙
    ap (λ (f : Engine). call_line e c before walk_from zero f (drop (length_field s) s)) (left_same e c) ∙
    ap (λ (t : List ℕ). call_line e c before walk_from zero (after e c) t)
    (ap (λ (n : ℕ). drop n s) r.1 ∙ drop-append_seam (call_record c) rest)

pub walks :
    (e : Engine) (cs : List Call) (rest : List ℕ) → AllRecords cs →
    walk_from zero e (records_of cs ++ rest) ≡ told_before (lines_along e cs) (walk_from zero (after_all e cs) rest)
unfolding records_of lines_along after_all
walks e [] rest b = refl
walks e (c ∷ cs) rest b = go (walks (after e c) cs rest (bytes_rest c cs b)) (is_written c) refl
  where
    go :
        walk_from zero (after e c) (records_of cs ++ rest) ≡
        told_before (lines_along (after e c) cs) (walk_from zero (after_all (after e c) cs) rest) →
        (q : Bool) → is_written c ≡ q →
        walk_from zero e ((pick q (call_record c) [] ++ records_of cs) ++ rest) ≡
        told_before (pick q (call_line e c ∷ []) [] ++ lines_along (after e c) cs) (walk_from zero (after_all (after e c) cs) rest)
    go next true h =
        ap (walk_from zero e) (append_assoc (call_record c) (records_of cs) rest) ∙
        one_record e c (records_of cs ++ rest) (bytes_first c cs b) h ∙ ap (λ (w : Walked). call_line e c before w) next
    go next false h = ap (λ (f : Engine). walk_from zero f (records_of cs ++ rest)) (sym (unwritten_left e c h)) ∙ next

-- the lines of two lists, one after the other
pub lines_both :
    (index : ℕ) (xs ys : List Line) → lines_text index (xs ++ ys) ≡ lines_text index xs ++ lines_text (index + length xs) ys
unfolding lines_text
lines_both index [] ys = ap (λ (n : ℕ). lines_text n ys) (omega arith)
lines_both index (x ∷ xs) ys =
    let e : index + 1 + length xs ≡ index + length (x ∷ xs) = omega arith in
    ap (λ (t : List ℕ). line_text index x ++ t) (lines_both (index + 1) xs ys ∙ ap (λ (n : ℕ). lines_text (index + 1) xs ++ lines_text n ys) e) ∙
    sym (append_assoc (line_text index x) (lines_text (index + 1) xs) (lines_text (index + length (x ∷ xs)) ys))

pub records_both : (cs more : List Call) → records_of (cs ++ more) ≡ records_of cs ++ records_of more
unfolding records_of
records_both [] more = refl
records_both (c ∷ cs) more =
    ap (λ (s : List ℕ). pick (is_written c) (call_record c) [] ++ s) (records_both cs more) ∙
    sym (append_assoc (pick (is_written c) (call_record c) []) (records_of cs) (records_of more))

-- a setup record that setup accepts is as long as its length field says
outcome_told : (e x : Engine) (t : Told) → (outcome_of e t x).told ≡ t
outcome_told e x (Ok _) = refl
outcome_told e x (Err r) = refl

setup_length_lem : (setup : List ℕ) → (setup_of setup).told ≡ Ok tt → (4 ≤ length setup) × (length_field setup ≡ length setup)
unfolding setup_of
setup_length_lem setup h =
    let t = sym (outcome_told blank_of (fresh_of setup) (setup_told setup)) ∙ h in
    length_known setup (length_told setup) refl (setup_sized setup t).told

field_first : (s more : List ℕ) → 2 ≤ length s → length_field (s ++ more) ≡ length_field s
field_first [] more h = absurd (omega arith)
field_first (a ∷ []) more h = absurd (omega arith)
field_first (a ∷ b ∷ s) more h = refl

-- a file with whatever follows it: its setup record is the one that begins it
module _ (setup : List ℕ) (cs : List Call) (rest : List ℕ) (f : IsFile setup cs) where
  abbrev file : List ℕ
  file = file_of setup cs ++ rest

  abbrev told_all : Walked
  told_all = told_before (lines_along (setup_of setup).engine cs) (walk_from zero (after_all (setup_of setup).engine cs) rest)

  file_is : file ≡ setup ++ (records_of cs ++ rest)
  file_is = append_assoc setup (records_of cs) rest

  size : (4 ≤ length setup) × (length_field setup ≡ length setup)
  size = setup_length_lem setup f.accepted

  field : length_field file ≡ length setup
  field = ap length_field file_is ∙ field_first setup (records_of cs ++ rest) (omega (arith, size.0)) ∙ size.1

  front : take (length_field file) file ≡ setup
  front = ap (λ (n : ℕ). take n file) field ∙ ap (take (length setup)) file_is ∙ take-append_seam setup (records_of cs ++ rest)

  after_setup : drop (length_field file) file ≡ records_of cs ++ rest
  after_setup = ap (λ (n : ℕ). drop n file) field ∙ ap (drop (length setup)) file_is ∙ drop-append_seam setup (records_of cs ++ rest)

  pub walked : walked_from file (length_field file) ≡ told_all
  walked =
      ap (λ (s : List ℕ). walk_from zero (setup_of s).engine (drop (length_field file) file)) front ∙
      ap (walk_from zero (setup_of setup).engine) after_setup ∙ walks (setup_of setup).engine cs rest f.bytes

  has_setup : length file ≤ most_file → no_setup file ≡ false
  has_setup m =
      let n : length_field file ≤ length file = omega (arith, field, ap length file_is, length-append setup (records_of cs ++ rest)) in
      simp (le-ltb most_file (length file) m, le-ltb (length file) 2 (omega (arith, n, field, size.0)), le-ltb (length file) (length_field file) n)

  is_accepted : (setup_of (take (length_field file) file)).told ≡ Ok tt
  is_accepted = ap (λ (s : List ℕ). (setup_of s).told) front ∙ f.accepted

  pub printed : length file ≤ most_file → printed_of file ≡ lines_text 0 told_all.lines
  unfolding printed_of setup_text
  printed m = simp (has_setup m, is_accepted) (ap (λ (w : Walked). lines_text 0 w.lines) walked)

  pub left_state : length file ≤ most_file → replayed_state file ≡ told_all.engine
  unfolding replayed_state setup_state
  left_state m = simp (has_setup m, is_accepted) (ap (λ (w : Walked). w.engine) walked)

-- nothing follows
pub walk_none : (e : Engine) (lines : List Line) → told_before lines (walk_from zero e []) ≡ record { lines = lines; engine = e }
unfolding walk_from
walk_none e lines = ap (λ (l : List Line). record { lines = l; engine = e }) (append-nil lines)

-- the records of the first calls of a history are bytes
pub bytes_before : (cs more : List Call) → AllRecords (cs ++ more) → AllRecords cs
unfolding AllRecords
bytes_before [] more h = tt
bytes_before (Begin w l rec ∷ cs) more h = (h.0, bytes_before cs more h.1)
bytes_before (Step w ∷ cs) more h = bytes_before cs more h
bytes_before (Collect w ∷ cs) more h = bytes_before cs more h
bytes_before (Drop w ∷ cs) more h = bytes_before cs more h
bytes_before (ReadWord i ∷ cs) more h = bytes_before cs more h
bytes_before (ReadLock l ∷ cs) more h = bytes_before cs more h
bytes_before (Show s room ∷ cs) more h = bytes_before cs more h
bytes_before (Park room ∷ cs) more h = bytes_before cs more h

-- Every string of bytes, of at most n, is the records of some calls and what is left.
pub splits : (n : ℕ) (s : List ℕ) → length s ≤ n → AllBytes s → Split s
unfolding records_of AllRecords
splits zero [] k b = record { calls = []; rest = []; bytes = tt; is = refl; ends = λ h. absurd (omega arith) }
splits zero (x ∷ s) k b = absurd (omega arith)
splits (suc n) [] k b = record { calls = []; rest = []; bytes = tt; is = refl; ends = λ h. absurd (omega arith) }
splits (suc n) (x ∷ s) k b =
    go (record_told (x ∷ s)) refl
    (λ h. splits n (drop (length_field (x ∷ s)) (x ∷ s)) (omega (arith, length-drop (length_field (x ∷ s)) (x ∷ s), (holds (x ∷ s) h).least, k))
    (drop_bytes (length_field (x ∷ s)) (x ∷ s) b))
  where
    go :
        (t : Told) → record_told (x ∷ s) ≡ t →
        (record_told (x ∷ s) ≡ Ok tt → Split (drop (length_field (x ∷ s)) (x ∷ s))) → Split (x ∷ s)
    go (Err r) e next = record { calls = []; rest = x ∷ s; bytes = tt; is = refl; ends = λ h. (r, e) }
    go (Ok _) e next =
        let later = next e in
        let c = whole_call (x ∷ s) b e in
        record {
          calls = call_in (x ∷ s) ∷ later.calls;
          rest = later.rest;
          bytes = calls_in (x ∷ s) later.calls b e later.bytes;
          is =
              sym (take-append-drop (length_field (x ∷ s)) (x ∷ s)) ∙ ap₂ (λ (a d : List ℕ). a ++ d) c.1 later.is ∙
              sym (append_assoc (call_record (call_in (x ∷ s))) (records_of later.calls) later.rest) ∙
              ap (λ (q : Bool). (pick q (call_record (call_in (x ∷ s))) [] ++ records_of later.calls) ++ later.rest) (sym c.0);
          ends = later.ends;
        }
