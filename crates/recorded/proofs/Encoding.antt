-- Call records have one encoding: what is written is accepted and read back, and an accepted record is the record of its call.
use Rattle.std.specs.Prelude.{Err, Ok}
use Prim.Native.Nat.{ℕ, zero, suc, ◌+◌, ◌-◌, ◌*◌, ◌/◌, ◌%◌, ◌≤◌, ◌<◌}
use mathlib.Core.Path.{◌≡◌, refl, ◌∙◌, sym, ap}
use mathlib.Core.Bool.{Bool, true, false}
use mathlib.Core.List.{List, [], ◌∷◌, ◌++◌}
use native.Mathlib.Omega.{arith}
use lib.Dec.{eqb, ltb}
use lib.ListN.{length, get_or, take, drop, length-drop, length-append}
use lib.Seq.{length-take-le, take-append_seam}
use borrow.Author.Tests.{eq-eqb, le-ltb, ltb-false, eqb-true, eqb-false}
use Rattle.parts.specs.Numbers.{instructions}
use Rattle.parts.specs.Pick.{pick, ◌isnt◌}
use Rattle.parts.specs.Told.{on_told, first_of}
use Rattle.parts.specs.Told.{Told}
use Rattle.parts.proofs.Laws.{pick_eq, pick_ne}
use Rattle.parts.proofs.Order.{not_isnt}
use Rattle.records.specs.Bytes.{AllBytes, length_field, kind_field, length_told, header}
use Rattle.records.specs.Inner.{Formed}
use Rattle.records.specs.Job.{forms, kind_for, job_of, no_job_length, form_order}
use Rattle.records.proofs.Form.{length_in, in_length, kind_field_lem, kind_byte, formed, formed_passes}
use Rattle.records.proofs.Fours.{instrs_length}
use Rattle.records.proofs.One.{header_is, drop_bytes}
use Rattle.past.specs.Past.{Call, Begin, Step, Collect, Drop, ReadWord, ReadLock, Show, Park, AllRecords}
use Rattle.calls.specs.Record.{call_kind, last_call, call_field, worker_field, lock_field, no_call_length, lock_unused, bad_head, record_told, call_with, job_in, call_in, capped_of, record_with, call_record}
use Rattle.calls.proofs.Laws.{Holds, holds, other_record}
use Rattle.recorded.specs.Recorded.{is_written, in_bytes}

-- a record whose fields hold is accepted
accepts : (s : List ℕ) → Holds s → record_told s ≡ Ok tt
unfolding record_told bad_head
accepts s h =
    let n = h.least in
    let w = h.whole in
    simp (
      le-ltb (length s) 2 (omega arith),
      le-ltb (length_field s) 4 (omega arith),
      le-ltb (length s) (length_field s) w,
      eq-eqb (kind_field s) call_kind h.kind,
      le-ltb (length_field s) 8 n,
      le-ltb last_call (call_field s) h.call,
      h.last,
      h.lock,
      h.size,
    )

-- what is written of a call, and whatever follows it
module _ (call w l : ℕ) (code rest : List ℕ) (m : 8 + length code < 65536) where
  abbrev written : List ℕ
  written = record_with call w l code ++ rest

  written_length : length_field written ≡ 8 + length code
  unfolding record_with
  written_length = omega arith

  written_holds :
      call ≤ last_call → lock_unused call (capped_of l) ≡ false → no_call_length call (8 + length code) ≡ false → Holds written
  unfolding record_with
  written_holds c u s = record {
    least = omega (arith, written_length);
    whole = omega (arith, written_length, length-append code rest);
    kind = refl;
    call = c;
    last = refl;
    lock = u;
    size = ap (no_call_length call) written_length ∙ s;
  }

-- a begin's bytes are a job record
module _ (rec : List ℕ) (h : first_of (form_order forms rec) ≡ Ok tt) where
  form : Formed rec
  form = formed rec h

  form_size : no_job_length 1 instructions (length rec) ≡ false
  form_size =
      ap (no_job_length 1 instructions) form.size ∙ in_length 1 instructions (length (job_of rec)) form.fewest form.most

  code_length : length (drop 4 rec) ≡ length rec - 4
  code_length = length-drop 4 rec

  -- its record: what was written is read back
  module _ (w l : ℕ) (rest : List ℕ) (b : AllBytes rec) where
    abbrev begun : List ℕ
    begun = record_with 0 w l (drop 4 rec) ++ rest

    short : 8 + length (drop 4 rec) < 65536
    short = omega (arith, code_length, form.size, form.most)

    begun_holds : Holds begun
    begun_holds =
        let e : 8 + length (drop 4 rec) - 4 ≡ length rec = omega (arith, code_length, form.size) in
        written_holds 0 w l (drop 4 rec) rest short (omega arith) refl (ap (no_job_length 1 instructions) e ∙ form_size)

    begun_job : job_in begun ≡ rec
    unfolding job_in record_with
    begun_job =
        let n = written_length 0 w l (drop 4 rec) rest short in
        let e : length_field begun - 4 ≡ length rec = omega (arith, n, code_length, form.size) in
        let k : length_field begun - 8 ≡ length (drop 4 rec) = omega (arith, n) in
        let t : take (length_field begun - 8) (drop 4 rec ++ rest) ≡ drop 4 rec =
        ap (λ (j : ℕ). take j (drop 4 rec ++ rest)) k ∙ take-append_seam (drop 4 rec) rest in
        let count : length (job_of rec) ≡ (length_field begun - 8) / 4 = omega (arith, n, code_length, form.size) in
        header_is rec (length_field begun - 4) (kind_for ((length_field begun - 8) / 4)) (take (length_field begun - 8) (drop 4 rec ++ rest)) b
        form.told (form.kind ∙ ap kind_for count) (kind_byte ((length_field begun - 8) / 4)) e t

-- a call that has a record
written_form : (w l : ℕ) (rec : List ℕ) → is_written (Begin w l rec) ≡ true → first_of (form_order forms rec) ≡ Ok tt
unfolding is_written
written_form w l rec h = go (first_of (form_order forms rec)) refl h
  where
    go :
        (t : Told) → first_of (form_order forms rec) ≡ t → on_told {A = Bool} t true (λ r. false) ≡ true →
        first_of (form_order forms rec) ≡ Ok tt
    go (Ok _) e k = e
    go (Err r) e k = let z : ◌≡◌ {A = ℕ} 0 1 = cc in absurd (omega arith)

pub read_back :
    (c : Call) (rest : List ℕ) → AllRecords (c ∷ []) → is_written c ≡ true →
    (record_told (call_record c ++ rest) ≡ Ok tt) ×
    (length_field (call_record c ++ rest) ≡ length (call_record c)) ×
    (call_in (call_record c ++ rest) ≡ in_bytes c)
unfolding call_record in_bytes call_with record_with AllRecords is_written
read_back (Begin w l rec) rest b h =
    let f = written_form w l rec h in (
      accepts _ (begun_holds rec f w l rest b.0),
      omega (arith, written_length 0 w l (drop 4 rec) rest (short rec f w l rest b.0)),
      ap (Begin (capped_of w) (capped_of l)) (begun_job rec f w l rest b.0),
    )
read_back (Step w) rest b h = (accepts _ (written_holds 1 w 0 [] rest (omega arith) (omega arith) refl refl), refl, refl)
read_back (Collect w) rest b h = (accepts _ (written_holds 2 w 0 [] rest (omega arith) (omega arith) refl refl), refl, refl)
read_back (Drop w) rest b h = (accepts _ (written_holds 3 w 0 [] rest (omega arith) (omega arith) refl refl), refl, refl)
read_back (ReadWord i) rest b h = let z : ◌≡◌ {A = ℕ} 0 1 = cc in absurd (omega arith)
read_back (ReadLock l) rest b h = let z : ◌≡◌ {A = ℕ} 0 1 = cc in absurd (omega arith)
read_back (Show s room) rest b h = let z : ◌≡◌ {A = ℕ} 0 1 = cc in absurd (omega arith)
read_back (Park room) rest b h = let z : ◌≡◌ {A = ℕ} 0 1 = cc in absurd (omega arith)

-- eight bytes, and the rest
eight_first :
    (s : List ℕ) → 8 ≤ length s →
    s ≡
    get_or s 0 0 ∷ get_or s 1 0 ∷ get_or s 2 0 ∷ get_or s 3 0 ∷ get_or s 4 0 ∷ get_or s 5 0 ∷ get_or s 6 0 ∷ get_or s 7 0 ∷ drop 8 s
eight_first [] h = absurd (omega arith)
eight_first (a ∷ []) h = absurd (omega arith)
eight_first (a ∷ b ∷ []) h = absurd (omega arith)
eight_first (a ∷ b ∷ c ∷ []) h = absurd (omega arith)
eight_first (a ∷ b ∷ c ∷ d ∷ []) h = absurd (omega arith)
eight_first (a ∷ b ∷ c ∷ d ∷ e ∷ []) h = absurd (omega arith)
eight_first (a ∷ b ∷ c ∷ d ∷ e ∷ f ∷ []) h = absurd (omega arith)
eight_first (a ∷ b ∷ c ∷ d ∷ e ∷ f ∷ g ∷ []) h = absurd (omega arith)
eight_first (a ∷ b ∷ c ∷ d ∷ e ∷ f ∷ g ∷ i ∷ rest) h = refl

-- the two bytes of a length
halves : (n lo hi : ℕ) → n ≡ lo + 256 * hi → lo < 256 → hi < 256 → (n % 256 ≡ lo) × (n / 256 % 256 ≡ hi)
halves n lo hi e k l = let d : n / 256 ≡ hi = omega arith in (omega arith, omega arith)

-- an accepted record of bytes is its eight bytes and its instructions
module _ (s : List ℕ) (b : AllBytes s) (h : record_told s ≡ Ok tt) where
  abbrev code_in : List ℕ
  code_in = take (length_field s - 8) (drop 8 s)

  kept : Holds s
  kept = holds s h

  code_in_length : length code_in ≡ length_field s - 8
  code_in_length = length-take-le (length_field s - 8) (drop 8 s) (omega (arith, length-drop 8 s, kept.whole))

  front :
      take (length_field s) s ≡
      get_or s 0 0 ∷ get_or s 1 0 ∷ get_or s 2 0 ∷ get_or s 3 0 ∷ get_or s 4 0 ∷ get_or s 5 0 ∷ get_or s 6 0 ∷ get_or s 7 0 ∷ code_in
  front =
      let m = length_field s - 8 in
      let n : length_field s ≡ suc (suc (suc (suc (suc (suc (suc (suc m))))))) = omega (arith, kept.least) in
      ap (λ (k : ℕ). take k s) n ∙
      ap (take (suc (suc (suc (suc (suc (suc (suc (suc m))))))))) (eight_first s (omega (arith, kept.least, kept.whole)))

  record_is : take (length_field s) s ≡ record_with (call_field s) (worker_field s) (lock_field s) code_in
  unfolding record_with
  record_is =
      let n : 8 + length code_in ≡ length_field s = omega (arith, code_in_length, kept.least) in
      let f = halves (8 + length code_in) (get_or s 0 0) (get_or s 1 0) n (b 0) (b 1) in
      let e0 = f.0 in
      let e1 = f.1 in
      let e2 : call_kind ≡ get_or s 2 0 = omega (arith, kept.kind, b 2) in
      let e3 : 0 ≡ get_or s 3 0 = omega (arith, kept.kind, b 2) in
      let e5 : capped_of (worker_field s) ≡ get_or s 5 0 = omega (arith, b 5) in
      let e6 : capped_of (lock_field s) ≡ get_or s 6 0 = omega (arith, b 6) in
      let e7 : 0 ≡ get_or s 7 0 = sym kept.last in
      front ∙ cc

  -- a call that is no begin has no lock and no instructions
  no_lock_lem : (call_field s ≡ 0 → ⊥) → lock_field s ≡ 0
  no_lock_lem k =
      let u : ltb 0 (lock_field s) ≡ false = pick_ne (call_field s) 0 (ltb 0 (lock_field s)) false _ k refl ∙ kept.lock in
      omega (arith, ltb-false 0 (lock_field s) u)

  no_code : (call_field s ≡ 0 → ⊥) → code_in ≡ []
  no_code k =
      let u : (length_field s isnt 8) ≡ false =
      pick_ne (call_field s) 0 (length_field s isnt 8) (no_job_length 1 instructions (length_field s - 4)) _ k refl ∙ kept.size in
      let e : length_field s - 8 ≡ 0 = omega (arith, not_isnt (length_field s) 8 u) in
      ap (λ (n : ℕ). take n (drop 8 s)) e

  begun_record : (c : ℕ) → c ≡ 0 → record_with c (worker_field s) (lock_field s) code_in ≡ call_record (call_with c (worker_field s) (lock_field s) (job_in s))
  unfolding call_with call_record job_in
  begun_record c e = simp e

  -- and so it is the record of the call that it makes
  pub record_of_call : take (length_field s) s ≡ call_record (call_in s)
  record_of_call = record_is ∙ go (eqb (call_field s) 0) refl
    where
      go :
          (q : Bool) → eqb (call_field s) 0 ≡ q →
          record_with (call_field s) (worker_field s) (lock_field s) code_in ≡ call_record (call_in s)
      go true e = begun_record (call_field s) (eqb-true (call_field s) 0 e)
      go false e =
          let k = eqb-false (call_field s) 0 e in
          ap (λ (l : ℕ). record_with (call_field s) (worker_field s) l code_in) (no_lock_lem k) ∙
          ap (record_with (call_field s) (worker_field s) 0) (no_code k) ∙
          other_record (call_field s) (worker_field s) (lock_field s) (job_in s) k kept.call

-- bytes: those of a record, and the first n of a list
header_bytes : (n kind : ℕ) (body : List ℕ) → kind < 256 → AllBytes body → AllBytes (header n kind body)
header_bytes n kind body h b zero = omega arith
header_bytes n kind body h b (suc zero) = omega arith
header_bytes n kind body h b (suc (suc zero)) = h
header_bytes n kind body h b (suc (suc (suc zero))) = omega arith
header_bytes n kind body h b (suc (suc (suc (suc k)))) = b k

take_bytes : (n : ℕ) (l : List ℕ) → AllBytes l → AllBytes (take n l)
take_bytes zero l b k = omega arith
take_bytes (suc n) [] b k = b k
take_bytes (suc n) (x ∷ l) b zero = b zero
take_bytes (suc n) (x ∷ l) b (suc k) = take_bytes n l (λ j. b (suc j)) k

field_of : (n : ℕ) → n < 65536 → n % 256 + 256 * (n / 256 % 256) ≡ n
field_of n k = omega arith

-- the job record of an accepted begin's record
module _ (s : List ℕ) (b : AllBytes s) (h : record_told s ≡ Ok tt) where
  job_bytes_lem : AllBytes (job_in s)
  unfolding job_in
  job_bytes_lem =
      header_bytes (length_field s - 4) (kind_for ((length_field s - 8) / 4)) (take (length_field s - 8) (drop 8 s))
      (kind_byte ((length_field s - 8) / 4))
      (take_bytes (length_field s - 8) (drop 8 s) (drop_bytes 8 s b))

  job_length : length (job_in s) ≡ length_field s - 4
  unfolding job_in
  job_length = omega (arith, code_in_length s b h, (holds s h).least)

  job_field : length_field (job_in s) ≡ length (job_in s)
  unfolding job_in
  job_field = field_of (length_field s - 4) (omega (arith, b 0, b 1)) ∙ sym job_length

  job_kind : kind_field (job_in s) ≡ kind_for ((length_field s - 8) / 4)
  unfolding job_in
  job_kind = kind_field_lem (length_field s - 4) (kind_for ((length_field s - 8) / 4)) (take (length_field s - 8) (drop 8 s))

  job_form : call_field s ≡ 0 → first_of (form_order forms (job_in s)) ≡ Ok tt
  job_form z =
      let n = no_job_length 1 instructions (length_field s - 4) in
      let size = length_in 1 instructions (length_field s - 4) (pick_eq (call_field s) 0 n n _ z refl ∙ (holds s h).size) in
      let count : length (job_of (job_in s)) ≡ (length_field s - 8) / 4 =
      instrs_length (drop 4 (job_in s)) ∙ omega (arith, length-drop 4 (job_in s), job_length) in
      let told : length_told (job_in s) ≡ Ok tt =
      simp (
        le-ltb (length (job_in s)) 4 (omega (arith, job_length, (holds s h).least)),
        eq-eqb (length_field (job_in s)) (length (job_in s)) job_field,
      ) in
      formed_passes (job_in s)
      (record {
        told = told;
        kind = job_kind ∙ ap kind_for (sym count);
        fewest = omega (arith, count, size.1);
        most = omega (arith, count, size.2);
        size = omega (arith, count, job_length, size.0, size.1);
      })

-- a call of these numbers has a record, and its record is of bytes
call_written :
    (c w l : ℕ) (rec : List ℕ) → (c ≡ 0 → first_of (form_order forms rec) ≡ Ok tt) → is_written (call_with c w l rec) ≡ true
unfolding call_with is_written
call_written c w l rec f = go (eqb c 0) (eqb c 1) (eqb c 2) (λ e. f (eqb-true c 0 e))
  where
    go :
        (p q r : Bool) → (p ≡ true → first_of (form_order forms rec) ≡ Ok tt) →
        is_written (pick p (Begin w l rec) (pick q (Step w) (pick r (Collect w) (Drop w)))) ≡ true
    go true q r f = simp (f refl)
    go false true r f = refl
    go false false true f = refl
    go false false false f = refl

call_bytes : (c w l : ℕ) (rec : List ℕ) (cs : List Call) → AllBytes rec → AllRecords cs → AllRecords (call_with c w l rec ∷ cs)
unfolding call_with AllRecords
call_bytes c w l rec cs b h = go (eqb c 0) (eqb c 1) (eqb c 2)
  where
    go : (p q r : Bool) → AllRecords (pick p (Begin w l rec) (pick q (Step w) (pick r (Collect w) (Drop w))) ∷ cs)
    go true q r = (b, h)
    go false true r = h
    go false false true = h
    go false false false = h

pub whole_call :
    (s : List ℕ) → AllBytes s → record_told s ≡ Ok tt →
    (is_written (call_in s) ≡ true) × (take (length_field s) s ≡ call_record (call_in s))
whole_call s b h =
    (call_written (call_field s) (worker_field s) (lock_field s) (job_in s) (job_form s b h), record_of_call s b h)

pub calls_in : (s : List ℕ) (cs : List Call) → AllBytes s → record_told s ≡ Ok tt → AllRecords cs → AllRecords (call_in s ∷ cs)
calls_in s cs b h = call_bytes (call_field s) (worker_field s) (lock_field s) (job_in s) cs (job_bytes_lem s b h)
