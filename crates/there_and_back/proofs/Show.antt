-- A job record that begin takes is what show writes for its sheet, byte for byte.
use Rattle.std.specs.Prelude.{Err, Ok}
use Prim.Native.Nat.{ℕ, ◌+◌, ◌*◌, ◌≤◌, ◌<◌}
use native.Mathlib.Omega.{arith}
use mathlib.Core.Path.{◌≡◌, refl, ◌∙◌, sym, ap, subst}
use mathlib.Core.Bool.{true, false}
use mathlib.Core.List.{List, ◌++◌}
use lib.ListN.{length, get_or, set, drop, length-set}
use lib.Seq.{get_or-set_same}
use borrow.Author.Tests.{eq-eqb, lt-leb, le-ltb}
use Rattle.parts.specs.Lay.{lay}
use Rattle.parts.specs.Numbers.{sheets}
use Rattle.parts.specs.declared.Instr.{Instr}
use Rattle.parts.specs.Told.{Told}
use Rattle.records.specs.Bytes.{AllBytes}
use Rattle.records.specs.Job.{job_of, job_record}
use Rattle.records.proofs.Fours.{code_length}
use Rattle.records.proofs.One.{job_back}
use Rattle.sheets.specs.Sheets.{worker_keeps}
use Rattle.sheets.proofs.Lowest.{by_worker}
use Rattle.steps.specs.Worker.{worker0, looking_of, began_of}
use Rattle.steps.specs.declared.Worker.{Worker}
use Rattle.engine.specs.State.{in_use, free_sheet, worker_at, program_length, program_of, sheet_record}
use Rattle.engine.specs.Calls.{outcome_of, begun_of, begin_told, begin_of, show_told, show_of, shown_of}
use Rattle.engine.specs.Inner.{Begins}
use Rattle.engine.specs.declared.Engine.{Engine}
use Rattle.ranges.specs.Good.{Good}
use Rattle.ranges.proofs.Free.{begins_free}
use Rattle.ranges.proofs.Keep.{good_begin}
use Rattle.ranges.proofs.Laid.{lay_first}
use Rattle.engine.proofs.Begins.{begins, sheet_taken, looks}
use Rattle.ranges.proofs.Programs.{program_length_lem, begun_job}

-- a call that tells it was accepted was, and gave the next state
pub accepted :
    (e : Engine) (told : Told) (next : Engine) → (outcome_of e told next).told ≡ Ok tt →
    (told ≡ Ok tt) × ((outcome_of e told next).engine ≡ next)
accepted e (Ok _) next h = (refl, refl)
accepted e (Err r) next h = let z : ◌≡◌ {A = ℕ} 0 1 = cc in absurd (omega arith)

-- the length of a sheet's record
module _ (e : Engine) (s : ℕ) (g : Good e) (h : s < sheets) where
  pub record_length_lem : length (sheet_record e s) ≡ 4 + 4 * program_length e s
  record_length_lem = omega (arith, code_length (program_of e s), program_length_lem e s g h)

  -- a sheet in use is shown in a buffer that has room: its record stands first, and the bytes after it don't change
  module _ (u : in_use e s ≡ true) (buf : List ℕ) (room : length (sheet_record e s) ≤ length buf) where
    show_accepted : show_told e s (length buf) ≡ Ok tt
    unfolding show_told
    show_accepted =
        let n : 4 + 4 * program_length e s ≤ length buf = omega (arith, record_length_lem) in
        simp (u, lt-leb sheets s h, le-ltb (length buf) (4 + 4 * program_length e s) n)

    pub shows : show_of e s (length buf) ≡ Ok (length (sheet_record e s))
    unfolding show_of
    shows = simp show_accepted

    pub shows_bytes : shown_of e s buf ≡ lay 0 (sheet_record e s) buf
    unfolding shown_of
    shows_bytes = simp show_accepted

-- what an accepted begin of the record rec, from state e to state e', did to the sheet s
pub record ShowsBegun (e e' : Engine) (s : ℕ) (rec : List ℕ) : Type 0 where
  -- it was free, and is in use
  pub sheet : s < sheets
  pub free : in_use e s ≡ false
  pub used : in_use e' s ≡ true
  -- it has the record's job, and the record
  pub program : program_of e' s ≡ job_of rec
  pub bytes : sheet_record e' s ≡ rec
  -- show tells the record's length, and writes it first; "the bytes after them don't change"
  pub told : (buf : List ℕ) → length rec ≤ length buf → show_of e' s (length buf) ≡ Ok (length rec)
  pub laid : (buf : List ℕ) → length rec ≤ length buf → shown_of e' s buf ≡ lay 0 rec buf
  pub shown : (buf : List ℕ) → length rec ≤ length buf → shown_of e' s buf ≡ rec ++ drop (length rec) buf

module _ (e : Engine) (w l : ℕ) (rec : List ℕ) (g : Good e) (t : Begins e w l rec) where
  begun_used : in_use (begun_of e w l rec (free_sheet e)) (free_sheet e) ≡ true
  unfolding begun_of
  begun_used =
      let s = free_sheet e in
      let k = began_of (worker_at e w) l s in
      let n : w < length e.worker = omega (arith, g.lengths.worker, t.worker) in
      let there : get_or (set e.worker w k) w worker0 ≡ looking_of l s =
      get_or-set_same e.worker w k worker0 n ∙ looks (worker_at e w) l s t.idle in
      let keeps : worker_keeps s (looking_of l s) ≡ true = simp (eq-eqb s s refl) in
      by_worker e.lock (set e.worker w k) s worker0
      (record {
        at = w;
        within = omega (arith, length-set e.worker w k);
        held = ap (λ (x : Worker). worker_keeps s x) there ∙ keeps;
      })

  begun_bytes : AllBytes rec → sheet_record (begun_of e w l rec (free_sheet e)) (free_sheet e) ≡ rec
  begun_bytes b = ap (λ (is : List Instr). job_record is) (begun_job e w l rec g t) ∙ job_back rec l _ b t.job

shows_begun :
    (e e' : Engine) (s : ℕ) (rec : List ℕ) → Good e' → s < sheets → in_use e s ≡ false → in_use e' s ≡ true →
    program_of e' s ≡ job_of rec → sheet_record e' s ≡ rec → ShowsBegun e e' s rec
shows_begun e e' s rec g h f u p q =
    record {
      sheet = h;
      free = f;
      used = u;
      program = p;
      bytes = q;
      told = λ buf room. shows e' s g h u buf (fits buf room) ∙ ap (λ (r : List ℕ). Ok (length r)) q;
      laid = λ buf room. laid buf room;
      shown = λ buf room. laid buf room ∙ lay_first rec buf room;
    }
  where
    fits : (buf : List ℕ) → length rec ≤ length buf → length (sheet_record e' s) ≤ length buf
    fits buf room = subst (λ (r : List ℕ). length r ≤ length buf) (sym q) room

    laid : (buf : List ℕ) → length rec ≤ length buf → shown_of e' s buf ≡ lay 0 rec buf
    laid buf room = shows_bytes e' s g h u buf (fits buf room) ∙ ap (λ (r : List ℕ). lay 0 r buf) q

-- an accepted begin takes the lowest free sheet, and show writes of it the record that begin took
pub show_begin :
    (e : Engine) (w l : ℕ) (rec : List ℕ) → Good e → AllBytes rec → (begin_of e w l rec).told ≡ Ok tt →
    ShowsBegun e (begin_of e w l rec).engine (free_sheet e) rec
unfolding begin_of
show_begin e w l rec g b h =
    let s = free_sheet e in
    let a = accepted e (begin_told e w l rec) (begun_of e w l rec s) h in
    let t = begins e w l rec a.0 in
    let e' = (begin_of e w l rec).engine in
    let next : e' ≡ begun_of e w l rec s = a.1 in
    shows_begun e e' s rec (good_begin e w l rec g b) (sheet_taken e) (begins_free e g w l rec t)
    (ap (λ (x : Engine). in_use x s) next ∙ begun_used e w l rec g t)
    (ap (λ (x : Engine). program_of x s) next ∙ begun_job e w l rec g t)
    (ap (λ (x : Engine). sheet_record x s) next ∙ begun_bytes e w l rec g t b)
