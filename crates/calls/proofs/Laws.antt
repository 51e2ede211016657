-- What is known of a record that is not cut short, or is accepted.
use Rattle.std.specs.Prelude.{Ok}
use Prim.Native.Nat.{ℕ, zero, suc, ◌+◌, ◌-◌, ◌≤◌}
use mathlib.Core.Path.{◌≡◌, refl, ◌∙◌, sym, ap, subst}
use mathlib.Core.Bool.{Bool, false}
use mathlib.Core.List.{List, [], ◌∷◌}
use native.Mathlib.Omega.{arith}
use mir.Syntax.{w8}
use mir.Val.{Fits as Byte}
use lib.Dec.{ltb}
use lib.ListN.{length, take, drop, length-drop}
use borrow.Author.Tests.{ltb-false}
use Rattle.parts.specs.Lay.{lay}
use Rattle.parts.specs.Pick.{◌or◌}
use Rattle.parts.specs.Told.{first_of}
use Rattle.parts.specs.declared.Refusal.TheVariants.{Length, Kind, Buffer, CallRecord}
use Rattle.parts.proofs.Laws.{pick_eq, pick_ne}
use Rattle.parts.proofs.Order.{first_all, row_passes, neither, not_isnt}
use Rattle.records.specs.Bytes.{length_field, kind_field, header}
use Rattle.records.specs.Job.{forms, form_order}
use Rattle.records.proofs.Form.{form_four}
use Rattle.records.proofs.Laws.{part_end}
use Rattle.calls.specs.Record.{call_kind, last_call, call_field, lock_field, last_field, cut_short, no_call_length, lock_unused, bad_head, record_order, record_told, capped_of, record_with, call_with, call_record, record_length, write_order, write_told}

-- a record is not cut short
whole_known : (s : List ℕ) (r : Bool) → r ≡ cut_short s → r ≡ false → (4 ≤ length s) × (length_field s ≤ length s)
whole_known s r q h =
    let a = neither (ltb (length s) 2) (ltb (length_field s) 4 or ltb (length s) (length_field s)) (sym q ∙ h) in
    let b = neither (ltb (length_field s) 4) (ltb (length s) (length_field s)) a.1 in
    let low : 4 ≤ length_field s = ltb-false _ _ b.0 in
    let high : length_field s ≤ length s = ltb-false _ _ b.1 in
    (omega arith, high)

pub whole_four : (s : List ℕ) (r : Bool) → r ≡ cut_short s → r ≡ false → 4 ≤ length s
whole_four s r q h = (whole_known s r q h).0

pub whole_size : (s : List ℕ) (r : Bool) → r ≡ cut_short s → r ≡ false → length_field s ≤ length s
whole_size s r q h = (whole_known s r q h).1

-- an accepted record: every row of its order accepts
pub record Holds (s : List ℕ) : Type 0 where
  pub least : 8 ≤ length_field s
  pub whole : length_field s ≤ length s
  pub kind : kind_field s ≡ call_kind
  pub call : call_field s ≤ last_call
  pub last : last_field s ≡ 0
  pub lock : lock_unused (call_field s) (lock_field s) ≡ false
  pub size : no_call_length (call_field s) (length_field s) ≡ false

pub holds : (s : List ℕ) → record_told s ≡ Ok tt → Holds s
unfolding record_told bad_head
holds s h =
    let row = first_all (record_order s) h in
    let w = whole_known s (cut_short s) refl (row_passes (cut_short s) Length (row 0)) in
    let a = neither (ltb (length_field s) 8) (bad_head (call_field s) (lock_field s) (last_field s) (length_field s)) (row_passes _ CallRecord (row 2)) in
    let b = neither (ltb last_call (call_field s)) (ltb 0 (last_field s) or lock_unused (call_field s) (lock_field s) or no_call_length (call_field s) (length_field s)) a.1 in
    let c = neither (ltb 0 (last_field s)) (lock_unused (call_field s) (lock_field s) or no_call_length (call_field s) (length_field s)) b.1 in
    let d = neither (lock_unused (call_field s) (lock_field s)) (no_call_length (call_field s) (length_field s)) c.1 in
    let l : last_field s ≤ 0 = ltb-false _ _ c.0 in
    record {
      least = ltb-false _ _ a.0;
      whole = w.1;
      kind = not_isnt (kind_field s) call_kind (row_passes _ Kind (row 1));
      call = ltb-false _ _ b.0;
      last = omega arith;
      lock = d.0;
      size = d.1;
    }

-- it has its first eight bytes, and its call is one
pub holds_eight : (s : List ℕ) → record_told s ≡ Ok tt → 8 ≤ length s
holds_eight s h = omega (arith, (holds s h).least, (holds s h).whole)

pub holds_call : (s : List ℕ) → record_told s ≡ Ok tt → call_field s ≤ last_call
holds_call s h = (holds s h).call

pub holds_least : (s : List ℕ) (r : ℕ) → record_told s ≡ Ok tt → r ≡ length_field s → 8 ≤ r
holds_least s r h e = omega (arith, (holds s h).least)

pub holds_whole : (s : List ℕ) (r : ℕ) → record_told s ≡ Ok tt → r ≡ length_field s → r ≤ length s
holds_whole s r h e = omega (arith, (holds s h).whole)

-- a record's header, four bytes past it, and the instructions past these
pub record_laid :
    (call w l a b size : ℕ) (code buf headed filled next : List ℕ) →
    size ≡ 8 + length code →
    a ≡ capped_of w →
    b ≡ capped_of l →
    headed ≡ lay 0 (header size call_kind []) buf →
    filled ≡ lay 4 (call ∷ a ∷ b ∷ 0 ∷ []) headed →
    next ≡ lay 8 code filled →
    next ≡ lay 0 (record_with call w l code) buf
unfolding record_with lay
record_laid call w l a b size code buf headed filled next n p q e f g = simp (g, f, e, n, p, q)

pub record_size : (call w l : ℕ) (code : List ℕ) → 8 + length code ≡ length (record_with call w l code)
unfolding record_with
record_size call w l code = omega arith

-- a writer that was accepted: the call is one, a begin has a job record, and the buffer has room
pub record Fits (call : ℕ) (rec : List ℕ) (room : ℕ) : Type 0 where
  pub most : call ≤ last_call
  pub form : call ≡ 0 → first_of (form_order forms rec) ≡ Ok tt
  pub fit : record_length call rec ≤ room

pub fits : (call : ℕ) (rec : List ℕ) (room : ℕ) → write_told call rec room ≡ Ok tt → Fits call rec room
unfolding write_told
fits call rec room h =
    let row = first_all (write_order call rec room) h in
    record {
      most = ltb-false _ _ (row_passes _ CallRecord (row 0));
      form = λ e. pick_eq call 0 _ _ _ e refl ∙ row 1;
      fit = ltb-false _ _ (row_passes _ Buffer (row 2));
    }

-- of a begin: its instructions stand from byte 4 on
module _ (call : ℕ) (rec : List ℕ) (room : ℕ) (h : write_told call rec room ≡ Ok tt) where
  pub begin_four : call ≡ 0 → 4 ≤ length rec
  begin_four e = form_four rec (first_of (form_order forms rec)) refl ((fits call rec room h).form e)

  pub begin_room : call ≡ 0 → 8 + length (take (length rec - 4) (drop 4 rec)) ≤ room
  begin_room e =
      let f = begin_four e in
      let r : 4 + length rec ≤ room = subst (λ (n : ℕ). n ≤ room) (sym (pick_eq call 0 _ _ _ e refl)) (fits call rec room h).fit in
      omega (arith, ap length (part_end 4 rec), length-drop 4 rec)

  pub other_room : (call ≡ 0 → ⊥) → 8 ≤ room
  other_room e = subst (λ (n : ℕ). n ≤ room) (sym (pick_ne call 0 _ _ _ e refl)) (fits call rec room h).fit

  pub call_byte : Byte w8 call
  call_byte = record { fits = omega (arith, (fits call rec room h).most) }

-- the record of a call: a begin's, and any other's
begin_record :
    (call w l : ℕ) (rec : List ℕ) → call ≡ 0 →
    record_with 0 w l (take (length rec - 4) (drop 4 rec)) ≡ call_record (call_with call w l rec)
unfolding call_with call_record
begin_record call w l rec e = simp (e, part_end 4 rec)

pub other_record :
    (call w l : ℕ) (rec : List ℕ) → (call ≡ 0 → ⊥) → call ≤ last_call →
    record_with call w 0 [] ≡ call_record (call_with call w l rec)
unfolding call_with call_record
other_record zero w l rec e h = absurd (e refl)
other_record (suc zero) w l rec e h = refl
other_record (suc (suc zero)) w l rec e h = refl
other_record (suc (suc (suc zero))) w l rec e h = refl
other_record (suc (suc (suc (suc n)))) w l rec e h = absurd (omega arith)

-- how many bytes were put, and that they are laid
pub begin_count :
    (call w l n : ℕ) (rec : List ℕ) → call ≡ 0 → n ≡ length (record_with 0 w l (take (length rec - 4) (drop 4 rec))) →
    n ≡ length (call_record (call_with call w l rec))
begin_count call w l n rec e h = h ∙ ap length (begin_record call w l rec e)

pub begin_laid :
    (call w l : ℕ) (rec buf next : List ℕ) → call ≡ 0 → next ≡ lay 0 (record_with 0 w l (take (length rec - 4) (drop 4 rec))) buf →
    next ≡ lay 0 (call_record (call_with call w l rec)) buf
begin_laid call w l rec buf next e h = h ∙ ap (λ (r : List ℕ). lay 0 r buf) (begin_record call w l rec e)

module _ (call w l room : ℕ) (rec : List ℕ) (e : call ≡ 0 → ⊥) (h : write_told call rec room ≡ Ok tt) where
  record_is : record_with call w 0 [] ≡ call_record (call_with call w l rec)
  record_is = other_record call w l rec e (fits call rec room h).most

  pub other_count : (n : ℕ) → n ≡ length (record_with call w 0 []) → n ≡ length (call_record (call_with call w l rec))
  other_count n q = q ∙ ap length record_is

  pub other_laid :
      (buf next : List ℕ) → next ≡ lay 0 (record_with call w 0 []) buf → next ≡ lay 0 (call_record (call_with call w l rec)) buf
  other_laid buf next q = q ∙ ap (λ (r : List ℕ). lay 0 r buf) record_is

-- what `put_call` goes by
pub ruleset writes = (begin_four, begin_room, other_room, call_byte, begin_count, begin_laid, other_count, other_laid)
