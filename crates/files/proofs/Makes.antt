-- The record that a begin is lent; and a call by its number.
use Rattle.std.specs.Prelude.{Ok}
use Prim.Native.Nat.{ℕ, ◌+◌, ◌-◌, ◌/◌, ◌≤◌}
use mathlib.Core.Path.{◌≡◌, refl, ◌∙◌, sym, ap}
use mathlib.Core.Bool.{false}
use mathlib.Core.List.{List, [], ◌++◌}
use native.Mathlib.Omega.{arith}
use lib.ListN.{length, take, drop, length-drop}
use lib.Seq.{length-take-le, take-append_seam}
use Rattle.parts.specs.Lay.{lay}
use Rattle.parts.specs.Numbers.{instructions}
use Rattle.parts.proofs.Laws.{pick_eq}
use Rattle.parts.proofs.Lay.{lay-append, lay_is}
use Rattle.records.specs.Bytes.{length_field, header}
use Rattle.records.specs.Job.{kind_for, no_job_length}
use Rattle.records.proofs.Form.{length_in}
use Rattle.engine.specs.declared.Engine.{Engine}
use Rattle.past.specs.Past.{Call, Begin, Step, Collect, Drop}
use Rattle.calls.specs.Kind.{kind_number}
use Rattle.calls.specs.declared.kind.CallKind.{CallKind}
use Rattle.calls.specs.Record.{call_field, worker_field, lock_field, record_told, call_with, job_in, call_in}
use Rattle.calls.proofs.Laws.{holds}
use Rattle.files.specs.Made.{made_of}
use Rattle.files.specs.declared.make.Line.{Line}

-- a record has its first eight bytes
pub has_bytes : (s : List ℕ) → record_told s ≡ Ok tt → 8 ≤ length s
has_bytes s h = omega (arith, (holds s h).least, (holds s h).whole)

-- of a begin's: a job record has room in 260 bytes
module _ (s : List ℕ) (h : record_told s ≡ Ok tt) (b : call_field s ≡ 0) where
  job_most : length_field s - 4 ≤ 260
  job_most =
      let n = length_field s - 4 in
      let f : no_job_length 1 instructions n ≡ false =
      pick_eq (call_field s) 0 (no_job_length 1 instructions n) (no_job_length 1 instructions n) _ b refl ∙ (holds s h).size in
      (length_in 1 instructions n f).2

  module _ (size : ℕ) (e : size ≡ length_field s) where
    -- its instructions, as the code takes them
    abbrev code : List ℕ
    code = take (size - 8) (drop 8 s)

    code_length : length code ≡ size - 8
    code_length = length-take-le (size - 8) (drop 8 s) (omega (arith, length-drop 8 s, (holds s h).whole))

    pub code_room : (room : ℕ) → room ≡ 260 → 4 + length code ≤ room
    code_room room l = omega (arith, code_length, job_most, (holds s h).least)

    pub job_room : (room : ℕ) → room ≡ 260 → size - 4 ≤ room
    job_room room l = omega (arith, job_most)

    pub job_laid :
        (job mid next : List ℕ) (kind : ℕ) → mid ≡ lay 0 (header (size - 4) kind []) job → next ≡ lay 4 code mid →
        kind ≡ kind_for ((size - 8) / 4) → length job ≡ 260 → take (size - 4) next ≡ job_in s
    unfolding job_in
    job_laid job mid next kind f g q l =
        let rec = header (size - 4) kind code in
        let n : length rec ≡ size - 4 = omega (arith, code_length, (holds s h).least) in
        let x : next ≡ rec ++ drop (0 + length rec) job =
        g ∙ ap (lay 4 code) f ∙ sym (lay-append 0 (header (size - 4) kind []) code job) ∙
        lay_is 0 rec job (omega (arith, n, job_most)) in
        ap (take (size - 4)) x ∙ ap (λ (k : ℕ). take k (rec ++ drop (0 + length rec) job)) (sym n) ∙ take-append_seam rec _ ∙ simp (q, e)

-- a call by its number, of which a match found the case
called :
    (s : List ℕ) (k : CallKind) (n : ℕ) → kind_number k ≡ call_field s → kind_number k ≡ n →
    call_in s ≡ call_with n (worker_field s) (lock_field s) (job_in s)
called s k n h z = ap (λ (x : ℕ). call_with x (worker_field s) (lock_field s) (job_in s)) (sym h ∙ z)

pub made_begin :
    (e : Engine) (s : List ℕ) (k : CallKind) (m : Line) → kind_number k ≡ call_field s → k ≡ CallKind.Begin →
    m ≡ (made_of e (Begin (worker_field s) (lock_field s) (job_in s))).line → m ≡ (made_of e (call_in s)).line
unfolding call_with
made_begin e s k m n h q = q ∙ ap (λ (x : Call). (made_of e x).line) (sym (called s k 0 n (ap kind_number h)))

pub left_begin :
    (e next : Engine) (s : List ℕ) (k : CallKind) → kind_number k ≡ call_field s → k ≡ CallKind.Begin →
    next ≡ (made_of e (Begin (worker_field s) (lock_field s) (job_in s))).engine → next ≡ (made_of e (call_in s)).engine
unfolding call_with
left_begin e next s k n h q = q ∙ ap (λ (x : Call). (made_of e x).engine) (sym (called s k 0 n (ap kind_number h)))

pub made_step :
    (e : Engine) (s : List ℕ) (k : CallKind) (m : Line) → kind_number k ≡ call_field s → k ≡ CallKind.Step →
    m ≡ (made_of e (Step (worker_field s))).line → m ≡ (made_of e (call_in s)).line
unfolding call_with
made_step e s k m n h q = q ∙ ap (λ (x : Call). (made_of e x).line) (sym (called s k 1 n (ap kind_number h)))

pub left_step :
    (e next : Engine) (s : List ℕ) (k : CallKind) → kind_number k ≡ call_field s → k ≡ CallKind.Step →
    next ≡ (made_of e (Step (worker_field s))).engine → next ≡ (made_of e (call_in s)).engine
unfolding call_with
left_step e next s k n h q = q ∙ ap (λ (x : Call). (made_of e x).engine) (sym (called s k 1 n (ap kind_number h)))

pub made_collect :
    (e : Engine) (s : List ℕ) (k : CallKind) (m : Line) → kind_number k ≡ call_field s → k ≡ CallKind.Collect →
    m ≡ (made_of e (Collect (worker_field s))).line → m ≡ (made_of e (call_in s)).line
unfolding call_with
made_collect e s k m n h q = q ∙ ap (λ (x : Call). (made_of e x).line) (sym (called s k 2 n (ap kind_number h)))

pub left_collect :
    (e next : Engine) (s : List ℕ) (k : CallKind) → kind_number k ≡ call_field s → k ≡ CallKind.Collect →
    next ≡ (made_of e (Collect (worker_field s))).engine → next ≡ (made_of e (call_in s)).engine
unfolding call_with
left_collect e next s k n h q = q ∙ ap (λ (x : Call). (made_of e x).engine) (sym (called s k 2 n (ap kind_number h)))

pub made_drop :
    (e : Engine) (s : List ℕ) (k : CallKind) (m : Line) → kind_number k ≡ call_field s → k ≡ CallKind.Drop →
    m ≡ (made_of e (Drop (worker_field s))).line → m ≡ (made_of e (call_in s)).line
unfolding call_with
made_drop e s k m n h q = q ∙ ap (λ (x : Call). (made_of e x).line) (sym (called s k 3 n (ap kind_number h)))

pub left_drop :
    (e next : Engine) (s : List ℕ) (k : CallKind) → kind_number k ≡ call_field s → k ≡ CallKind.Drop →
    next ≡ (made_of e (Drop (worker_field s))).engine → next ≡ (made_of e (call_in s)).engine
unfolding call_with
left_drop e next s k n h q = q ∙ ap (λ (x : Call). (made_of e x).engine) (sym (called s k 3 n (ap kind_number h)))

pub ruleset makes = (made_begin, made_step, made_collect, made_drop, left_begin, left_step, left_collect, left_drop)
