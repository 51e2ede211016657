-- Each call's order is that of its rows, one after the other: where a definition has an order within an order, the rows of the
-- inner one stand in its place.
use Rattle.std.specs.Prelude.{Err, None, Ok, Option, Some}
use Prim.Native.Nat.{ℕ, ◌+◌, ◌*◌}
use mathlib.Core.Path.{◌≡◌, refl, ◌∙◌, sym, ap}
use mathlib.Core.Bool.{true, false}
use mathlib.Core.List.{List, [], ◌∷◌, ◌++◌}
use Rattle.arrays.specs.Fresh.{guards_of}
use Rattle.arrays.specs.Held.{held_told}
use Rattle.parts.specs.Pick.{on_option}
use Rattle.parts.specs.Told.{refuse_if, ◌then◌, first_of}
use Rattle.parts.specs.declared.Instr.{Instr}
use Rattle.parts.specs.declared.LockWord.{LockWord}
use Rattle.parts.specs.declared.Refusal.TheVariants.{WorkerUnderWay, NotCollected, WorkerIdle, Held}
use Rattle.parts.specs.Told.{Told}
use Rattle.parts.proofs.Order.{first_cons}
use Rattle.records.specs.Job.{job_of, told_by, code_told, instr_told}
use Rattle.records.specs.Setup.{guards_field, locks_field, turns_field, words_field, setup_told, guards_told, turns_told}
use Rattle.plain.specs.Plain.{plain_told}
use Rattle.steps.specs.Worker as worker
use Rattle.steps.specs.Worker.{on_state}
use Rattle.steps.specs.declared.State.{State}
use Rattle.steps.specs.declared.State.TheVariants.{Idle, UnderWay, Finished}
use Rattle.engine.specs.Calls.{begin_told, step_told, collect_told, drop_told, show_told, park_told}
use Rattle.engine.specs.State.{locks_of, words_of}
use Rattle.engine.specs.declared.Engine.{Engine}
use Rattle.refusals.specs.Orders.{code_rows, begin_rows, plain_rows, step_rows, collect_rows, drop_rows, guard_rows, turn_rows, setup_rows, show_rows, held_rows, park_rows, state_of, is_idle, is_under_way, is_finished}

-- an order within an order, and rows before others
then_assoc : (t u v : Told) → ((t then u) then v) ≡ (t then (u then v))
then_assoc (Ok _) u v = refl
then_assoc (Err r) u v = refl

first_append : (ts us : List Told) → first_of (ts ++ us) ≡ (first_of ts then first_of us)
first_append [] us = refl
first_append (t ∷ ts) us =
    first_cons t (ts ++ us) ∙ ap (λ (v : Told). t then v) (first_append ts us) ∙
    sym (ap (λ (v : Told). v then first_of us) (first_cons t ts) ∙ then_assoc t (first_of ts) (first_of us))

first_behind : (ts : List Told) (t : Told) (us : List Told) → first_of (t ∷ (ts ++ us)) ≡ (t then (first_of ts then first_of us))
first_behind ts t us = first_cons t (ts ++ us) ∙ ap (λ (v : Told). t then v) (first_append ts us)

-- the rows of the instructions, of the guards, of the turns, of the locks
code_rows_lem :
    (is : List Instr) (place l : ℕ) (guards : List ℕ) → code_told is place l guards ≡ first_of (code_rows is place l guards)
unfolding code_told instr_told code_rows
code_rows_lem [] place l guards = refl
code_rows_lem (i ∷ is) place l guards = simp (first_cons, then_assoc, code_rows_lem is (place + 1) l guards)

guard_rows_lem : (gs : List ℕ) (locks place : ℕ) → guards_told gs locks place ≡ first_of (guard_rows gs locks place)
unfolding guards_told guard_rows
guard_rows_lem [] locks place = refl
guard_rows_lem (g ∷ gs) locks place = simp (first_cons, guard_rows_lem gs locks (place + 1))

turn_rows_lem : (ts : List ℕ) (place : ℕ) → turns_told ts place ≡ first_of (turn_rows ts place)
unfolding turns_told turn_rows
turn_rows_lem [] place = refl
turn_rows_lem (t ∷ ts) place = simp (first_cons, turn_rows_lem ts (place + 4))

held_state :
    (h : Option ℕ) (t : Told) (at : ℕ) →
    on_option h t (λ s. Err (Held at)) ≡ (refuse_if (on_option h false (λ s. true)) (Held at) then t)
held_state None t at = refl
held_state (Some s) t at = refl

held_rows_lem : (ls : List LockWord) (at : ℕ) → held_told ls at ≡ first_of (held_rows ls at)
unfolding held_told held_rows
held_rows_lem [] at = refl
held_rows_lem (l ∷ ls) at =
    held_state l.holder (held_told ls (at + 1)) at ∙ simp (held_rows_lem ls (at + 1), first_cons)

-- the rows that go by the worker's state
begin_state :
    (s : State) →
    on_state {A = Told} s (Ok tt) (λ p. Err WorkerUnderWay) (λ x. Err NotCollected) ≡
    (refuse_if (is_under_way s) WorkerUnderWay then refuse_if (is_finished s) NotCollected)
begin_state Idle = refl
begin_state (UnderWay p) = refl
begin_state (Finished x) = refl

step_state :
    (s : State) →
    on_state {A = Told} s (Err WorkerIdle) (λ p. Ok tt) (λ x. Err NotCollected) ≡
    (refuse_if (is_idle s) WorkerIdle then refuse_if (is_finished s) NotCollected)
step_state Idle = refl
step_state (UnderWay p) = refl
step_state (Finished x) = refl

collect_state :
    (s : State) →
    on_state {A = Told} s (Err WorkerIdle) (λ p. Err WorkerUnderWay) (λ x. Ok tt) ≡
    (refuse_if (is_idle s) WorkerIdle then refuse_if (is_under_way s) WorkerUnderWay)
collect_state Idle = refl
collect_state (UnderWay p) = refl
collect_state (Finished x) = refl

drop_state : (s : State) → on_state {A = Told} s (Err WorkerIdle) (λ p. Ok tt) (λ x. Ok tt) ≡ refuse_if (is_idle s) WorkerIdle
drop_state Idle = refl
drop_state (UnderWay p) = refl
drop_state (Finished x) = refl

-- each call's order is that of its rows
pub begin_rows_lem : (e : Engine) (w l : ℕ) (rec : List ℕ) → begin_told e w l rec ≡ first_of (begin_rows e w l rec)
unfolding begin_told told_by worker.begin_by_state
begin_rows_lem e w l rec =
    simp (
      begin_state (state_of e w),
      code_rows_lem (job_of rec) 0 l (guards_of (words_of e)),
      first_behind (code_rows (job_of rec) 0 l (guards_of (words_of e))),
      then_assoc,
    )

pub step_rows_lem : (e : Engine) (w : ℕ) → step_told e w ≡ first_of (step_rows e w)
unfolding worker.step_by_state
step_rows_lem e w = simp (step_state (state_of e w))

pub collect_rows_lem : (e : Engine) (w : ℕ) → collect_told e w ≡ first_of (collect_rows e w)
unfolding worker.collect_by_state
collect_rows_lem e w = simp (collect_state (state_of e w))

pub drop_rows_lem : (e : Engine) (w : ℕ) → drop_told e w ≡ first_of (drop_rows e w)
unfolding worker.drop_by_state
drop_rows_lem e w = simp (drop_state (state_of e w))

pub setup_rows_lem : (rec : List ℕ) → setup_told rec ≡ first_of (setup_rows rec)
unfolding setup_told
setup_rows_lem rec =
    simp (
      guard_rows_lem (guards_field rec) (locks_field rec) 6,
      turn_rows_lem (turns_field rec) (6 + 5 * words_field rec),
      first_behind (guard_rows (guards_field rec) (locks_field rec) 6),
    )

pub park_rows_lem : (e : Engine) (room : ℕ) → park_told e room ≡ first_of (park_rows e room)
unfolding park_told
park_rows_lem e room = simp (held_rows_lem (locks_of e) 0, first_behind (held_rows (locks_of e) 0))

pub show_rows_lem : (e : Engine) (s room : ℕ) → show_told e s room ≡ first_of (show_rows e s room)
unfolding show_told
show_rows_lem e s room = refl

pub plain_rows_lem :
    (values guards : List ℕ) (l : ℕ) (rec : List ℕ) → plain_told values guards l rec ≡ first_of (plain_rows values guards l rec)
unfolding plain_told told_by
plain_rows_lem values guards l rec = simp (first_cons, code_rows_lem (job_of rec) 0 l guards)
