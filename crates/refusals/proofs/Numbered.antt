-- A refusal's number and place tell it, and an answer's number the answer: no two have the same. The numbers are document 01's,
-- from 1 to 16 without 10, which request 06 removed, request 01's 17 and request 08's 18 to 20.
use Rattle.std.specs.Prelude.{Err, Ok}
use Prim.Native.Nat.{ℕ, ◌≤◌}
use mathlib.Core.Path.{◌≡◌, refl, ◌∙◌, sym, ap}
use mathlib.Core.Logic.{◌↔◌, ◌≢◌}
use native.Mathlib.Omega.{arith}
use lib.Dec.{eqb}
use Rattle.parts.specs.Pick.{pick}
use Rattle.parts.specs.Told.{answer_number, refusal_number, refusal_place}
use Rattle.parts.specs.declared.Answer.{Answer}
use Rattle.parts.specs.declared.Answer.TheVariants.{RanYes, RanNo, NotTaken, Worn}
use Rattle.parts.specs.declared.Refusal.{Refusal}
use Rattle.parts.specs.Told.{Told}
use Rattle.parts.specs.declared.Refusal.TheVariants.{NoWorker, NoLock, WorkerUnderWay, NotCollected, Length, Kind, Instruction, Guard, LastTurn, WorkerIdle, Range, Buffer, SheetFree, Held, NoWord, CallRecord, Malformed, NotThere, Present}
use Rattle.refusals.specs.Orders.{Refuses}

-- the refusal of a number and a place, and the answer of a number
unfoldable refusal_at : ℕ → ℕ → Refusal
refusal_at n p =
    pick (eqb n 1) NoWorker
    (pick (eqb n 2) NoLock
    (pick (eqb n 3) WorkerUnderWay
    (pick (eqb n 4) NotCollected
    (pick (eqb n 5) Length
    (pick (eqb n 6) Kind
    (pick (eqb n 7) (Instruction p)
    (pick (eqb n 8) (Guard p)
    (pick (eqb n 9) LastTurn
    (pick (eqb n 11) WorkerIdle
    (pick (eqb n 12) (Range p)
    (pick (eqb n 13) Buffer
    (pick (eqb n 14) SheetFree
    (pick (eqb n 15) (Held p)
    (pick (eqb n 16) NoWord
    (pick (eqb n 17) CallRecord
    (pick (eqb n 18) (Malformed p)
    (pick (eqb n 19) NotThere
    Present)))))))))))))))))

unfoldable answer_at : ℕ → Answer
answer_at n = pick (eqb n 1) RanYes (pick (eqb n 2) RanNo (pick (eqb n 3) NotTaken Worn))

refusal_back : (r : Refusal) → refusal_at (refusal_number r) (refusal_place r) ≡ r
unfolding refusal_at refusal_number refusal_place
refusal_back NoWorker = refl
refusal_back NoLock = refl
refusal_back WorkerUnderWay = refl
refusal_back NotCollected = refl
refusal_back Length = refl
refusal_back Kind = refl
refusal_back (Instruction p) = refl
refusal_back (Guard p) = refl
refusal_back LastTurn = refl
refusal_back WorkerIdle = refl
refusal_back (Range p) = refl
refusal_back Buffer = refl
refusal_back SheetFree = refl
refusal_back (Held p) = refl
refusal_back NoWord = refl
refusal_back CallRecord = refl
refusal_back (Malformed p) = refl
refusal_back NotThere = refl
refusal_back Present = refl

answer_back : (a : Answer) → answer_at (answer_number a) ≡ a
unfolding answer_at answer_number
answer_back RanYes = refl
answer_back RanNo = refl
answer_back NotTaken = refl
answer_back Worn = refl

-- two refusals with one number and one place are the same
pub number_one : (r s : Refusal) → refusal_number r ≡ refusal_number s → refusal_place r ≡ refusal_place s → r ≡ s
number_one r s h k = sym (refusal_back r) ∙ rw (h, k) (refusal_back s)

-- two answers with one number are the same
pub answer_one : (a b : Answer) → answer_number a ≡ answer_number b → a ≡ b
answer_one a b h = sym (answer_back a) ∙ rw h (answer_back b)

-- "No." goes from 1 to 16, request 01 adds 17 and request 08 18 to 20, and 10 is none's since request 06
pub number_range : (r : Refusal) → (1 ≤ refusal_number r) × (refusal_number r ≤ 20) × (refusal_number r ≢ 10)
unfolding refusal_number
number_range NoWorker = (omega arith, omega arith, λ h. omega arith)
number_range NoLock = (omega arith, omega arith, λ h. omega arith)
number_range WorkerUnderWay = (omega arith, omega arith, λ h. omega arith)
number_range NotCollected = (omega arith, omega arith, λ h. omega arith)
number_range Length = (omega arith, omega arith, λ h. omega arith)
number_range Kind = (omega arith, omega arith, λ h. omega arith)
number_range (Instruction p) = (omega arith, omega arith, λ h. omega arith)
number_range (Guard p) = (omega arith, omega arith, λ h. omega arith)
number_range LastTurn = (omega arith, omega arith, λ h. omega arith)
number_range WorkerIdle = (omega arith, omega arith, λ h. omega arith)
number_range (Range p) = (omega arith, omega arith, λ h. omega arith)
number_range Buffer = (omega arith, omega arith, λ h. omega arith)
number_range SheetFree = (omega arith, omega arith, λ h. omega arith)
number_range (Held p) = (omega arith, omega arith, λ h. omega arith)
number_range NoWord = (omega arith, omega arith, λ h. omega arith)
number_range CallRecord = (omega arith, omega arith, λ h. omega arith)
number_range (Malformed p) = (omega arith, omega arith, λ h. omega arith)
number_range NotThere = (omega arith, omega arith, λ h. omega arith)
number_range Present = (omega arith, omega arith, λ h. omega arith)

-- a call is refused with a refusal's number and place exactly when it is refused with it
pub by_number :
    (told : Told) (r : Refusal) → Refuses told (refusal_number r) (refusal_place r) ↔ (told ≡ Err r)
by_number (Ok _) r = (λ h. absurd h, λ h. let z : ◌≡◌ {A = ℕ} 0 1 = cc in absurd (omega arith))
by_number (Err s) r =
    (λ (n, p). ap Err (number_one s r n p), λ h. let q : s ≡ r = cc in (ap refusal_number q, ap refusal_place q))
