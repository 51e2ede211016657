-- Answers and refusals with document 01's numbers and places, and the order in which refusals are given.
mod Names
use Names.*
use Rattle.parts.specs.Pick.{pick}

infixr 20 ◌then◌
-- "Collected answers: 1 ran, yes. 2 ran, no. 3 not taken"; request 03: "Answer 4, worn"
unfoldable pub answer_number : Answer → ℕ
answer_number RanYes = 1
answer_number RanNo = 2
answer_number NotTaken = 3
answer_number Worn = 4

-- the table's "No."; request 06: "10 removed"
unfoldable pub refusal_number : Refusal → ℕ
refusal_number NoWorker = 1
refusal_number NoLock = 2
refusal_number WorkerUnderWay = 3
refusal_number NotCollected = 4
refusal_number Length = 5
refusal_number Kind = 6
refusal_number (Instruction p) = 7
refusal_number (Guard p) = 8
refusal_number LastTurn = 9
refusal_number WorkerIdle = 11
refusal_number (Range p) = 12
refusal_number Buffer = 13
refusal_number SheetFree = 14
refusal_number (Held l) = 15
refusal_number NoWord = 16
-- request 01: a record that makes no call
refusal_number CallRecord = 17
-- request 08: "18 book malformed", "19 number not there", "20 number present already"
refusal_number (Malformed at) = 18
refusal_number NotThere = 19
refusal_number Present = 20

-- the table's "place"
unfoldable pub refusal_place : Refusal → ℕ
refusal_place NoWorker = 0
refusal_place NoLock = 0
refusal_place WorkerUnderWay = 0
refusal_place NotCollected = 0
refusal_place Length = 0
refusal_place Kind = 0
refusal_place (Instruction p) = p
refusal_place (Guard p) = p
refusal_place LastTurn = 0
refusal_place WorkerIdle = 0
refusal_place (Range p) = p
refusal_place Buffer = 0
refusal_place SheetFree = 0
refusal_place (Held l) = l
refusal_place NoWord = 0
refusal_place CallRecord = 0
refusal_place (Malformed at) = at
refusal_place NotThere = 0
refusal_place Present = 0

-- what a call tells that has no more to tell than whether it was accepted
abbrev pub Told : Type 0
Told = Result Unit Refusal

-- of what a call told: where it was accepted; where it was refused
abbrev pub on_told : {A : Type 0} → Told → A → (Refusal → A) → A
on_told (Ok _) a f = a
on_told (Err r) a f = f r

-- one row of a call's order: refused so exactly when the test holds
abbrev pub refuse_if : Bool → Refusal → Told
refuse_if test r = pick test (Err r) (Ok tt)

-- the first where it refuses, else the second
abbrev pub ◌then◌ : Told → Told → Told
(Ok _) then u = u
(Err r) then u = Err r

-- a call's order: the first row that refuses
abbrev pub first_of : List Told → Told
first_of [] = Ok tt
first_of (t ∷ []) = t
first_of (t ∷ u ∷ ts) = t then first_of (u ∷ ts)

-- row i refuses with r, and every row before it accepts
abbrev pub FirstAt : List Told → Refusal → ℕ → Type 0
FirstAt rows r i =
    (i < length rows) × (get_or rows i (Ok tt) ≡ Err r) × ((j : ℕ) → j < i → get_or rows j (Ok tt) ≡ Ok tt)
