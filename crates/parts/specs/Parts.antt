-- What is done to one small value of the engine.
mod Names
use Names.*
use Rattle.parts.specs.Numbers.{last_turn}
use Rattle.parts.specs.Pick.{pick, on_option}

-- the values at the start, and past an array's end
abbrev pub instr0 : Instr
instr0 = record { op = 0; a = 0; b = 0; c = 0 }

abbrev pub registers0 : Registers
registers0 = record { r0 = 0; r1 = 0; r2 = 0; r3 = 0 }

abbrev pub word0 : Word
word0 = record { value = 0; count = 0; guard = 0 }

abbrev pub entry0 : Entry
entry0 = record { fill = None }

abbrev pub lock0 : LockWord
lock0 = record { turn = 0; holder = None }

-- one more, at 32 bits
abbrev pub next32 : ℕ → ℕ
next32 n = (n + 1) % 2 ^ 32

-- a register, by its number
unfoldable pub register_of : Registers → ℕ → ℕ
register_of r i = pick (eqb i 0) r.r0 (pick (eqb i 1) r.r1 (pick (eqb i 2) r.r2 r.r3))

-- register i becomes x
unfoldable pub with_register : Registers → ℕ → ℕ → Registers
with_register r i x =
    pick (eqb i 0) (record { r0 = x; r1 = r.r1; r2 = r.r2; r3 = r.r3 })
    (pick (eqb i 1) (record { r0 = r.r0; r1 = x; r2 = r.r2; r3 = r.r3 })
    (pick (eqb i 2) (record { r0 = r.r0; r1 = r.r1; r2 = x; r3 = r.r3 })
    (record { r0 = r.r0; r1 = r.r1; r2 = r.r2; r3 = x })))

-- "read the word"
abbrev pub reading_of : Word → Reading
reading_of w = record { value = w.value; count = w.count }

-- "Swap: if the word's value and count equal the entry's, the word takes the new value and its count rises by one;
-- otherwise nothing."
unfoldable pub swap_of : Word → Reading → ℕ → Word
swap_of w e new =
    pick (eqb w.value e.value)
    (pick (eqb w.count e.count) (record { value = new; count = next32 w.count; guard = w.guard }) w) w

-- "Commit: if the log entry at the place is empty it takes the value and count read"
unfoldable pub committed_of : Entry → Reading → Entry
committed_of e read = on_option e.fill (record { fill = Some read }) (λ first. e)

-- "either way the worker goes on with what the entry holds"
unfoldable pub holds_of : Entry → Reading → Reading
holds_of e read = on_option e.fill read (λ first. first)

-- request 02: "Commit also says whether this worker filled the entry", by the entry before the commit
unfoldable pub is_first : Entry → Bool
is_first e = on_option e.fill true (λ first. false)

-- "the lock is free with turn 67,108,864"
unfoldable pub worn_of : LockWord → Bool
worn_of l = on_option l.holder (eqb l.turn last_turn) (λ s. false)

-- "Grab. If the lock word is still what was remembered, it becomes turn + 1, held by the worker's own sheet.
-- Otherwise nothing changes." What was remembered is free, at the turn seen.
unfoldable pub grab_of : LockWord → ℕ → ℕ → LockWord
grab_of l seen sheet =
    on_option l.holder
    (pick (eqb l.turn seen) (record { turn = next32 l.turn; holder = Some sheet }) l) (λ s. l)

-- "Release. If the lock word is held by that sheet at the turn under which it won, it becomes free with the same turn."
unfoldable pub release_of : LockWord → ℕ → ℕ → LockWord
release_of l won sheet =
    on_option l.holder l
    (λ s. pick (eqb s sheet) (pick (eqb l.turn won) (record { turn = l.turn; holder = None }) l) l)
