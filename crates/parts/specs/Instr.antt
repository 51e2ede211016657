-- The eight meanings of an instruction, once: a job alone and the engine's steps both go by them.
mod Names
use Names.*
use Rattle.parts.specs.Pick.{pick}
use Rattle.parts.specs.Parts.{register_of, with_register}

-- set: "register a becomes b + 256c"
abbrev pub set_of : Instr → Registers → Registers
set_of i r = with_register r i.a (i.b + 256 * i.c)

-- add and sub: "register a plus or minus register b, modulo 2 to the 32nd"
abbrev pub add_of : Instr → Registers → Registers
add_of i r = with_register r i.a ((register_of r i.a + register_of r i.b) % 2 ^ 32)

abbrev pub sub_of : Instr → Registers → Registers
sub_of i r = with_register r i.a ((register_of r i.a + 2 ^ 32 - register_of r i.b) % 2 ^ 32)

-- skip: "if registers a and b are equal, pass over the next c instructions"
abbrev pub over_of : Instr → Registers → ℕ
over_of i r = pick (eqb (register_of r i.a) (register_of r i.b)) i.c 0

-- a load and a store name word b, a cam word c
unfoldable pub word_of : Instr → ℕ
word_of i = pick (eqb i.op 4) i.c i.b

-- "The first byte of an instruction decides among eight meanings": what the first step of each finds. Halt: "the job's answer is
-- no (a = 0) or yes (a = 1)". No job that was checked has an op above 7.
unfoldable pub asks_of : Instr → Registers → Asks
asks_of i r =
    pick (eqb i.op 0) (Halt (eqb i.a 1))
    (pick (eqb i.op 1) (Go (set_of i r) 0)
    (pick (eqb i.op 2) (Touch i.b)
    (pick (eqb i.op 3) (Touch i.b)
    (pick (eqb i.op 4) (Touch i.c)
    (pick (eqb i.op 5) (Go (add_of i r) 0)
    (pick (eqb i.op 6) (Go (sub_of i r) 0)
    (pick (eqb i.op 7) (Go r (over_of i r))
    (Halt false))))))))

-- load: "register a becomes word b"; store: "word b becomes register a"; cam: "if word c equals register a it becomes register b"
unfoldable pub follows_of : Instr → Registers → ℕ → Follows
follows_of i r value =
    pick (eqb i.op 2) (Done (with_register r i.a value))
    (pick (eqb i.op 3) (Swap (register_of r i.a))
    (pick (eqb (register_of r i.a) value) (Swap (register_of r i.b)) (Done r)))

-- by the case
abbrev pub on_asks : {A : Type 0} → Asks → (Bool → A) → (Registers → ℕ → A) → (ℕ → A) → A
on_asks (Halt said) h g t = h said
on_asks (Go r n) h g t = g r n
on_asks (Touch w) h g t = t w

abbrev pub on_follows : {A : Type 0} → Follows → (Registers → A) → (ℕ → A) → A
on_follows (Done r) d s = d r
on_follows (Swap x) d s = s x
