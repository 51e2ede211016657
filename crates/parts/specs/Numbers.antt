-- The engine's numbers, as document 01 and request 04 have them.
use Rattle.std.specs.Prelude.{ℕ, ◌+◌, ◌-◌, ◌*◌}

-- "8 workers (0 to 7)"
abbrev pub workers : ℕ
workers = 8

-- "1 to 16 locks"
abbrev pub most_locks : ℕ
most_locks = 16

-- "1 to 64 words"
abbrev pub most_words : ℕ
most_words = 64

-- "32 sheets"
abbrev pub sheets : ℕ
sheets = 32

-- the most instructions in a job and log entries on a sheet; request 04: "64 instructions and 64 log entries"
abbrev pub instructions : ℕ
instructions = 64

-- "4 registers": the highest register's number
abbrev pub last_register : ℕ
last_register = 3

-- "All sheets' entries stand together", 2,048 of them
abbrev pub entries : ℕ
entries = sheets * instructions

-- "Turns run from 0 to 67,108,864"
abbrev pub last_turn : ℕ
last_turn = 67108864

-- Request 04: "The longest run becomes 63 × 3 + 1 = 190, a helping try 193, any try 196": where a job has at most n instructions
abbrev pub longest_run : ℕ → ℕ
longest_run n = (n - 1) * 3 + 1

abbrev pub try_steps : ℕ → ℕ
try_steps n = 4 + longest_run n + 2

abbrev pub help_steps : ℕ → ℕ
help_steps n = 1 + longest_run n + 2
