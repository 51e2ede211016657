-- The first j bytes are those of the word's first j pairs of digits.
use Rattle.std.proofs.Common.{◌≡◌, length, take}
use Rattle.text.specs.Text.{most_bytes}
use Rattle.script.specs.Line.{hex_bytes}
use Rattle.script.proofs.record_of.Given as goal

abbrev pub invariant-loop-j : goal.invariant-loop-j
invariant-loop-j l = record { kept : length l.bytes ≡ most_bytes; so_far : take l.j l.bytes ≡ take l.j (hex_bytes l.word) }
