-- "Kind 2, setup. Byte 4: locks L. Byte 5: words W. Then W guard bytes (each below L), W values of 4 bytes, L starting turns of
-- 4 bytes. Length 6 + 5W + 4L."
mod Names
use Names.*
use Rattle.parts.specs.Numbers.{most_locks, most_words, last_turn}
use Rattle.parts.specs.Pick.{◌or◌, ◌isnt◌}
use Rattle.parts.specs.Told.{refuse_if, ◌then◌, first_of}
use Rattle.records.specs.Bytes.{u32s_of, u32s_bytes, kind_field, length_told, header}

abbrev pub setup_kind : ℕ
setup_kind = 2

-- the fields of a setup record
abbrev pub locks_field : List ℕ → ℕ
locks_field rec = get_or rec 4 0

abbrev pub words_field : List ℕ → ℕ
words_field rec = get_or rec 5 0

abbrev pub setup_length : ℕ → ℕ → ℕ
setup_length l w = 6 + 5 * w + 4 * l

abbrev pub guards_field : List ℕ → List ℕ
guards_field rec = take (words_field rec) (drop 6 rec)

abbrev pub values_field : List ℕ → List ℕ
values_field rec = u32s_of (take (4 * words_field rec) (drop (6 + words_field rec) rec))

abbrev pub turns_field : List ℕ → List ℕ
turns_field rec = u32s_of (drop (6 + 5 * words_field rec) rec)

-- the record of the fields; there are as many guards as values
abbrev pub setup_record : List ℕ → List ℕ → List ℕ → List ℕ
setup_record guards values turns =
    header (setup_length (length turns) (length guards)) setup_kind
    (length turns ∷ length guards ∷ guards ++ u32s_bytes values ++ u32s_bytes turns)

-- not from 1 to most
abbrev pub outside : ℕ → ℕ → Bool
outside most n = ltb n 1 or ltb most n

-- "12 for the lowest faulty byte": of the guards from `place` on, and of the turns, each at its first byte
unfoldable pub guards_told : List ℕ → ℕ → ℕ → Told
guards_told [] locks place = Ok tt
guards_told (g ∷ gs) locks place = refuse_if (leb locks g) (Range place) then guards_told gs locks (place + 1)

unfoldable pub turns_told : List ℕ → ℕ → Told
turns_told [] place = Ok tt
turns_told (t ∷ ts) place = refuse_if (ltb last_turn t) (Range place) then turns_told ts (place + 4)

-- the end of the order below, of a record with l locks and w words: "12 for the lowest faulty byte"
abbrev pub bytes_told : List ℕ → ℕ → ℕ → Told
bytes_told rec l w =
    first_of (guards_told (take w (drop 6 rec)) l 6 ∷ turns_told (u32s_of (drop (6 + 5 * w) rec)) (6 + 5 * w) ∷ [])

-- its rows from the fourth on: "12 for L then W, 5 for the total", and that end
abbrev pub sizes_told : List ℕ → ℕ → ℕ → Told
sizes_told rec l w =
    first_of
    (refuse_if (outside most_locks l) (Range 4) ∷
    refuse_if (outside most_words w) (Range 5) ∷
    refuse_if (length rec isnt setup_length l w) Length ∷
    bytes_told rec l w ∷
    [])

-- "Setup: 5 as above, 6, 5 (fewer than 6 bytes), 12 for L then W, 5 for the total, 12 for the lowest faulty byte."
unfoldable pub setup_told : List ℕ → Told
setup_told rec =
    first_of
    (length_told rec ∷
    refuse_if (kind_field rec isnt setup_kind) Kind ∷
    refuse_if (ltb (length rec) 6) Length ∷
    sizes_told rec (locks_field rec) (words_field rec) ∷
    [])
