-- What a reader of call records hands out: it holds the recorded bytes and its place.
mod Names
use Names.*
use Rattle.parts.specs.Pick.{pick}
use Rattle.parts.specs.Told.{on_told}
use Rattle.records.specs.Bytes.{length_field}
use Rattle.calls.specs.Record.{record_told}

-- what stands at a place: a record, from its first byte up to the byte past it, or its refusal; nothing at the end
abbrev pub Item : Type 0
Item = Option (Result (ℕ × ℕ) Refusal)

-- the record at the front of s, whose first byte is byte `place` of the file: from there up to the byte past it, or its refusal
unfoldable pub front_item : List ℕ → ℕ → Item
front_item s place = on_told (record_told s) (Some (Ok (place, place + length_field s))) (λ r. Some (Err r))

-- what stands at a place of the recorded bytes
unfoldable pub item_at : List ℕ → ℕ → Item
item_at bytes place = pick (leb (length bytes) place) None (front_item (drop place bytes) place)

-- where reading goes on: past a record; a refused one is the last
abbrev pub past_item : Item → ℕ → ℕ → ℕ
past_item (Some (Ok (from, to))) end place = to
past_item (Some (Err r)) end place = end
past_item None end place = place

unfoldable pub past_at : List ℕ → ℕ → ℕ
past_at bytes place = past_item (item_at bytes place) (length bytes) place

-- what is handed out at a place, and the next place
abbrev pub handed_at : List ℕ → ℕ → Item × ℕ
handed_at bytes place = (item_at bytes place, past_at bytes place)

-- a reader hands that out, and then it stands at the next place of the same bytes
abbrev pub Hands : Reader → Item → Reader → Type 0
Hands r item next =
    (item ≡ (handed_at r.bytes.now r.place).0) × (next.place ≡ (handed_at r.bytes.now r.place).1) × (next.bytes ≡ r.bytes)
