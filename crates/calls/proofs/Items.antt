-- What stands at a place, on each way.
use Prim.Native.Nat.{ℕ, ◌+◌, ◌-◌, ◌≤◌, ◌<◌}
use mathlib.Core.Path.{◌≡◌, refl, ◌∙◌, sym, ap}
use mathlib.Core.List.{List}
use native.Mathlib.Omega.{arith}
use lib.ListN.{length, take, drop}
use borrow.Author.Tests.{le-leb, lt-leb, leb-false, leb-true}
use mathlib.Core.Bool.{Bool, true, false}
use lib.Dec.{leb}
use Rattle.parts.specs.declared.Refusal.{Refusal}
use Rattle.parts.specs.Told.{Told}
use Rattle.records.specs.Bytes.{length_field}
use Rattle.records.proofs.Laws.{part_end}
use Rattle.calls.specs.Record.{record_told}
use Rattle.std.specs.Bool.{⊤}
use Rattle.std.specs.Iterator.{MakesProgress, at_most}
use Rattle.calls.specs.declared.reader.Reader.{Reader}
use Rattle.std.specs.Prelude.{Result, Some, None, Ok, Err, OnSome}
use Rattle.parts.specs.Pick.{pick}
use Rattle.parts.specs.Told.{on_told}
use Rattle.calls.proofs.Laws.{holds}
use Rattle.calls.specs.Reader.{Item, front_item, item_at, past_item, past_at}

pub item_end : (bytes : List ℕ) (place : ℕ) → length bytes ≤ place → None ≡ item_at bytes place
unfolding item_at
item_end bytes place h = sym (simp (le-leb (length bytes) place h))

pub item_front : (bytes : List ℕ) (place : ℕ) → place < length bytes → item_at bytes place ≡ front_item (drop place bytes) place
unfolding item_at
item_front bytes place k = simp (lt-leb (length bytes) place k)

-- the rest of the bytes from the place on, as the code has it, and what a callee told of it
module _ (bytes : List ℕ) (place : ℕ) (t : Told) (k : place < length bytes) where
  abbrev rest : List ℕ
  rest = take (length bytes - place) (drop place bytes)

  at_front : item_at bytes place ≡ front_item rest place
  at_front = item_front bytes place k ∙ ap (λ (s : List ℕ). front_item s place) (sym (part_end place bytes))

  module _ (q : t ≡ record_told rest) where
    pub item_refused : (r : Refusal) → t ≡ Err r → Some (Err r) ≡ item_at bytes place
    unfolding front_item
    item_refused r h = sym (at_front ∙ simp (sym q ∙ h))

    module _ (h : t ≡ Ok tt) (size : ℕ) (e : size ≡ length_field rest) where
      pub item_here : Some (Ok (place, place + size)) ≡ item_at bytes place
      unfolding front_item
      item_here = sym (at_front ∙ simp (sym q ∙ h, e))

pub ruleset items = (item_end, item_refused, item_here)

-- where reading goes on after what a callee found
pub past_by : (bytes : List ℕ) (place next : ℕ) (i : Item) → i ≡ item_at bytes place → next ≡ past_item i (length bytes) place → next ≡ past_at bytes place
unfolding past_at
past_by bytes place next i e q = q ∙ ap (λ (i : Item). past_item i (length bytes) place) e

-- an item stands before the end
pub item_inside : (bytes : List ℕ) (place : ℕ) (x : Result (ℕ × ℕ) Refusal) → Some x ≡ item_at bytes place → place < length bytes
unfolding item_at
item_inside bytes place x h = go (leb (length bytes) place) refl h
  where
    go :
        (b : Bool) → leb (length bytes) place ≡ b → Some x ≡ pick b None (front_item (drop place bytes) place) → place < length bytes
    go true e k = let z : ◌≡◌ {A = ℕ} 0 1 = cc in absurd (omega arith)
    go false e k = leb-false (length bytes) place e

-- what a callee found at a place before the end
module _ (bytes : List ℕ) (place : ℕ) (i : Item) (k : place < length bytes) (q : i ≡ item_at bytes place) where
  abbrev here : List ℕ
  here = drop place bytes

  found : front_item here place ≡ i
  found = sym (q ∙ item_front bytes place k)

  pub at_record :
      (from to : ℕ) → i ≡ Some (Ok (from, to)) →
      (record_told here ≡ Ok tt) × (from ≡ place) × (past_at bytes place ≡ place + length_field here)
  unfolding front_item past_at
  at_record from to h = go (record_told here) refl
    where
      go :
          (t : Told) → record_told here ≡ t →
          (record_told here ≡ Ok tt) × (from ≡ place) × (past_at bytes place ≡ place + length_field here)
      go (Ok _) e =
          let f : i ≡ Some (Ok (place, place + length_field here)) = sym found ∙ simp e in
          let g : (from, to) ≡ (place, place + length_field here) = cc in
          (e, ap (λ (p : ℕ × ℕ). p.0) g, ap (λ (j : Item). past_item j (length bytes) place) (sym q ∙ f))
      go (Err r) e = let f : i ≡ Some (Err r) = sym found ∙ simp e in let z : ◌≡◌ {A = ℕ} 0 1 = cc in absurd (omega arith)

  pub at_refused : (r : Refusal) → i ≡ Some (Err r) → record_told here ≡ Err r
  unfolding front_item
  at_refused r h = go (record_told here) refl
    where
      go : (t : Told) → record_told here ≡ t → record_told here ≡ Err r
      go (Ok _) e =
          let f : i ≡ Some (Ok (place, place + length_field here)) = sym found ∙ simp e in
          let z : ◌≡◌ {A = ℕ} 0 1 = cc in
          absurd (omega arith)
      go (Err s) e = let f : i ≡ Some (Err s) = sym found ∙ simp e in let g : s ≡ r = cc in e ∙ ap Err g

-- and none is handed out at the end alone
pub item_none : (bytes : List ℕ) (place : ℕ) → None ≡ item_at bytes place → length bytes ≤ place
unfolding item_at front_item
item_none bytes place h = go (leb (length bytes) place) (record_told (drop place bytes)) refl h
  where
    go :
        (b : Bool) (t : Told) → leb (length bytes) place ≡ b →
        ◌≡◌ {A = Item} None (pick b None (on_told t (Some (Ok (place, place + length_field (drop place bytes)))) (λ r. Some (Err r)))) →
        length bytes ≤ place
    go true t e k = leb-true (length bytes) place e
    go false (Ok _) e k = let z : ◌≡◌ {A = ℕ} 0 1 = cc in absurd (omega arith)
    go false (Err r) e k = let z : ◌≡◌ {A = ℕ} 0 1 = cc in absurd (omega arith)

-- so each item that is handed out leaves fewer bytes to read
pub item_less :
    (bytes : List ℕ) (place next : ℕ) (i : Item) → i ≡ item_at bytes place → next ≡ past_item i (length bytes) place →
    OnSome i (length bytes - next < length bytes - place)
item_less bytes place next None e q = tt
item_less bytes place next (Some (Err r)) e q = let k = item_inside bytes place (Err r) e in omega arith
item_less bytes place next (Some (Ok (from, to))) e q =
    let k = item_inside bytes place (Ok (from, to)) e in
    let r = at_record bytes place (Some (Ok (from, to))) k e from to refl in
    let n = past_by bytes place next (Some (Ok (from, to))) e q in
    let l = (holds (drop place bytes) r.0).least in
    omega (arith, r.2)

-- and so the reader comes to an end
pub item_goes :
    (r next : Reader) (i : Item) → OnSome i (length next.bytes.now - next.place < length r.bytes.now - r.place) →
    MakesProgress (λ _. ⊤) (λ r. at_most (length r.bytes.now - r.place)) r i next
item_goes r next None h = record { on = λ _. tt; keeps = tt; rests = λ _. tt }
item_goes r next (Some x) h = record { on = λ _. (tt, tt, h); keeps = tt; rests = λ _. tt }
