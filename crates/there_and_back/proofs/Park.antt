-- What park writes, setup takes, and it gives the same guards, values and turns.
use Rattle.std.specs.Prelude.{Err, None, Ok, Option, Some}
use Prim.Native.Nat.{ℕ, ◌+◌, ◌≤◌, ◌<◌}
use native.Mathlib.Omega.{arith}
use mathlib.Core.Path.{◌≡◌, refl, ◌∙◌, sym, ap}
use mathlib.Core.List.{List, [], ◌∷◌, ◌++◌, map}
use mathlib.Core.Logic.{⊎_elim}
use lib.Dec.{eqb, ltb}
use lib.ListN.{length, drop, length-map}
use lib.Seq.{length-take-le}
use borrow.Author.Tests.{eqb-false, ltb-false}
use Rattle.arrays.specs.Fresh.{words_from, free_at, guards_of, values_of, turns_of}
use Rattle.arrays.specs.Held.{held_told}
use Rattle.parts.specs.Lay.{lay}
use Rattle.parts.specs.Numbers.{last_turn}
use Rattle.parts.specs.Parts.{word0, lock0}
use Rattle.parts.specs.Told.{refuse_if}
use Rattle.parts.specs.Pick.{on_option}
use Rattle.parts.specs.declared.LockWord.{LockWord}
use Rattle.parts.specs.declared.Refusal.TheVariants.{Range, Buffer, Held}
use Rattle.parts.specs.Told.{Told}
use Rattle.parts.specs.declared.Word.{Word}
use Rattle.parts.proofs.Order.{first_all, row_passes}
use Rattle.records.specs.Setup.{guards_field, values_field, turns_field, setup_length, setup_told}
use Rattle.records.proofs.One.{setup_sized}
use Rattle.records.proofs.Takes.{setup_takes}
use Rattle.engine.specs.State.{lock_count, word_count, word_at, lock_at, locks_of, words_of, state_record}
use Rattle.engine.specs.Calls.{fresh_of, setup_of, write_of, park_told, park_of, parked_of}
use Rattle.engine.specs.declared.Engine.{Engine}
use Rattle.engine.specs.declared.Outcome.{Outcome}
use Rattle.ranges.specs.Good.{Fits32, GoodWord, GoodLock, Good}
use Rattle.ranges.proofs.Frame.{All, take_all, map_all}
use Rattle.ranges.proofs.Laid.{lay_first}
use Rattle.ranges.proofs.Taken.{word0_good, lock0_good}
use Rattle.ranges.proofs.Fresh.{guards_from, values_from, turns_from, fresh_words, fresh_locks, fresh_counts, fresh_free}

-- a writer that tells how many bytes it wrote was accepted, and wrote so many
pub wrote :
    (told : Told) (bytes : List ℕ) (n : ℕ) → write_of told bytes ≡ Ok n → (told ≡ Ok tt) × (n ≡ length bytes)
wrote (Ok _) bytes n h = (refl, cc)
wrote (Err r) bytes n h = let z : ◌≡◌ {A = ℕ} 0 1 = cc in absurd (omega arith)

-- locks none of which is held are free at their turns
free_all : (ls : List LockWord) (at : ℕ) → held_told ls at ≡ Ok tt → map free_at (turns_of ls) ≡ ls
unfolding held_told
free_all [] at h = refl
free_all (l ∷ ls) at h = go l.holder refl h (λ k. free_all ls (at + 1) k)
  where
    go :
        (x : Option ℕ) → l.holder ≡ x → on_option x (held_told ls (at + 1)) (λ s. Err (Held at)) ≡ Ok tt →
        (held_told ls (at + 1) ≡ Ok tt → map free_at (turns_of ls) ≡ ls) → map free_at (turns_of (l ∷ ls)) ≡ l ∷ ls
    go None q k f =
        let same : free_at l.turn ≡ l = ap (λ (x : Option ℕ). record { turn = l.turn; holder = x }) (sym q) in
        let rest : map free_at (turns_of ls) ≡ ls = f k in
        cc
    go (Some s) q k f = let z : ◌≡◌ {A = ℕ} 0 1 = cc in absurd (omega arith)

-- what setup makes of the record rec of the state e: "the present values and turns"
pub record TakesParked (e : Engine) (rec : List ℕ) : Type 0 where
  pub told : (setup_of rec).told ≡ Ok tt
  pub locks : (setup_of rec).engine.locks ≡ e.locks
  pub words : (setup_of rec).engine.words ≡ e.words
  pub guards : guards_of (words_of (setup_of rec).engine) ≡ guards_of (words_of e)
  pub values : values_of (words_of (setup_of rec).engine) ≡ values_of (words_of e)
  pub turns : turns_of (locks_of (setup_of rec).engine) ≡ turns_of (locks_of e)
  -- no lock was held, so the lock words are the same; the counts begin anew
  pub same : locks_of (setup_of rec).engine ≡ locks_of e
  pub free : (k : ℕ) → (lock_at (setup_of rec).engine k).holder ≡ None
  pub counts : (k : ℕ) → (word_at (setup_of rec).engine k).count ≡ 0

setup_made : (rec : List ℕ) → setup_told rec ≡ Ok tt → setup_of rec ≡ record { engine = fresh_of rec; told = Ok tt }
unfolding setup_of
setup_made rec h = simp h

-- what an accepted park found
parks :
    (e : Engine) (buf : List ℕ) → park_told e (length buf) ≡ Ok tt →
    (lock_count e ≡ 0 → ⊥) × (held_told (locks_of e) 0 ≡ Ok tt) × (setup_length (lock_count e) (word_count e) ≤ length buf)
unfolding park_told
parks e buf h =
    let size = setup_length (lock_count e) (word_count e) in
    let rows =
    refuse_if (eqb (lock_count e) 0) (Range 4) ∷ held_told (locks_of e) 0 ∷ refuse_if (ltb (length buf) size) Buffer ∷ [] in
    let row = first_all rows h in
    (eqb-false (lock_count e) 0 (row_passes _ (Range 4) (row 0)), row 1, ltb-false (length buf) size (row_passes _ Buffer (row 2)))

-- what park did that told it wrote n bytes into the buffer
pub record Parks (e : Engine) (buf : List ℕ) (n : ℕ) : Type 0 where
  pub size : n ≡ length (state_record e)
  pub room : n ≤ length buf
  pub laid : parked_of e buf ≡ lay 0 (state_record e) buf
  pub parked : parked_of e buf ≡ state_record e ++ drop n buf
  pub taken : TakesParked e (state_record e)

-- a state that is not blank and has no lock held
module _ (e : Engine) (g : Good e) (some : 1 ≤ e.locks) (held : held_told (locks_of e) 0 ≡ Ok tt) where
  guards : List ℕ
  guards = guards_of (words_of e)

  values : List ℕ
  values = values_of (words_of e)

  turns : List ℕ
  turns = turns_of (locks_of e)

  words_some : 1 ≤ e.words
  words_some = ⊎_elim (λ z. absurd (omega arith)) (λ z. z.1) g.numbers.both

  words_length : length (words_of e) ≡ e.words
  words_length =
      let most = g.numbers.words in
      let n : word_count e ≡ e.words = omega arith in
      length-take-le (word_count e) e.word (omega (arith, g.lengths.word)) ∙ n

  locks_length : length (locks_of e) ≡ e.locks
  locks_length =
      let most = g.numbers.locks in
      let n : lock_count e ≡ e.locks = omega arith in
      length-take-le (lock_count e) e.lock (omega (arith, g.lengths.lock)) ∙ n

  guards_length : length guards ≡ e.words
  unfolding guards
  guards_length = length-map (words_of e) (λ w. w.guard) ∙ words_length

  values_length : length values ≡ length guards
  unfolding values
  values_length = length-map (words_of e) (λ w. w.value) ∙ words_length ∙ sym guards_length

  turns_length : length turns ≡ e.locks
  unfolding turns
  turns_length = length-map (locks_of e) (λ l. l.turn) ∙ locks_length

  word_good : All (GoodWord e.locks) (words_of e) word0
  word_good = take_all (GoodWord e.locks) (word_count e) e.word word0 (word0_good e.locks) g.word

  lock_good : All GoodLock (locks_of e) lock0
  lock_good = take_all GoodLock (lock_count e) e.lock lock0 lock0_good g.lock

  guards_good : All (λ x. x < length turns) guards 0
  unfolding guards
  guards_good =
      map_all (λ x. x < length turns) (λ (w : Word). w.guard) (words_of e) word0
      (λ k. omega (arith, (word_good k).guard, turns_length))

  values_good : All Fits32 values 0
  unfolding values
  values_good = map_all Fits32 (λ (w : Word). w.value) (words_of e) word0 (λ k. (word_good k).value)

  turns_good : All (λ x. x ≤ last_turn) turns 0
  unfolding turns
  turns_good = map_all (λ x. x ≤ last_turn) (λ (l : LockWord). l.turn) (locks_of e) lock0 (λ k. (lock_good k).turn)

  takes :
      (setup_told (state_record e) ≡ Ok tt) × (guards_field (state_record e) ≡ guards) ×
      (values_field (state_record e) ≡ values) × (turns_field (state_record e) ≡ turns)
  unfolding guards values turns
  takes =
      setup_takes guards values turns (omega (arith, turns_length), omega (arith, turns_length, g.numbers.locks))
      (omega (arith, guards_length, words_some), omega (arith, guards_length, g.numbers.words)) values_length guards_good
      values_good turns_good

  pub state_length : length (state_record e) ≡ setup_length e.locks e.words
  unfolding guards values turns
  state_length =
      (setup_sized (state_record e) takes.0).size ∙
      ap (λ (l : ℕ). setup_length l (length guards)) turns_length ∙ ap (λ (w : ℕ). setup_length e.locks w) guards_length

  pub state_taken : TakesParked e (state_record e)
  unfolding guards values turns fresh_of
  state_taken =
      let rec = state_record e in
      let made = setup_made rec takes.0 in
      let e' = (setup_of rec).engine in
      let next : e' ≡ fresh_of rec = ap (λ (o : Outcome). o.engine) made in
      let ws : words_of e' ≡ words_from guards values =
      ap (λ (x : Engine). words_of x) next ∙
      fresh_words rec guards values takes.1 takes.2 refl values_length (omega (arith, guards_length, g.numbers.words)) in
      let ls : locks_of e' ≡ map free_at turns =
      ap (λ (x : Engine). locks_of x) next ∙
      fresh_locks rec turns takes.3 refl (omega (arith, turns_length, g.numbers.locks)) in
      record {
        told = ap (λ (o : Outcome). o.told) made;
        locks = ap (λ (x : Engine). x.locks) next ∙ turns_length;
        words = ap (λ (x : Engine). x.words) next ∙ guards_length;
        guards = ap (λ (l : List Word). guards_of l) ws ∙ guards_from guards values values_length;
        values = ap (λ (l : List Word). values_of l) ws ∙ values_from guards values values_length;
        turns = ap (λ (l : List LockWord). turns_of l) ls ∙ turns_from turns;
        same = ls ∙ free_all (locks_of e) 0 held;
        free = λ k. ap (λ (x : Engine). (lock_at x k).holder) next ∙ fresh_free rec k;
        counts = λ k. ap (λ (x : Engine). (word_at x k).count) next ∙ fresh_counts rec k;
      }

-- "Park writes the setup record of the present values and turns": setup takes it, and gives them back
pub park_setup : (e : Engine) (buf : List ℕ) (n : ℕ) → Good e → park_of e (length buf) ≡ Ok n → Parks e buf n
unfolding park_of parked_of
park_setup e buf n g h =
    let rec = state_record e in
    let w = wrote (park_told e (length buf)) rec n h in
    let p = parks e buf w.0 in
    let most = g.numbers.locks in
    let some : 1 ≤ e.locks = omega arith in
    let fits = g.numbers.words in
    let size : length rec ≡ setup_length e.locks e.words = state_length e g some p.1 in
    let room : n ≤ length buf = omega arith in
    let laid : parked_of e buf ≡ lay 0 rec buf = simp w.0 in
    record {
      size = w.1;
      room = room;
      laid = laid;
      parked = laid ∙ lay_first rec buf (omega arith) ∙ ap (λ (m : ℕ). rec ++ drop m buf) (sym w.1);
      taken = state_taken e g some p.1;
    }
