-- The numbers that a step leaves say the state of the step by value: by the definitions alone, of any numbers that are enough for a
-- state.
use Rattle.std.specs.Prelude.{None, Option, Some}
use Rattle.std.proofs.Common.{◌≡◌, ℕ, ◌+◌, ◌-◌, ◌%◌, ◌<◌, ◌≤◌, Bool, true, false, eqb, leb, List, length, get_or, sym, refl, ap, ◌∙◌, subst, arith, leb-false}
use borrow.Author.Tests.{lt-leb}
use lib.Seq.{set-get_or}
use Rattle.parts.specs.Instr.{asks_of, follows_of, on_asks, on_follows}
use Rattle.parts.specs.Numbers.{workers, most_locks, most_words, sheets, last_turn}
use Rattle.parts.specs.Parts as parts
use Rattle.parts.specs.Parts.{entry0, lock0, word0, next32, reading_of, committed_of, holds_of, is_first, register_of}
use Rattle.parts.specs.Pick.{pick, on_option}
use Rattle.parts.specs.declared.Answer.{Answer}
use Rattle.parts.specs.declared.Answer.TheVariants.{NotTaken, Worn}
use Rattle.parts.specs.declared.Asks.{Asks}
use Rattle.parts.specs.declared.Asks.TheVariants.{Halt, Go, Touch}
use Rattle.parts.specs.declared.Entry.{Entry}
use Rattle.parts.specs.declared.Follows.{Follows}
use Rattle.parts.specs.declared.Follows.TheVariants as follows
use Rattle.parts.specs.declared.Instr.{Instr}
use Rattle.parts.specs.declared.LockWord.{LockWord}
use Rattle.parts.specs.declared.Reading.{Reading}
use Rattle.parts.specs.declared.Word.{Word}
use Rattle.steps.specs.Places.{spot_of}
use Rattle.steps.specs.Try as try
use Rattle.steps.specs.Try.{to_of, start_of, onto_of, logged_of, effect_of}
use Rattle.steps.specs.Worker as worker
use Rattle.steps.specs.Worker.{on_state, moved_of, counted_of}
use Rattle.steps.specs.declared.Point.{Point}
use Rattle.steps.specs.declared.Point.TheVariants.{Look, Grab, LookAgain, ReadMark}
use Rattle.steps.specs.declared.Run.{Run}
use Rattle.steps.specs.declared.Stage.TheVariants.{Read, Commit, Swap, Mark, Release}
use Rattle.steps.specs.declared.State.{State}
use Rattle.steps.specs.declared.State.TheVariants.{Idle, UnderWay, Finished}
use Rattle.steps.specs.declared.View.{View}
use Rattle.steps.specs.declared.Worker.{Worker}
use Rattle.engine.specs.Calls.{step_of}
use Rattle.engine.specs.State.{sheet0, worker_at, lock_at, word_at, with_worker}
use Rattle.engine.specs.Step.{places_of, view_at, put_at, stepped_of}
use Rattle.engine.specs.declared.Engine.{Engine}
use Rattle.engine.specs.declared.Sheet.{Sheet}
use Rattle.cells.specs.Codes.{holder_of, state_in, HolderFits, at_tag, at_sheet, at_turn, at_new, idle_tag, look_tag, grab_tag, look_again_tag, read_mark_tag, read_tag, commit_tag, swap_tag, mark_tag, release_tag}
use Rattle.cells.specs.Layout.{numbers, lock_part, word_part, sheet_part, entry_part, unpack, row_of, number_at, run_now, read_now, seen_now}
use Rattle.cells.specs.Pieces.{Part, place_of, put_piece}
use Rattle.cells.specs.State.{with_lock, with_word, with_sheet, with_entry}
use Rattle.cells.proofs.Back.{lock_back, word_back, sheet_back, entry_back}
use Rattle.cells.proofs.Pieces.{length-put, pieces_get}
use Rattle.cells.proofs.Row.{worker_is}
use Rattle.cells.proofs.Unpack.{Says, Puts, unpack_lock, unpack_word, unpack_sheet, unpack_entry}
use Rattle.lent_moves.specs.Moves.{to_grab, started, finished}
use Rattle.lent_moves.specs.Looks.{own_now, lock_place, lock_now, said_now, registers_now, instr_now, word_place, word_now, entry_place, entry_now, sheet_now, answer_now}
use Rattle.lent_step.specs.Points.{looked, look_numbers, grab_numbers, look_again_numbers, started_own, started_seen, mark_read, read_mark_numbers, first_numbers, read_numbers, follow_numbers, entry_filled, committed, commit_numbers, swap_numbers, mark_numbers, release_numbers, onward_numbers, step_numbers}
use Rattle.lent_step.proofs.Moved.{Moved, moved_grab, moved_again, moved_seen, moved_start, moved_pass, moved_go, moved_halt, moved_touch, moved_log, moved_load, moved_store, moved_release, moved_finish, moved_count}
use Rattle.lent_step.proofs.Put.{put_alone, put_lock_lem, put_word_lem, put_entry_lem, put_done}

-- The bytes of a piece are bytes, of whatever numbers.
holder_fits : (x : ℕ) → HolderFits (holder_of x)
holder_fits x = go (eqb x 0)
  where
    go : (b : Bool) → HolderFits (pick b None (Some ((x - 1) % 256)))
    go true = tt
    go false = omega arith

lock_fits : (s : List ℕ) (j : ℕ) → j < most_locks → HolderFits (lock_at (unpack s) j).holder
unfolding unpack
lock_fits s j b =
    subst (λ (l : LockWord). HolderFits l.holder) (sym (pieces_get lock_part s j lock0 b))
    (holder_fits (get_or s (place_of lock_part j + 1) 0))

seen_fits : (s : List ℕ) (w : ℕ) → HolderFits (seen_now s w).holder
unfolding seen_now
seen_fits s w = holder_fits (get_or (row_of s w) at_sheet 0)

guard_byte : (s : List ℕ) (j : ℕ) → j < most_words → (word_at (unpack s) j).guard < 256
unfolding unpack
guard_byte s j b = omega (arith, ap (λ (x : Word). x.guard) (pieces_get word_part s j word0 b))

length_byte : (s : List ℕ) (j : ℕ) → j < sheets → (get_or (unpack s).sheet j sheet0).length < 256
unfolding unpack
length_byte s j b = omega (arith, ap (λ (x : Sheet). x.length) (pieces_get sheet_part s j sheet0 b))

own_byte : (s : List ℕ) (w : ℕ) → w < workers → own_now s w < 256
own_byte s w b = omega (arith, ap (λ (k : Worker). k.own) (worker_is s w b))

-- and stay so
grab_fits : (l : LockWord) (seen own : ℕ) → HolderFits l.holder → own < 256 → HolderFits (parts.grab_of l seen own).holder
unfolding parts.grab_of
grab_fits l seen own f b = go l.holder (eqb l.turn seen)
  where
    go :
        (k : Option ℕ) (t : Bool) →
        HolderFits (on_option k (pick t (record { turn = next32 l.turn; holder = Some own }) l) (λ s. l)).holder
    go None true = b
    go None false = f
    go (Some x) t = f

release_fits : (l : LockWord) (won sheet : ℕ) → HolderFits l.holder → HolderFits (parts.release_of l won sheet).holder
unfolding parts.release_of
release_fits l won sheet f = go l.holder (eqb l.turn won)
  where
    freed : Bool → Bool → LockWord
    freed t v = pick t (pick v (record { turn = l.turn; holder = None }) l) l

    two : (t v : Bool) → HolderFits (freed t v).holder
    two true true = tt
    two true false = f
    two false v = f

    go : (k : Option ℕ) (v : Bool) → HolderFits (on_option k l (λ s. freed (eqb s sheet) v)).holder
    go None v = f
    go (Some x) v = two (eqb x sheet) v

swap_guard : (x : Word) (r : Reading) (new : ℕ) → (parts.swap_of x r new).guard ≡ x.guard
unfolding parts.swap_of
swap_guard x r new = go (eqb x.value r.value) (eqb x.count r.count)
  where
    go : (t v : Bool) → (pick t (pick v (record { value = new; count = next32 x.count; guard = x.guard }) x) x).guard ≡ x.guard
    go true true = refl
    go true false = refl
    go false v = refl

-- The state that a worker is in after Look, Read mark, the first step of an instruction, and its commit.
abbrev look_state : LockWord → State
look_state l =
    on_option l.holder (pick (eqb l.turn last_turn) (Finished Worn) (UnderWay (Grab l.turn)))
    (λ sheet. UnderWay (Point.Run (start_of sheet l.turn) Read))

abbrev mark_state : Bool → LockWord → ℕ → ℕ → State
mark_state done l own won =
    pick done (UnderWay (Point.Run (start_of own won) Read))
    (on_option l.holder (Finished NotTaken)
    (λ sheet. pick (eqb sheet own) (UnderWay (Point.Run (start_of own won) Read)) (UnderWay (Point.Run (start_of sheet l.turn) Read))))

abbrev asked_state : Asks → Run → Reading → State
asked_state q r x =
    on_asks q (λ said. UnderWay (Point.Run r (Mark said))) (λ g over. UnderWay (Point.Run (onto_of r over g) Read))
    (λ w. UnderWay (Point.Run r (Commit x)))

abbrev follow_state : Follows → Run → Reading → State
follow_state q r x =
    on_follows q (λ g. UnderWay (Point.Run (onto_of r 0 g) Read)) (λ new. UnderWay (Point.Run r (Swap x new)))

look_is : (v : View) → try.look_step v ≡ to_of v (look_state v.lock)
unfolding try.look_step
look_is v = go v.lock.holder (eqb v.lock.turn last_turn)
  where
    go :
        (h : Option ℕ) (t : Bool) →
        on_option h (pick t (to_of v (Finished Worn)) (try.at_of v (Grab v.lock.turn)))
        (λ x. try.at_of v (Point.Run (start_of x v.lock.turn) Read)) ≡
        to_of v
        (on_option h (pick t (Finished Worn) (UnderWay (Grab v.lock.turn)))
        (λ x. UnderWay (Point.Run (start_of x v.lock.turn) Read)))
    go None true = refl
    go None false = refl
    go (Some x) t = refl

to_pick : (v : View) (t : Bool) (a b : State) → pick t (to_of v a) (to_of v b) ≡ to_of v (pick t a b)
to_pick v true a b = refl
to_pick v false a b = refl

mark_is : (v : View) (l : LockWord) (won : ℕ) → try.read_mark_step v l won ≡ to_of v (mark_state v.done l v.worker.own won)
unfolding try.read_mark_step
mark_is v l won = go v.done l.holder
  where
    own : State
    own = UnderWay (Point.Run (start_of v.worker.own won) Read)

    other : ℕ → State
    other x = UnderWay (Point.Run (start_of x l.turn) Read)

    go :
        (d : Bool) (h : Option ℕ) →
        pick d (to_of v own)
        (on_option h (to_of v (Finished NotTaken)) (λ x. pick (eqb x v.worker.own) (to_of v own) (to_of v (other x)))) ≡
        to_of v (pick d own (on_option h (Finished NotTaken) (λ x. pick (eqb x v.worker.own) own (other x))))
    go true h = refl
    go false None = refl
    go false (Some x) = to_pick v (eqb x v.worker.own) own (other x)

read_is : (v : View) (r : Run) → try.read_step v r ≡ to_of v (asked_state (asks_of v.instr r.registers) r (reading_of v.word))
unfolding try.read_step
read_is v r = go (asks_of v.instr r.registers)
  where
    go :
        (q : Asks) →
        on_asks q (λ said. try.at_of v (Point.Run r (Mark said))) (λ g over. try.at_of v (Point.Run (onto_of r over g) Read))
        (λ w. try.at_of v (Point.Run r (Commit (reading_of v.word)))) ≡
        to_of v (asked_state q r (reading_of v.word))
    go (Halt said) = refl
    go (Go g n) = refl
    go (Touch w) = refl

follow_is : (v : View) (r : Run) (x : Reading) → try.follow_step v r x ≡ to_of v (follow_state (follows_of v.instr r.registers x.value) r x)
unfolding try.follow_step
follow_is v r x = go (follows_of v.instr r.registers x.value)
  where
    go :
        (q : Follows) →
        on_follows q (λ g. try.at_of v (Point.Run (onto_of r 0 g) Read)) (λ new. try.at_of v (Point.Run r (Swap x new))) ≡
        to_of v (follow_state q r x)
    go (follows.Done g) = refl
    go (follows.Swap n) = refl

-- the numbers and the state are picked alike
module _ (s : List ℕ) (w : ℕ) where
  moved_pick : (t : Bool) (m n : List ℕ) (p q : State) → Moved s w m p → Moved s w n q → Moved s w (pick t m n) (pick t p q)
  moved_pick true m n p q a b = a
  moved_pick false m n p q a b = b

  asked_pick :
      (r : Run) (x : Reading) (t : Bool) (m n : List ℕ) (p q : Asks) →
      Moved s w m (asked_state p r x) → Moved s w n (asked_state q r x) → Moved s w (pick t m n) (asked_state (pick t p q) r x)
  asked_pick r x true m n p q a b = a
  asked_pick r x false m n p q a b = b

  follow-pick :
      (r : Run) (x : Reading) (t : Bool) (m n : List ℕ) (p q : Follows) →
      Moved s w m (follow_state p r x) → Moved s w n (follow_state q r x) → Moved s w (pick t m n) (follow_state (pick t p q) r x)
  follow-pick r x true m n p q a b = a
  follow-pick r x false m n p q a b = b

module _ (s : List ℕ) (w : ℕ) (h : numbers ≤ length s) (b : w < workers) where
  moved_look : (l : LockWord) → HolderFits l.holder → Moved s w (looked s w l) (look_state l)
  unfolding looked
  moved_look l f = go l.holder f
    where
      go :
          (k : Option ℕ) → HolderFits k →
          Moved s w (on_option k (pick (eqb l.turn last_turn) (finished s w Worn) (to_grab s w l.turn)) (λ x. started s w x l.turn))
          (on_option k (pick (eqb l.turn last_turn) (Finished Worn) (UnderWay (Grab l.turn)))
          (λ x. UnderWay (Point.Run (start_of x l.turn) Read)))
      go None f = moved_pick s w (eqb l.turn last_turn) _ _ _ _ (moved_finish s w h b _) (moved_grab s w h b _)
      go (Some x) f = moved_start s w h b x l.turn f

  moved_own : Moved s w (started_own s w) (UnderWay (Point.Run (start_of (own_now s w) (number_at s w at_turn)) Read))
  unfolding started_own
  moved_own = moved_start s w h b _ _ (own_byte s w b)

  moved_mark : (done : Bool) (l : LockWord) → HolderFits l.holder → Moved s w (mark_read s w done l) (mark_state done l (own_now s w) (number_at s w at_turn))
  unfolding mark_read started_seen
  moved_mark done l f = moved_pick s w done _ _ _ _ moved_own (go l.holder f)
    where
      go :
          (k : Option ℕ) → HolderFits k →
          Moved s w (on_option k (finished s w NotTaken) (λ x. pick (eqb x (own_now s w)) (started_own s w) (started s w x l.turn)))
          (on_option k (Finished NotTaken)
          (λ x.
          pick (eqb x (own_now s w)) (UnderWay (Point.Run (start_of (own_now s w) (number_at s w at_turn)) Read))
          (UnderWay (Point.Run (start_of x l.turn) Read))))
      go None f = moved_finish s w h b _
      go (Some x) f = moved_pick s w (eqb x (own_now s w)) _ _ _ _ moved_own (moved_start s w h b _ _ f)

  moved_first : (i : Instr) → Moved s w (first_numbers s w i) (asked_state (asks_of i (registers_now s w)) (run_now s w) (reading_of (word_now s i)))
  unfolding first_numbers asks_of
  moved_first i =
      let one = asked_pick s w (run_now s w) (reading_of (word_now s i)) in
      one (eqb i.op 0) _ _ _ _ (moved_halt s w h b _)
      (one (eqb i.op 1) _ _ _ _ (moved_go s w h b _ _)
      (one (eqb i.op 2) _ _ _ _ (moved_touch s w h b _)
      (one (eqb i.op 3) _ _ _ _ (moved_touch s w h b _)
      (one (eqb i.op 4) _ _ _ _ (moved_touch s w h b _)
      (one (eqb i.op 5) _ _ _ _ (moved_go s w h b _ _)
      (one (eqb i.op 6) _ _ _ _ (moved_go s w h b _ _)
      (one (eqb i.op 7) _ _ _ _ (moved_pass s w h b _) (moved_halt s w h b _))))))))

  moved_follow :
      (i : Instr) (held : Reading) →
      Moved s w (follow_numbers s w i held) (follow_state (follows_of i (registers_now s w) held.value) (logged_of (run_now s w)) held)
  unfolding follow_numbers follows_of
  moved_follow i held =
      let one = follow-pick s w (logged_of (run_now s w)) held in
      one (eqb i.op 2) _ _ _ _ (moved_load s w h b _ _)
      (one (eqb i.op 3) _ _ _ _ (moved_store s w h b _ _)
      (one (eqb (register_of (registers_now s w) i.a) held.value) _ _ _ _ (moved_store s w h b _ _) (moved_log s w h b)))

-- A step at each point.
abbrev SaysAt : List ℕ → ℕ → List ℕ → Point → Type 0
SaysAt s w t p = Says s t (stepped_of (unpack s) w p)

-- by the worker's move alone; by its move to the numbers t and one more piece written
alone :
    (s t : List ℕ) (w : ℕ) (p : Point) (q : State) → Moved s w t q →
    with_worker (unpack s) w (moved_of (worker_at (unpack s) w) q) ≡ stepped_of (unpack s) w p → SaysAt s w t p
alone s t w p q m e = (m.0 ∙ e, m.1)

with_piece :
    {A : Type 0} (part : Part A) (change : Engine → ℕ → A → Engine) → Puts part change →
    (s t : List ℕ) (w : ℕ) (p : Point) (k : Worker) (i : ℕ) (x : A) →
    numbers ≤ length s → i < part.count → part.reading (part.writing x) ≡ x → Says s t (with_worker (unpack s) w k) →
    change (with_worker (unpack s) w k) i x ≡ stepped_of (unpack s) w p →
    SaysAt s w (put_piece part t i x) p
with_piece part change law s t w p k i x h b f m e = (
  law t i x (omega (arith, m.1)) b f ∙ ap (λ (y : Engine). change y i x) m.0 ∙ e,
  length-put part t i x ∙ m.1,
)

-- what a commit makes of an entry that is empty, and of one that is filled
committed_empty : (e : Entry) (x : Reading) → e.fill ≡ None → committed_of e x ≡ record { fill = Some x }
unfolding committed_of
committed_empty e x h = simp h

committed_filled : (e : Entry) (x r : Reading) → e.fill ≡ Some r → committed_of e x ≡ e
unfolding committed_of
committed_filled e x r h = simp h

-- and of the worker that committed to it
counted_empty : (k : Worker) (e : Entry) → e.fill ≡ None → counted_of k (is_first e) ≡ counted_of k true
unfolding is_first
counted_empty k e h = simp h

counted_filled : (k : Worker) (e : Entry) (r : Reading) → e.fill ≡ Some r → counted_of k (is_first e) ≡ k
unfolding is_first counted_of
counted_filled k e r h = simp h

entry_stays : (e : Engine) (i : ℕ) → e ≡ with_entry e i (get_or e.entry i entry0)
entry_stays e i =
    λ t.
    record {
      locks = e.locks;
      words = e.words;
      word = e.word;
      lock = e.lock;
      sheet = e.sheet;
      program = e.program;
      entry = sym (set-get_or e.entry i entry0) t;
      worker = e.worker;
    }

module _ (s : List ℕ) (w : ℕ) (h : numbers ≤ length s) (b : w < workers) where
  abbrev e : Engine
  e = unpack s

  abbrev r : Run
  r = run_now s w

  look_says : SaysAt s w (look_numbers s w) Look
  unfolding look_numbers effect_of places_of view_at
  look_says =
      let at = places_of e w Look in
      alone s _ w Look (look_state (lock_now s w)) (moved_look s w h b (lock_now s w) (lock_fits s (lock_place s w) (omega arith)))
      (sym (ap (λ (v : View). put_at e at v) (look_is (view_at e at)) ∙ put_alone e at (look_state (lock_now s w))))

  grab_says : SaysAt s w (grab_numbers s w) (Grab (number_at s w at_turn))
  unfolding grab_numbers effect_of try.grab_step places_of view_at
  grab_says =
      let seen = number_at s w at_turn in
      let x = parts.grab_of (lock_now s w) seen (own_now s w) in
      let q = UnderWay (LookAgain (next32 seen)) in
      with_piece lock_part with_lock unpack_lock s _ w (Grab seen) (moved_of (worker_at e w) q) (lock_place s w) x h (omega arith)
      (lock_back x (grab_fits (lock_now s w) seen (own_now s w) (lock_fits s (lock_place s w) (omega arith)) (own_byte s w b)))
      (moved_again s w h b (next32 seen)) (sym (put_lock_lem e (places_of e w (Grab seen)) q x))

  look_again_says : SaysAt s w (look_again_numbers s w) (LookAgain (number_at s w at_turn))
  unfolding look_again_numbers effect_of try.look_again_step places_of view_at
  look_again_says =
      let q = UnderWay (ReadMark (lock_now s w) (number_at s w at_turn)) in
      alone s _ w (LookAgain (number_at s w at_turn)) q (moved_seen s w h b (lock_now s w) (lock_fits s (lock_place s w) (omega arith)))
      (sym (put_alone e (places_of e w (LookAgain (number_at s w at_turn))) q))

  read_mark_says : SaysAt s w (read_mark_numbers s w) (ReadMark (seen_now s w) (number_at s w at_turn))
  unfolding read_mark_numbers effect_of places_of spot_of view_at
  read_mark_says =
      let l = seen_now s w in
      let won = number_at s w at_turn in
      let at = places_of e w (ReadMark l won) in
      let done = (sheet_now s (own_now s w)).done in
      let q = mark_state done l (own_now s w) won in
      alone s _ w (ReadMark l won) q (moved_mark s w h b done l (seen_fits s w))
      (sym (ap (λ (v : View). put_at e at v) (mark_is (view_at e at) l won) ∙ put_alone e at q))

  read_says : SaysAt s w (read_numbers s w) (Point.Run r Read)
  unfolding read_numbers effect_of places_of spot_of instr_now view_at
  read_says =
      let at = places_of e w (Point.Run r Read) in
      let q = asked_state (asks_of (instr_now s w) r.registers) r (reading_of (word_now s (instr_now s w))) in
      alone s _ w (Point.Run r Read) q (moved_first s w h b (instr_now s w))
      (sym (ap (λ (v : View). put_at e at v) (read_is (view_at e at) r) ∙ put_alone e at q))

  -- by what the entry holds, what it is then, and whether the worker counts it
  committing :
      (x : Reading) →
      with_entry
      (with_worker e w
      (moved_of (counted_of (worker_at e w) (is_first (entry_now s w)))
      (follow_state (follows_of (instr_now s w) r.registers (holds_of (entry_now s w) x).value) (logged_of r) (holds_of (entry_now s w) x))))
      (entry_place s w) (committed_of (entry_now s w) x) ≡
      stepped_of e w (Point.Run r (Commit x))
  unfolding effect_of try.commit_step places_of spot_of instr_now view_at
  committing x =
      let at = places_of e w (Point.Run r (Commit x)) in
      let held = holds_of (entry_now s w) x in
      let y = committed_of (entry_now s w) x in
      let k = counted_of (worker_at e w) (is_first (entry_now s w)) in
      sym
      (ap (λ (v : View). put_at e at v) (follow_is (try.view_with_entry (view_at e at) y k) (logged_of r) held) ∙
      put_entry_lem e at (follow_state (follows_of (instr_now s w) r.registers held.value) (logged_of r) held) y k)

  commit_says : SaysAt s w (commit_numbers s w) (Point.Run r (Commit (read_now s w)))
  unfolding commit_numbers committed entry_filled
  commit_says = go (entry_now s w).fill refl
    where
      x : Reading
      x = read_now s w

      p : Point
      p = Point.Run r (Commit x)

      held : Reading
      held = holds_of (entry_now s w) x

      q : State
      q = follow_state (follows_of (instr_now s w) r.registers held.value) (logged_of r) held

      m : Moved s w (follow_numbers s w (instr_now s w) held) q
      m = moved_follow s w h b (instr_now s w) held

      go : (f : Option Reading) → (entry_now s w).fill ≡ f → SaysAt s w (commit_numbers s w) p
      go None z =
          simp z
          (with_piece entry_part with_entry unpack_entry s _ w p (moved_of (counted_of (worker_at e w) true) q) (entry_place s w)
          (record { fill = Some x }) h (omega arith) (entry_back (record { fill = Some x })) (moved_count s _ w q h b m)
          (rw (committed_empty (entry_now s w) x z, counted_empty (worker_at e w) (entry_now s w) z) at (committing x)))
      go (Some y) z =
          simp z
          (alone s _ w p q m
          (entry_stays (with_worker e w (moved_of (worker_at e w) q)) (entry_place s w) ∙
          rw (committed_filled (entry_now s w) x y z, counted_filled (worker_at e w) (entry_now s w) y z) at (committing x)))

  swap_says : SaysAt s w (swap_numbers s w) (Point.Run r (Swap (read_now s w) (number_at s w at_new)))
  unfolding swap_numbers effect_of try.swap_step places_of spot_of instr_now view_at
  swap_says =
      let p = Point.Run r (Swap (read_now s w) (number_at s w at_new)) in
      let j = word_place (instr_now s w) in
      let x = word_at e j in
      let y = parts.swap_of x (read_now s w) (number_at s w at_new) in
      let q = UnderWay (Point.Run (onto_of r 0 r.registers) Read) in
      with_piece word_part with_word unpack_word s _ w p (moved_of (worker_at e w) q) j y h (omega arith)
      (word_back y (omega (arith, swap_guard x (read_now s w) (number_at s w at_new), guard_byte s j (omega arith))))
      (moved_pass s w h b 0) (sym (put_word_lem e (places_of e w p) q y))

  mark_says : SaysAt s w (mark_numbers s w) (Point.Run r (Mark (said_now s w)))
  unfolding mark_numbers effect_of try.mark_step places_of spot_of view_at
  mark_says =
      let p = Point.Run r (Mark (said_now s w)) in
      let j = r.sheet % sheets in
      let y : Sheet = record { length = (sheet_now s r.sheet).length; done = true } in
      let q = UnderWay (Point.Run r (Release (said_now s w))) in
      with_piece sheet_part with_sheet unpack_sheet s _ w p (moved_of (worker_at e w) q) j y h (omega arith) (sheet_back y (length_byte s j (omega arith)))
      (moved_release s w h b) (sym (put_done e (places_of e w p) q))

  release_says : SaysAt s w (release_numbers s w) (Point.Run r (Release (said_now s w)))
  unfolding release_numbers effect_of try.release_step places_of spot_of view_at
  release_says =
      let p = Point.Run r (Release (said_now s w)) in
      let y = parts.release_of (lock_now s w) r.won r.sheet in
      with_piece lock_part with_lock unpack_lock s _ w p (moved_of (worker_at e w) (Finished (answer_now s w))) (lock_place s w) y h (omega arith)
      (lock_back y (release_fits (lock_now s w) r.won r.sheet (lock_fits s (lock_place s w) (omega arith))))
      (moved_finish s w h b (answer_now s w)) (sym (put_lock_lem e (places_of e w p) (Finished (answer_now s w)) y))

-- By the tag: where the numbers n say the step of whatever point the state q is at.
module _ (s : List ℕ) (w : ℕ) where
  abbrev Onward : List ℕ → State → Type 0
  Onward n q = (p : Point) → q ≡ UnderWay p → SaysAt s w n p

  onward-pick : (t : Bool) (m n : List ℕ) (p q : State) → Onward m p → Onward n q → Onward (pick t m n) (pick t p q)
  onward-pick true m n p q a b = a
  onward-pick false m n p q a b = b

  onward_either : (t : Bool) (n : List ℕ) (p q : State) → Onward n p → Onward n q → Onward n (pick t p q)
  onward_either true n p q a b = a
  onward_either false n p q a b = b

  onward_at : (n : List ℕ) (p : Point) → SaysAt s w n p → Onward n (UnderWay p)
  onward_at n p h x e = subst (λ (y : Point). SaysAt s w n y) (ap (λ (q : State). on_state q Look (λ y. y) (λ a. Look)) e) h

  onward_idle : (n : List ℕ) → Onward n Idle
  onward_idle n p e = let z : ◌≡◌ {A = ℕ} 0 1 = cc in absurd (omega arith)

  onward_end : (n : List ℕ) (x : Answer) → Onward n (Finished x)
  onward_end n x p e = let z : ◌≡◌ {A = ℕ} 0 1 = cc in absurd (omega arith)

  onward_says : numbers ≤ length s → w < workers → Onward (onward_numbers s w (number_at s w at_tag)) (state_in (row_of s w))
  unfolding onward_numbers state_in number_at run_now read_now seen_now
  onward_says h b =
      let tag = number_at s w at_tag in
      onward_either (eqb tag idle_tag) _ Idle _ (onward_idle _)
      (onward-pick (eqb tag look_tag) _ _ (UnderWay _) _ (onward_at _ _ (look_says s w h b))
      (onward-pick (eqb tag grab_tag) _ _ (UnderWay _) _ (onward_at _ _ (grab_says s w h b))
      (onward-pick (eqb tag look_again_tag) _ _ (UnderWay _) _ (onward_at _ _ (look_again_says s w h b))
      (onward-pick (eqb tag read_mark_tag) _ _ (UnderWay _) _ (onward_at _ _ (read_mark_says s w h b))
      (onward-pick (eqb tag read_tag) _ _ (UnderWay _) _ (onward_at _ _ (read_says s w h b))
      (onward-pick (eqb tag commit_tag) _ _ (UnderWay _) _ (onward_at _ _ (commit_says s w h b))
      (onward-pick (eqb tag swap_tag) _ _ (UnderWay _) _ (onward_at _ _ (swap_says s w h b))
      (onward-pick (eqb tag mark_tag) _ _ (UnderWay _) _ (onward_at _ _ (mark_says s w h b))
      (onward_either (eqb tag release_tag) _ (UnderWay _) (Finished _) (onward_at _ _ (release_says s w h b)) (onward_end _ _))))))))))

-- "Step (worker) does one step": of any worker's number
pub step_says : (s : List ℕ) (w : ℕ) → numbers ≤ length s → Says s (step_numbers s w) (step_of (unpack s) w).engine
unfolding step_numbers step_of worker.step_by_state
step_says s w h = go (leb workers w) refl
  where
    by : w < workers → (q : State) → (worker_at (unpack s) w).state ≡ q → Says s (step_numbers s w) (step_of (unpack s) w).engine
    by b Idle e = simp (lt-leb workers w b, e) (refl, refl)
    by b (UnderWay p) e =
        simp (lt-leb workers w b, e) (onward_says s w h b p (ap (λ (k : Worker). k.state) (sym (worker_is s w b)) ∙ e))
    by b (Finished x) e = simp (lt-leb workers w b, e) (refl, refl)

    go : (t : Bool) → leb workers w ≡ t → Says s (step_numbers s w) (step_of (unpack s) w).engine
    go true e = simp e (refl, refl)
    go false e = by (leb-false workers w e) (worker_at (unpack s) w).state refl
