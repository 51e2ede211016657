-- A step keeps the ranges of the pieces that it can touch.
use Rattle.std.specs.Prelude.{None, Option, Some}
use Prim.Native.Nat.{ℕ, ◌+◌, ◌%◌, ◌^◌, ◌≤◌, ◌<◌}
use native.Mathlib.Omega.{arith}
use mathlib.Core.Path.{◌≡◌, refl}
use mathlib.Core.Bool.{Bool, true, false}
use lib.Dec.{eqb}
use borrow.Author.Tests.{eqb-true, eqb-false}
use Rattle.parts.specs.Instr.{asks_of, follows_of, on_asks, on_follows, set_of, add_of, sub_of, over_of}
use Rattle.parts.specs.Numbers.{sheets, last_turn}
use Rattle.parts.specs.Parts as parts
use Rattle.parts.specs.Parts.{register_of, with_register, committed_of, holds_of, is_first, reading_of, next32}
use Rattle.parts.specs.Pick.{pick, on_option}
use Rattle.parts.specs.declared.Answer.TheVariants.{NotTaken, Worn}
use Rattle.parts.specs.declared.Asks.{Asks}
use Rattle.parts.specs.declared.Asks.TheVariants.{Halt, Go, Touch}
use Rattle.parts.specs.declared.Entry.{Entry}
use Rattle.parts.specs.declared.Follows.{Follows}
use Rattle.parts.specs.declared.Follows.TheVariants as follows
use Rattle.parts.specs.declared.Instr.{Instr}
use Rattle.parts.specs.declared.LockWord.{LockWord}
use Rattle.parts.specs.declared.Reading.{Reading}
use Rattle.parts.specs.declared.Registers.{Registers}
use Rattle.parts.specs.declared.Word.{Word}
use Rattle.steps.specs.Try.{view_with_lock, view_with_word, view_with_entry, view_with_done, to_of, at_of, start_of, onto_of, logged_of, look_step, grab_step, look_again_step, read_mark_step, read_step, follow_step, commit_step, swap_step, mark_step, answer_of, release_step, effect_of}
use Rattle.steps.specs.Worker.{counted_of}
use Rattle.steps.specs.declared.Point.{Point}
use Rattle.steps.specs.declared.Point.TheVariants.{Look, Grab, LookAgain, ReadMark}
use Rattle.steps.specs.declared.Run.{Run}
use Rattle.steps.specs.declared.Stage.TheVariants.{Read, Commit, Swap, Mark, Release}
use Rattle.steps.specs.declared.State.{State}
use Rattle.steps.specs.declared.State.TheVariants.{UnderWay, Finished}
use Rattle.steps.specs.declared.View.{View}
use Rattle.steps.specs.declared.Worker.{Worker}
use Rattle.ranges.specs.Good.{Fits32, GoodHolder, GoodLock, GoodWord, GoodReading, GoodRegisters, GoodInstr, GoodFill, GoodEntry, GoodRun, GoodPoint, GoodState, GoodWorker}
use Rattle.ranges.proofs.Frame.{pick_all}

pub record GoodView (locks : ℕ) (v : View) : Type 0 where
  pub worker : GoodWorker locks v.worker
  pub lock : GoodLock v.lock
  pub word : GoodWord locks v.word
  pub entry : GoodEntry v.entry
  pub instr : GoodInstr v.instr

-- by the case of a holder, of a fill, of what an instruction asks and of what follows
holder_all :
    {A : Type 0} (P : A → Type 0) (h : Option ℕ) (a : A) (f : ℕ → A) →
    GoodHolder h → P a → ((s : ℕ) → s < sheets → P (f s)) → P (on_option h a f)
holder_all P None a f g p q = p
holder_all P (Some s) a f g p q = q s g

fill_all :
    {A : Type 0} (P : A → Type 0) (h : Option Reading) (a : A) (f : Reading → A) →
    GoodFill h → P a → ((r : Reading) → GoodReading r → P (f r)) → P (on_option h a f)
fill_all P None a f g p q = p
fill_all P (Some r) a f g p q = q r g

GoodAsks : Asks → Type 0
GoodAsks (Halt said) = Unit {0}
GoodAsks (Go r n) = GoodRegisters r
GoodAsks (Touch w) = Unit {0}

asks_all :
    {A : Type 0} (P : A → Type 0) (q : Asks) (h : Bool → A) (g : Registers → ℕ → A) (t : ℕ → A) →
    GoodAsks q → ((said : Bool) → P (h said)) → ((r : Registers) (n : ℕ) → GoodRegisters r → P (g r n)) →
    ((w : ℕ) → P (t w)) → P (on_asks q h g t)
unfolding GoodAsks
asks_all P (Halt said) h g t q a b c = a said
asks_all P (Go r n) h g t q a b c = b r n q
asks_all P (Touch w) h g t q a b c = c w

GoodFollows : Follows → Type 0
GoodFollows (follows.Done r) = GoodRegisters r
GoodFollows (follows.Swap x) = Fits32 x

follows_all :
    {A : Type 0} (P : A → Type 0) (q : Follows) (d : Registers → A) (s : ℕ → A) →
    GoodFollows q → ((r : Registers) → GoodRegisters r → P (d r)) → ((x : ℕ) → Fits32 x → P (s x)) → P (on_follows q d s)
unfolding GoodFollows
follows_all P (follows.Done r) d s q a b = a r q
follows_all P (follows.Swap x) d s q a b = b x q

-- registers
pub register_fits : (r : Registers) (i : ℕ) → GoodRegisters r → Fits32 (register_of r i)
unfolding register_of
register_fits r i g =
    pick_all Fits32 (eqb i 0) _ _ g.r0
    (pick_all Fits32 (eqb i 1) _ _ g.r1 (pick_all Fits32 (eqb i 2) _ _ g.r2 g.r3))

with_good : (r : Registers) (i x : ℕ) → GoodRegisters r → Fits32 x → GoodRegisters (with_register r i x)
unfolding with_register
with_good r i x g h =
    pick_all GoodRegisters (eqb i 0) _ _ (record { r0 = h; r1 = g.r1; r2 = g.r2; r3 = g.r3 })
    (pick_all GoodRegisters (eqb i 1) _ _ (record { r0 = g.r0; r1 = h; r2 = g.r2; r3 = g.r3 })
    (pick_all GoodRegisters (eqb i 2) _ _ (record { r0 = g.r0; r1 = g.r1; r2 = h; r3 = g.r3 })
    (record { r0 = g.r0; r1 = g.r1; r2 = g.r2; r3 = h })))

-- what is cut to 32 bits fits
cut : (n : ℕ) → Fits32 (n % 2 ^ 32)
cut n = omega arith

asks_good : (i : Instr) (r : Registers) → GoodInstr i → GoodRegisters r → GoodAsks (asks_of i r)
unfolding asks_of GoodAsks
asks_good i r gi g =
    let b = gi.b in
    let c = gi.c in
    pick_all GoodAsks (eqb i.op 0) (Halt (eqb i.a 1)) _ tt
    (pick_all GoodAsks (eqb i.op 1) (Go (set_of i r) 0) _ (with_good r i.a _ g (omega arith))
    (pick_all GoodAsks (eqb i.op 2) (Touch i.b) _ tt
    (pick_all GoodAsks (eqb i.op 3) (Touch i.b) _ tt
    (pick_all GoodAsks (eqb i.op 4) (Touch i.c) _ tt
    (pick_all GoodAsks (eqb i.op 5) (Go (add_of i r) 0) _ (with_good r i.a _ g (cut _))
    (pick_all GoodAsks (eqb i.op 6) (Go (sub_of i r) 0) _ (with_good r i.a _ g (cut _))
    (pick_all GoodAsks (eqb i.op 7) (Go r (over_of i r)) _ g tt)))))))

follows_good : (i : Instr) (r : Registers) (x : ℕ) → GoodRegisters r → Fits32 x → GoodFollows (follows_of i r x)
unfolding follows_of GoodFollows
follows_good i r x g h =
    pick_all GoodFollows (eqb i.op 2) (follows.Done (with_register r i.a x)) _ (with_good r i.a x g h)
    (pick_all GoodFollows (eqb i.op 3) (follows.Swap (register_of r i.a)) _ (register_fits r i.a g)
    (pick_all GoodFollows (eqb (register_of r i.a) x) (follows.Swap (register_of r i.b)) (follows.Done r)
    (register_fits r i.b g) g))

-- lock words
grab_good : (l : LockWord) (seen s : ℕ) → GoodLock l → seen < last_turn → s < sheets → GoodLock (parts.grab_of l seen s)
unfolding parts.grab_of
grab_good l seen s g h k =
    holder_all GoodLock l.holder _ (λ t. l) g.holder (won (eqb l.turn seen) refl) (λ t q. g)
  where
    won :
        (b : Bool) → eqb l.turn seen ≡ b → GoodLock (pick b (record { turn = next32 l.turn; holder = Some s }) l)
    won true e = let q = eqb-true l.turn seen e in record { turn = omega arith; holder = k }
    won false e = g

release_good : (l : LockWord) (won s : ℕ) → GoodLock l → GoodLock (parts.release_of l won s)
unfolding parts.release_of
release_good l won s g =
    holder_all GoodLock l.holder l _ g.holder g
    (λ t q.
    pick_all GoodLock (eqb t s) _ l
    (pick_all GoodLock (eqb l.turn won) (record { turn = l.turn; holder = None }) l
    (record { turn = g.turn; holder = tt }) g) g)

-- words and log entries
swap_good : (L : ℕ) (w : Word) (r : Reading) (new : ℕ) → GoodWord L w → Fits32 new → GoodWord L (parts.swap_of w r new)
unfolding parts.swap_of
swap_good L w r new g h =
    pick_all (GoodWord L) (eqb w.value r.value) _ w
    (pick_all (GoodWord L) (eqb w.count r.count) _ w
    (record { value = h; count = cut (w.count + 1); guard = g.guard }) g) g

committed_good : (e : Entry) (r : Reading) → GoodEntry e → GoodReading r → GoodEntry (committed_of e r)
unfolding committed_of
committed_good e r g h = fill_all GoodEntry e.fill (record { fill = Some r }) (λ first. e) g h (λ first q. g)

holds_good : (e : Entry) (r : Reading) → GoodEntry e → GoodReading r → GoodReading (holds_of e r)
unfolding holds_of
holds_good e r g h = fill_all GoodReading e.fill r (λ first. first) g h (λ first q. q)

-- runs
start_good : (s won : ℕ) → s < sheets → won ≤ last_turn → GoodRun (start_of s won)
start_good s won h k =
    let zero-fits : Fits32 0 = omega arith in
    record {
      sheet = h;
      won = k;
      next = omega arith;
      place = omega arith;
      registers = record { r0 = zero-fits; r1 = zero-fits; r2 = zero-fits; r3 = zero-fits };
    }

onto_good : (r : Run) (over : ℕ) (rs : Registers) → GoodRun r → GoodRegisters rs → GoodRun (onto_of r over rs)
onto_good r over rs g h =
    record { sheet = g.sheet; won = g.won; next = omega arith; place = g.place; registers = h }

logged_good : (r : Run) → GoodRun r → GoodRun (logged_of r)
logged_good r g =
    record { sheet = g.sheet; won = g.won; next = g.next; place = omega arith; registers = g.registers }

counted_good : (L : ℕ) (k : Worker) (first : Bool) → GoodWorker L k → GoodWorker L (counted_of k first)
unfolding counted_of
counted_good L k first g =
    record {
      lock = g.lock;
      own = g.own;
      steps = g.steps;
      filled = pick_all Fits32 first (next32 k.filled) k.filled (cut (k.filled + 1)) g.filled;
      state = g.state;
    }

-- each point of a try, in a state with L locks, of which there is one at least
module _ (L : ℕ) (some : 1 ≤ L) where
  to_good : (v : View) (s : State) → GoodView L v → GoodState L s → GoodView L (to_of v s)
  to_good v s g h =
      record {
        worker = record { lock = g.worker.lock; own = g.worker.own; steps = cut (v.worker.steps + 1); filled = g.worker.filled; state = h };
        lock = g.lock;
        word = g.word;
        entry = g.entry;
        instr = g.instr;
      }

  at_good : (v : View) (p : Point) → GoodView L v → GoodPoint p → GoodView L (at_of v p)
  at_good v p g h = to_good v (UnderWay p) g (some, h)

  with_lock_lem : (v : View) (l : LockWord) → GoodView L v → GoodLock l → GoodView L (view_with_lock v l)
  with_lock_lem v l g h = record { worker = g.worker; lock = h; word = g.word; entry = g.entry; instr = g.instr }

  look_good : (v : View) → GoodView L v → GoodView L (look_step v)
  unfolding look_step
  look_good v g =
      holder_all (GoodView L) v.lock.holder _ (λ s. at_of v (Point.Run (start_of s v.lock.turn) Read)) g.lock.holder
      (free (eqb v.lock.turn last_turn) refl)
      (λ s h. at_good v (Point.Run (start_of s v.lock.turn) Read) g (start_good s v.lock.turn h g.lock.turn, tt))
    where
      free :
          (b : Bool) → eqb v.lock.turn last_turn ≡ b →
          GoodView L (pick b (to_of v (Finished Worn)) (at_of v (Grab v.lock.turn)))
      free true e = to_good v (Finished Worn) g tt
      free false e =
          let most = g.lock.turn in
          let other = eqb-false v.lock.turn last_turn e in
          at_good v (Grab v.lock.turn) g (omega arith)

  mark_good :
      (v : View) (seen : LockWord) (won : ℕ) → GoodView L v → GoodLock seen → won ≤ last_turn → GoodView L (read_mark_step v seen won)
  unfolding read_mark_step
  mark_good v seen won g h k =
      pick_all (GoodView L) v.done _ _ own
      (holder_all (GoodView L) seen.holder _ _ h.holder (to_good v (Finished NotTaken) g tt)
      (λ s q.
      pick_all (GoodView L) (eqb s v.worker.own) _ _ own
      (at_good v (Point.Run (start_of s seen.turn) Read) g (start_good s seen.turn q h.turn, tt))))
    where
      own : GoodView L (at_of v (Point.Run (start_of v.worker.own won) Read))
      own = at_good v (Point.Run (start_of v.worker.own won) Read) g (start_good v.worker.own won g.worker.own k, tt)

  read_good : (v : View) (r : Run) → GoodView L v → GoodRun r → GoodView L (read_step v r)
  unfolding read_step
  read_good v r g h =
      asks_all (GoodView L) (asks_of v.instr r.registers) _ _ _
      (asks_good v.instr r.registers g.instr h.registers)
      (λ said. at_good v (Point.Run r (Mark said)) g (h, tt))
      (λ rs n q. at_good v (Point.Run (onto_of r n rs) Read) g (onto_good r n rs h q, tt))
      (λ w. at_good v (Point.Run r (Commit (reading_of v.word))) g (h, record { value = g.word.value; count = g.word.count }))

  follow_good :
      (v : View) (r : Run) (held : Reading) → GoodView L v → GoodRun r → GoodReading held → GoodView L (follow_step v r held)
  unfolding follow_step
  follow_good v r held g h k =
      follows_all (GoodView L) (follows_of v.instr r.registers held.value) _ _
      (follows_good v.instr r.registers held.value h.registers k.value)
      (λ rs q. at_good v (Point.Run (onto_of r 0 rs) Read) g (onto_good r 0 rs h q, tt))
      (λ new q. at_good v (Point.Run r (Swap held new)) g (h, (k, q)))

  pub effect_good : (p : Point) (v : View) → GoodPoint p → GoodView L v → GoodView L (effect_of p v)
  unfolding effect_of grab_step look_again_step commit_step swap_step mark_step release_step
  effect_good Look v h g = look_good v g
  effect_good (Grab seen) v h g =
      at_good (view_with_lock v (parts.grab_of v.lock seen v.worker.own)) (LookAgain (next32 seen))
      (with_lock_lem v _ g (grab_good v.lock seen v.worker.own g.lock h g.worker.own)) (omega arith)
  effect_good (LookAgain won) v h g = at_good v (ReadMark v.lock won) g (g.lock, h)
  effect_good (ReadMark seen won) v h g = mark_good v seen won g h.0 h.1
  effect_good (Point.Run r Read) v h g = read_good v r g h.0
  effect_good (Point.Run r (Commit read)) v h g =
      follow_good (view_with_entry v (committed_of v.entry read) (counted_of v.worker (is_first v.entry))) (logged_of r)
      (holds_of v.entry read)
      (record {
        worker = counted_good L v.worker (is_first v.entry) g.worker;
        lock = g.lock;
        word = g.word;
        entry = committed_good v.entry read g.entry h.1;
        instr = g.instr;
      })
      (logged_good r h.0) (holds_good v.entry read g.entry h.1)
  effect_good (Point.Run r (Swap entry new)) v h g =
      at_good (view_with_word v (parts.swap_of v.word entry new)) (Point.Run (onto_of r 0 r.registers) Read)
      (record {
        worker = g.worker;
        lock = g.lock;
        word = swap_good L v.word entry new g.word h.1.1;
        entry = g.entry;
        instr = g.instr;
      })
      (onto_good r 0 r.registers h.0 h.0.registers, tt)
  effect_good (Point.Run r (Mark said)) v h g =
      at_good (view_with_done v) (Point.Run r (Release said))
      (record { worker = g.worker; lock = g.lock; word = g.word; entry = g.entry; instr = g.instr }) h
  effect_good (Point.Run r (Release said)) v h g =
      to_good (view_with_lock v (parts.release_of v.lock r.won r.sheet)) (Finished (answer_of r v.worker.own said))
      (with_lock_lem v _ g (release_good v.lock r.won r.sheet g.lock)) tt
