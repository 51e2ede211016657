-- What a step does to the pieces that it can touch is what the theory's machine does: where the numbers are in their ranges, no
-- remainder bites.
use Rattle.std.specs.Prelude.{None, Option, Some}
use Prim.Native.Nat.{ℕ, suc, ◌+◌, ◌%◌, ◌^◌, ◌<◌}
use native.Mathlib.Omega.{arith}
use mathlib.Core.Path.{◌≡◌, refl, ◌∙◌, sym, ap}
use mathlib.Core.Bool.{Bool, true, false}
use lib.Dec.{eqb}
use borrow.Author.Tests.{eqb-true}
use Rattle.parts.specs.Instr.{asks_of, follows_of, on_asks, on_follows, word_of}
use Rattle.parts.specs.Numbers.{last_turn}
use Rattle.parts.specs.Parts as parts
use Rattle.parts.specs.Parts.{next32, reading_of, committed_of, holds_of, is_first}
use Rattle.parts.specs.Pick.{pick, on_option}
use Rattle.parts.specs.declared.Answer.TheVariants.{NotTaken, Worn}
use Rattle.parts.specs.declared.Asks.{Asks}
use Rattle.parts.specs.declared.Asks.TheVariants.{Halt, Go, Touch}
use Rattle.parts.specs.declared.Entry.{Entry}
use Rattle.parts.specs.declared.Follows.{Follows}
use Rattle.parts.specs.declared.Follows.TheVariants as follows
use Rattle.parts.specs.declared.Instr.{Instr}
use Rattle.parts.specs.declared.LockWord.{LockWord}
use Rattle.parts.specs.declared.Reading.{Reading}
use Rattle.parts.specs.declared.Registers.{Registers}
use Rattle.parts.specs.declared.Word.{Word}
use Rattle.parts.proofs.Touch.{touch_word}
use Rattle.steps.specs.Try as steps
use Rattle.steps.specs.Try.{view_with_entry, to_of, at_of, start_of, look_step, read_mark_step}
use Rattle.steps.specs.Worker as workers
use Rattle.steps.specs.Worker.{counted_of}
use Rattle.steps.specs.declared.Point.{Point}
use Rattle.steps.specs.declared.Point.TheVariants.{Grab}
use Rattle.steps.specs.declared.Run.{Run}
use Rattle.steps.specs.declared.Stage.TheVariants.{Read, Commit, Swap, Mark}
use Rattle.steps.specs.declared.State.{State}
use Rattle.steps.specs.declared.State.TheVariants.{UnderWay, Finished}
use Rattle.steps.specs.declared.View.{View}
use Rattle.steps.specs.declared.Worker.{Worker}
use Rattle.helping.specs.Ideal.{Logs, Touches, far_of}
use Rattle.helping.specs.Machine as machine
use Rattle.helping.specs.Machine.{Shared, Act, fin, go, touch, act_of, target, put, held_of, machine_moved, machine_onto, machine_logged, point_of, look_to, mark_to}
use Rattle.histories.proofs.Map.Map.{hand_of}

-- one step more, the next instruction, the next entry
pub moved_is : (k : Worker) (s : State) → k.steps + 1 < 2 ^ 32 → hand_of (workers.moved_of k s) ≡ machine_moved k s
moved_is k s h =
    let n : next32 k.steps ≡ suc k.steps = omega arith in
    λ i. record { state = s; lock = k.lock; own = k.own; steps = n i; filled = 0 }

pub onto_is : (r : Run) (over : ℕ) (rs : Registers) → r.next + suc over < 2 ^ 8 → steps.onto_of r over rs ≡ machine_onto r over rs
onto_is r over rs h =
    let n : (r.next + 1 + over) % 2 ^ 8 ≡ suc (r.next + over) = omega arith in
    λ i. record { sheet = r.sheet; won = r.won; next = n i; place = r.place; registers = rs }

logged_is : (r : Run) → r.place + 1 < 2 ^ 8 → steps.logged_of r ≡ machine_logged r
logged_is r h =
    let n : (r.place + 1) % 2 ^ 8 ≡ suc r.place = omega arith in
    λ i. record { sheet = r.sheet; won = r.won; next = r.next; place = n i; registers = r.registers }

-- "1. Look", "2. Grab", "4. Read own done mark"
pub look_is : (v : View) → look_step v ≡ to_of v (look_to last_turn v.lock)
unfolding look_step look_to
look_is v = by v.lock.holder (eqb v.lock.turn last_turn)
  where
    by :
        (h : Option ℕ) (b : Bool) →
        on_option h (pick b (to_of v (Finished Worn)) (at_of v (Grab v.lock.turn)))
        (λ s. at_of v (Point.Run (start_of s v.lock.turn) Read)) ≡
        to_of v
        (on_option h (pick b (Finished Worn) (UnderWay (Grab v.lock.turn)))
        (λ s. UnderWay (Point.Run (start_of s v.lock.turn) Read)))
    by None true = refl
    by None false = refl
    by (Some s) b = refl

pub grab_is : (l : LockWord) (seen own : ℕ) → seen + 1 < 2 ^ 32 → parts.grab_of l seen own ≡ machine.machine_grab l seen own
unfolding parts.grab_of machine.machine_grab
grab_is l seen own h = by l.holder (eqb l.turn seen) refl
  where
    by :
        (x : Option ℕ) (b : Bool) → eqb l.turn seen ≡ b →
        on_option x (pick b (record { turn = next32 l.turn; holder = Some own }) l) (λ s. l) ≡
        on_option x (pick b (record { turn = suc seen; holder = Some own }) l) (λ s. l)
    by None true e =
        let q = eqb-true l.turn seen e in
        let n : next32 l.turn ≡ suc seen = omega arith in
        λ i. record { turn = n i; holder = Some own }
    by None false e = refl
    by (Some s) b e = refl

pub mark_is :
    (v : View) (seen : LockWord) (won : ℕ) → read_mark_step v seen won ≡ to_of v (mark_to v.done seen won v.worker.own)
unfolding read_mark_step mark_to
mark_is v seen won = by v.done seen.holder
  where
    own : State
    own = UnderWay (Point.Run (start_of v.worker.own won) Read)

    other : (s : ℕ) (b : Bool) →
        pick b (to_of v own) (at_of v (Point.Run (start_of s seen.turn) Read)) ≡ to_of v (pick b own (UnderWay (Point.Run (start_of s seen.turn) Read)))
    other s true = refl
    other s false = refl

    by :
        (b : Bool) (h : Option ℕ) →
        pick b (to_of v own)
        (on_option h (to_of v (Finished NotTaken))
        (λ s. pick (eqb s v.worker.own) (to_of v own) (at_of v (Point.Run (start_of s seen.turn) Read)))) ≡
        to_of v
        (pick b own
        (on_option h (Finished NotTaken)
        (λ s. pick (eqb s v.worker.own) own (UnderWay (Point.Run (start_of s seen.turn) Read)))))
    by true h = refl
    by false None = refl
    by false (Some s) = other s (eqb s v.worker.own)

-- an act, by what its instruction asks
abbrev act_by : Instr → Registers → Asks → Act
act_by i rs a = on_asks a (λ said. fin said) (λ next n. go next n) (λ w. touch w (follows_of i rs))

-- "5. Run": a read leads where the machine's does, where the word's piece is the word that the instruction names
pub read_is :
    (v : View) (r : Run) (x : Shared) →
    r.next + far_of (act_of v.instr r.registers) < 2 ^ 8 →
    (Touches (act_of v.instr r.registers) →
    reading_of v.word ≡ x.word (target (act_of v.instr r.registers))) →
    steps.read_step v r ≡ at_of v (point_of (machine.machine_read (act_of v.instr r.registers) x r))
unfolding act_of steps.read_step
read_is v r x = by (asks_of v.instr r.registers)
  where
    by :
        (a : Asks) → r.next + far_of (act_by v.instr r.registers a) < 2 ^ 8 →
        (Touches (act_by v.instr r.registers a) → reading_of v.word ≡ x.word (target (act_by v.instr r.registers a))) →
        on_asks a (λ said. at_of v (Point.Run r (Mark said))) (λ rs n. at_of v (Point.Run (steps.onto_of r n rs) Read))
        (λ w. at_of v (Point.Run r (Commit (reading_of v.word)))) ≡
        at_of v (point_of (machine.machine_read (act_by v.instr r.registers a) x r))
    by (Halt said) h t = refl
    by (Go rs n) h t = ap (λ (r : Run). at_of v (Point.Run r Read)) (onto_is r n rs h)
    by (Touch w) h t = ap (λ (u : Reading). at_of v (Point.Run r (Commit u))) (t tt)

-- no read changes what is shared
pub read_keeps : (a : Act) (x : Shared) (r : Run) → (machine.machine_read a x r).shared ≡ x
read_keeps (fin said) x r = refl
read_keeps (go rs n) x r = refl
read_keeps (touch w f) x r = refl

-- a touched word is the one that the instruction names
pub target_is : (i : Instr) (rs : Registers) → Touches (act_of i rs) → target (act_of i rs) ≡ word_of i
unfolding act_of
target_is i rs = by (asks_of i rs) refl
  where
    by : (a : Asks) → asks_of i rs ≡ a → Touches (act_by i rs a) → target (act_by i rs a) ≡ word_of i
    by (Halt said) e t = absurd t
    by (Go r n) e t = absurd t
    by (Touch w) e t = touch_word i rs w e

-- "Commit": the entry is filled with what it holds from now on
pub committed_is : (y : Entry) (u : Reading) → (committed_of y u).fill ≡ Some (held_of y.fill u)
unfolding committed_of
committed_is y u = by y.fill refl
  where
    by : (z : Option Reading) → y.fill ≡ z → (on_option z (record { fill = Some u }) (λ first. y)).fill ≡ Some (held_of z u)
    by None e = refl
    by (Some first) e = e

follow_is :
    (v : View) (x : Shared) (r : Run) (held : Reading) (f : Follows) → r.next + 1 < 2 ^ 8 →
    on_follows f (λ rs. at_of v (Point.Run (steps.onto_of r 0 rs) Read)) (λ new. at_of v (Point.Run r (Swap held new))) ≡
    at_of v (point_of (machine.machine_follow f x r held))
follow_is v x r held (follows.Done rs) h = ap (λ (r : Run). at_of v (Point.Run r Read)) (onto_is r 0 rs h)
follow_is v x r held (follows.Swap new) h = refl

pub commit_is :
    (v : View) (r : Run) (u : Reading) (x : Shared) →
    Logs (act_of v.instr r.registers) →
    x.log r.place ≡ v.entry.fill →
    r.next + 1 < 2 ^ 8 →
    r.place + 1 < 2 ^ 8 →
    steps.commit_step v r u ≡
    at_of (view_with_entry v (committed_of v.entry u) (counted_of v.worker (is_first v.entry))) (point_of (machine.machine_commit (act_of v.instr r.registers) x r u))
unfolding act_of steps.commit_step steps.follow_step holds_of
commit_is v r u x t e h k =
    let now = view_with_entry v (committed_of v.entry u) (counted_of v.worker (is_first v.entry)) in
    let held = held_of v.entry.fill u in
    ap (λ (r : Run). steps.follow_step now r held) (logged_is r k) ∙
    follow_is now x (machine_logged r) held (follows_of v.instr r.registers held.value) h ∙
    ap (λ (p : Point). at_of now p) (by (asks_of v.instr r.registers) t)
  where
    to : Option Reading → Point
    to z = point_of (machine.machine_follow (follows_of v.instr r.registers (held_of z u).value) x (machine_logged r) (held_of z u))

    by : (a : Asks) → Logs (act_by v.instr r.registers a) → to v.entry.fill ≡ point_of (machine.machine_commit (act_by v.instr r.registers a) x r u)
    by (Halt said) t = absurd t
    by (Go rs n) t = absurd t
    by (Touch w) t = ap to (sym e)

pub commit_shares :
    (a : Act) (x : Shared) (r : Run) (u : Reading) → Logs a →
    (machine.machine_commit a x r u).shared ≡
    record { word = x.word; log = put x.log r.place (Some (held_of (x.log r.place) u)) }
commit_shares (fin said) x r u t = absurd t
commit_shares (go rs n) x r u t = absurd t
commit_shares (touch w f) x r u t = refl

-- "Swap"
pub swap_is :
    (w : Word) (y : Reading) (new : ℕ) → w.count + 1 < 2 ^ 32 →
    reading_of (parts.swap_of w y new) ≡ machine.machine_swap (reading_of w) y new
unfolding parts.swap_of machine.machine_swap
swap_is w y new h = by (eqb w.value y.value) (eqb w.count y.count)
  where
    by :
        (a b : Bool) →
        reading_of (pick a (pick b (record { value = new; count = next32 w.count; guard = w.guard }) w) w) ≡
        pick a (pick b (record { value = new; count = suc w.count }) (reading_of w)) (reading_of w)
    by true true = let n : next32 w.count ≡ suc w.count = omega arith in λ i. record { value = new; count = n i }
    by true false = refl
    by false b = refl
