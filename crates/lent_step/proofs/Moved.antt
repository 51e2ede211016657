-- What the numbers of each move say: the worker in its new state, with one accepted step more, and every other piece as it was.
use Rattle.std.proofs.Common.{◌≡◌, ℕ, ◌+◌, ◌%◌, ◌^◌, ◌<◌, ◌≤◌, Bool, true, false, eqb, List, [], ◌∷◌, length, get_or, set, sym, refl, ap, ◌∙◌, subst, arith, length-set, get_or-set_same}
use Rattle.parts.specs.Numbers.{workers}
use Rattle.parts.specs.Parts.{next32, with_register}
use Rattle.parts.specs.Pick.{pick}
use Rattle.parts.specs.Told.{answer_number}
use Rattle.parts.specs.declared.Answer.{Answer}
use Rattle.parts.specs.declared.LockWord.{LockWord}
use Rattle.parts.specs.declared.Reading.{Reading}
use Rattle.parts.specs.declared.Registers.{Registers}
use Rattle.steps.specs.Try.{start_of, onto_of, logged_of}
use Rattle.steps.specs.Worker.{worker0, moved_of, counted_of}
use Rattle.steps.specs.declared.Point.{Point}
use Rattle.steps.specs.declared.Point.TheVariants.{Grab, LookAgain, ReadMark}
use Rattle.steps.specs.declared.Run.{Run}
use Rattle.steps.specs.declared.Stage.TheVariants.{Read, Commit, Swap, Mark, Release}
use Rattle.steps.specs.declared.State.{State}
use Rattle.steps.specs.declared.State.TheVariants.{UnderWay, Finished}
use Rattle.steps.specs.declared.Worker.{Worker}
use Rattle.engine.specs.State.{worker_at, with_worker}
use Rattle.engine.specs.declared.Engine.{Engine}
use Rattle.cells.specs.Codes.{byte_of, flag_number, holder_number, state_in, HolderFits, at_tag, at_lock, at_own, at_steps, at_sheet, at_turn, at_next, at_place, at_register, at_value, at_count, at_new, at_filled, grab_tag, look_again_tag, read_mark_tag, read_tag, mark_tag, swap_tag, release_tag, finished_tag}
use Rattle.cells.specs.Layout.{numbers, worker_used, worker_part, unpack, row_of, number_at, run_now, put_number}
use Rattle.cells.proofs.Back.{byte_back, flag_back, answer_back, lock_back}
use Rattle.cells.proofs.Pieces.{pieces_length}
use Rattle.cells.proofs.Row.{Row, worker_is, row_none, row_put, unpack_number, worker_over}
use Rattle.cells.proofs.Unpack.{Says}
use Rattle.lent_moves.specs.Moves.{stepped_to, to_grab, to_look_again, to_read_mark, cleared, started, passed, went, to_mark, holding, to_commit, place_after, logged, loaded, to_swap, to_release, finished, counted}
use Rattle.lent_moves.specs.Looks.{said_now}

-- from the numbers s, the numbers t say: worker w made a step and is in the state q
abbrev pub Moved : List ℕ → ℕ → List ℕ → State → Type 0
Moved s w t q = Says s t (with_worker (unpack s) w (moved_of (worker_at (unpack s) w) q))

by_row :
    (s t : List ℕ) (w : ℕ) (l : List ℕ) (q : State) →
    w < workers →
    Row s t w l →
    get_or l at_lock 0 ≡ get_or (row_of s w) at_lock 0 →
    get_or l at_own 0 ≡ get_or (row_of s w) at_own 0 →
    get_or l at_steps 0 ≡ next32 (get_or (row_of s w) at_steps 0) →
    get_or l at_filled 0 ≡ get_or (row_of s w) at_filled 0 →
    state_in l ≡ q →
    Moved s w t q
by_row s t w l q b r a o n f e =
    let k = worker_is s w b in (
      r.state ∙ ap (λ (y : Worker). with_worker (unpack s) w y)
          (λ i.
          record {
            state = e i;
            lock = (ap byte_of a ∙ ap (λ (y : Worker). y.lock) (sym k)) i;
            own = (ap byte_of o ∙ ap (λ (y : Worker). y.own) (sym k)) i;
            steps = (n ∙ ap (λ (y : Worker). next32 y.steps) (sym k)) i;
            filled = (f ∙ ap (λ (y : Worker). y.filled) (sym k)) i;
          }),
      r.size,
    )

-- a run's row with register a written
register_set :
    (tag lock own steps sheet won next place r0 r1 r2 r3 value count new filled a x : ℕ) (g : Registers) →
    g ≡ with_register (record { r0 = r0; r1 = r1; r2 = r2; r3 = r3 }) a x →
    set (tag ∷ lock ∷ own ∷ steps ∷ sheet ∷ won ∷ next ∷ place ∷ r0 ∷ r1 ∷ r2 ∷ r3 ∷ value ∷ count ∷ new ∷ filled ∷ []) (at_register a) x ≡
    tag ∷ lock ∷ own ∷ steps ∷ sheet ∷ won ∷ next ∷ place ∷ g.r0 ∷ g.r1 ∷ g.r2 ∷ g.r3 ∷ value ∷ count ∷ new ∷ filled ∷ []
unfolding at_register with_register
register_set tag lock own steps sheet won next place r0 r1 r2 r3 value count new filled a x g e =
    simp e (go (eqb a 0) (eqb a 1) (eqb a 2))
  where
    new_g : Bool → Bool → Bool → Registers
    new_g b₀ b₁ b₂ =
        pick b₀ (record { r0 = x; r1 = r1; r2 = r2; r3 = r3 })
        (pick b₁ (record { r0 = r0; r1 = x; r2 = r2; r3 = r3 })
        (pick b₂ (record { r0 = r0; r1 = r1; r2 = x; r3 = r3 }) (record { r0 = r0; r1 = r1; r2 = r2; r3 = x })))

    go :
        (b₀ b₁ b₂ : Bool) →
        set (tag ∷ lock ∷ own ∷ steps ∷ sheet ∷ won ∷ next ∷ place ∷ r0 ∷ r1 ∷ r2 ∷ r3 ∷ value ∷ count ∷ new ∷ filled ∷ [])
        (pick b₀ 8 (pick b₁ 9 (pick b₂ 10 11))) x ≡
        tag ∷ lock ∷ own ∷ steps ∷ sheet ∷ won ∷ next ∷ place ∷ (new_g b₀ b₁ b₂).r0 ∷ (new_g b₀ b₁ b₂).r1 ∷
        (new_g b₀ b₁ b₂).r2 ∷ (new_g b₀ b₁ b₂).r3 ∷ value ∷ count ∷ new ∷ filled ∷ []
    go true b₁ b₂ = refl
    go false true b₂ = refl
    go false false true = refl
    go false false false = refl

register_below : (a : ℕ) → at_register a < worker_used
unfolding at_register
register_below a = go (eqb a 0) (eqb a 1) (eqb a 2)
  where
    go : (b₀ b₁ b₂ : Bool) → pick b₀ 8 (pick b₁ 9 (pick b₂ 10 11)) < worker_used
    go true b₁ b₂ = omega arith
    go false true b₂ = omega arith
    go false false true = omega arith
    go false false false = omega arith

byte_again : (n : ℕ) → byte_of (n % 2 ^ 8) ≡ n % 2 ^ 8
byte_again n = byte_back (n % 2 ^ 8) (omega arith)

-- a run with these changed
abbrev run_with : Run → ℕ → ℕ → Registers → Run
run_with r next place g = record { sheet = r.sheet; won = r.won; next = next; place = place; registers = g }

module _ (s : List ℕ) (w : ℕ) (h : numbers ≤ length s) (b : w < workers) where
  abbrev r : Run
  r = run_now s w

  put : (t l : List ℕ) (j x : ℕ) → j < worker_used → Row s t w l → Row s (put_number t w j x) w (set l j x)
  put = row_put s w h b

  -- every move's tag and steps
  to : (tag : ℕ) → Row s (stepped_to s w tag) w (set (set (row_of s w) at_tag tag) at_steps (next32 (get_or (row_of s w) at_steps 0)))
  unfolding stepped_to number_at
  to tag = put _ _ at_steps _ (omega arith) (put _ _ at_tag tag (omega arith) (row_none s w h b))

  pub moved_grab : (turn : ℕ) → Moved s w (to_grab s w turn) (UnderWay (Grab turn))
  unfolding to_grab state_in
  moved_grab turn = by_row s _ w _ _ b (put _ _ at_turn turn (omega arith) (to grab_tag)) refl refl refl refl refl

  pub moved_again : (won : ℕ) → Moved s w (to_look_again s w won) (UnderWay (LookAgain won))
  unfolding to_look_again state_in
  moved_again won = by_row s _ w _ _ b (put _ _ at_turn won (omega arith) (to look_again_tag)) refl refl refl refl refl

  pub moved_seen : (l : LockWord) → HolderFits l.holder → Moved s w (to_read_mark s w l) (UnderWay (ReadMark l (number_at s w at_turn)))
  unfolding to_read_mark state_in number_at
  moved_seen l f =
      by_row s _ w _ _ b (put _ _ at_value l.turn (omega arith) (put _ _ at_sheet (holder_number l.holder) (omega arith) (to read_mark_tag)))
      refl refl refl refl (ap (λ (y : LockWord). UnderWay (ReadMark y (number_at s w at_turn))) (lock_back l f))

  pub moved_start : (sheet won : ℕ) → sheet < 256 → Moved s w (started s w sheet won) (UnderWay (Point.Run (start_of sheet won) Read))
  unfolding started cleared at_register state_in
  moved_start sheet won f =
      let r₀ = put _ _ 8 0 (omega arith) (to read_tag) in
      let r₁ = put _ _ 9 0 (omega arith) r₀ in
      let r₂ = put _ _ 10 0 (omega arith) r₁ in
      let r₃ = put _ _ 11 0 (omega arith) r₂ in
      let r₄ = put _ _ at_sheet sheet (omega arith) r₃ in
      let r₅ = put _ _ at_turn won (omega arith) r₄ in
      let r₆ = put _ _ at_next 0 (omega arith) r₅ in
      by_row s _ w _ _ b (put _ _ at_place 0 (omega arith) r₆) refl refl refl refl
      (λ i. UnderWay (Point.Run (start_of (byte_back sheet f i) won) Read))

  -- the rows of a run that goes on
  row_passed :
      (over : ℕ) →
      Row s (passed s w over) w
      (set (set (set (row_of s w) at_tag read_tag) at_steps (next32 (get_or (row_of s w) at_steps 0))) at_next ((r.next + 1 + over) % 2 ^ 8))
  unfolding passed
  row_passed over = put _ _ at_next _ (omega arith) (to read_tag)

  pub moved_pass : (over : ℕ) → Moved s w (passed s w over) (UnderWay (Point.Run (onto_of r over r.registers) Read))
  unfolding run_now state_in
  moved_pass over =
      by_row s _ w _ _ b (row_passed over) refl refl refl refl
      (λ i. UnderWay (Point.Run (run_with r (byte_again (r.next + 1 + over) i) r.place r.registers) Read))

  pub moved_go : (a x : ℕ) → Moved s w (went s w a x) (UnderWay (Point.Run (onto_of r 0 (with_register r.registers a x)) Read))
  unfolding went run_now state_in
  moved_go a x =
      by_row s _ w _ _ b
      (subst (λ (l : List ℕ). Row s (went s w a x) w l) (register_set _ _ _ _ _ _ _ _ _ _ _ _ _ _ _ _ a x _ refl)
      (put _ _ (at_register a) x (register_below a) (row_passed 0)))
      refl refl refl refl
      (λ i. UnderWay (Point.Run (run_with r (byte_again (r.next + 1 + 0) i) r.place (with_register r.registers a x)) Read))

  pub moved_halt : (said : Bool) → Moved s w (to_mark s w said) (UnderWay (Point.Run r (Mark said)))
  unfolding to_mark run_now state_in
  moved_halt said =
      by_row s _ w _ _ b (put _ _ at_new (flag_number said) (omega arith) (to mark_tag)) refl refl refl refl
      (λ i. UnderWay (Point.Run r (Mark (flag_back said i))))

  row_held :
      (tag : ℕ) (x : Reading) →
      Row s (holding s w tag x) w
      (set (set (set (set (row_of s w) at_tag tag) at_steps (next32 (get_or (row_of s w) at_steps 0))) at_value x.value) at_count x.count)
  unfolding holding
  row_held tag x = put _ _ at_count _ (omega arith) (put _ _ at_value _ (omega arith) (to tag))

  pub moved_touch : (x : Reading) → Moved s w (to_commit s w x) (UnderWay (Point.Run r (Commit x)))
  unfolding run_now state_in
  moved_touch x = by_row s _ w _ _ b (row_held _ x) refl refl refl refl refl

  row_logged :
      Row s (logged s w) w
      (set (set (set (set (row_of s w) at_tag read_tag) at_steps (next32 (get_or (row_of s w) at_steps 0))) at_next ((r.next + 1 + 0) % 2 ^ 8)) at_place (place_after s w))
  unfolding logged
  row_logged = put _ _ at_place _ (omega arith) (row_passed 0)

  pub moved_log : Moved s w (logged s w) (UnderWay (Point.Run (onto_of (logged_of r) 0 r.registers) Read))
  unfolding run_now state_in
  moved_log =
      by_row s _ w _ _ b row_logged refl refl refl refl
      (λ i. UnderWay (Point.Run (run_with r (byte_again (r.next + 1 + 0) i) (byte_again (r.place + 1) i) r.registers) Read))

  pub moved_load : (a x : ℕ) → Moved s w (loaded s w a x) (UnderWay (Point.Run (onto_of (logged_of r) 0 (with_register r.registers a x)) Read))
  unfolding loaded run_now state_in
  moved_load a x =
      by_row s _ w _ _ b
      (subst (λ (l : List ℕ). Row s (loaded s w a x) w l) (register_set _ _ _ _ _ _ _ _ _ _ _ _ _ _ _ _ a x _ refl)
      (put _ _ (at_register a) x (register_below a) row_logged))
      refl refl refl refl
      (λ i. UnderWay (Point.Run (run_with r (byte_again (r.next + 1 + 0) i) (byte_again (r.place + 1) i) (with_register r.registers a x)) Read))

  pub moved_store : (held : Reading) (new : ℕ) → Moved s w (to_swap s w held new) (UnderWay (Point.Run (logged_of r) (Swap held new)))
  unfolding to_swap run_now state_in
  moved_store held new =
      by_row s _ w _ _ b (put _ _ at_new new (omega arith) (put _ _ at_place _ (omega arith) (row_held swap_tag held))) refl refl refl refl
      (λ i. UnderWay (Point.Run (run_with r r.next (byte_again (r.place + 1) i) r.registers) (Swap held new)))

  pub moved_release : Moved s w (to_release s w) (UnderWay (Point.Run r (Release (said_now s w))))
  unfolding run_now state_in number_at
  moved_release = by_row s _ w _ _ b (to release_tag) refl refl refl refl refl

  pub moved_finish : (x : Answer) → Moved s w (finished s w x) (Finished x)
  unfolding finished state_in
  moved_finish x =
      by_row s _ w _ _ b (put _ _ at_new (answer_number x) (omega arith) (to finished_tag)) refl refl refl refl
      (λ i. Finished (answer_back x i))

-- one more, after any move: an entry that the worker filled is counted
abbrev filled_to : Worker → ℕ → Worker
filled_to k n = record { state = k.state; lock = k.lock; own = k.own; steps = k.steps; filled = n }

pub moved_count :
    (s t : List ℕ) (w : ℕ) (q : State) → numbers ≤ length s → w < workers → Moved s w t q →
    Says s (counted t w) (with_worker (unpack s) w (moved_of (counted_of (worker_at (unpack s) w) true) q))
unfolding counted put_number number_at state_in counted_of unpack
moved_count s t w q h b m =
    let n : numbers ≤ length t = omega (arith, m.1) in
    let k = worker_at (unpack s) w in
    let z : worker_at (unpack t) w ≡ moved_of k q =
    ap (λ (y : Engine). worker_at y w) m.0 ∙
    get_or-set_same (unpack s).worker w _ worker0 (omega (arith, pieces_length worker_part s)) in (
      unpack_number t w at_filled _ n b (omega arith) ∙ worker_over (unpack s) (unpack t) w (moved_of k q) _ m.0 ∙
          ap (λ (y : Worker). with_worker (unpack s) w (filled_to y (next32 y.filled))) (sym (worker_is t w b) ∙ z),
      length-set t _ _ ∙ m.1,
    )
