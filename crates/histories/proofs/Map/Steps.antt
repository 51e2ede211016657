-- Each accepted call is a step of the theory's machine.
use Rattle.std.specs.Prelude.{Option, Some}
use Prim.Native.Nat.{ℕ, suc, ◌+◌, ◌*◌, ◌-◌, ◌^◌, ◌≤◌, ◌<◌}
use native.Mathlib.Omega.{arith}
use mathlib.Core.Path.{◌≡◌, refl, ◌∙◌, sym, ap, subst}
use mathlib.Core.Bool.{Bool, false}
use mathlib.Core.List.{List}
use lib.ListN.{length}
use Rattle.parts.specs.Numbers.{workers, instructions, last_turn}
use Rattle.parts.specs.Parts as parts
use Rattle.parts.specs.Parts.{next32, reading_of, committed_of, is_first}
use Rattle.parts.specs.declared.Instr.{Instr}
use Rattle.parts.specs.declared.LockWord.{LockWord}
use Rattle.parts.specs.declared.Reading.{Reading}
use Rattle.records.specs.Job.{job_of}
use Rattle.steps.specs.Places.{spot_of}
use Rattle.steps.specs.Try as steps
use Rattle.steps.specs.Try.{view_with_lock, view_with_word, view_with_entry, view_with_done, to_of, at_of, effect_of}
use Rattle.steps.specs.Worker as tries
use Rattle.steps.specs.Worker.{worker0, looking_of, began_of, counted_of}
use Rattle.steps.specs.declared.Point.{Point}
use Rattle.steps.specs.declared.Point.TheVariants.{Look, Grab, LookAgain, ReadMark}
use Rattle.steps.specs.declared.Run.{Run}
use Rattle.steps.specs.declared.Stage.TheVariants.{Read, Commit, Swap, Mark, Release}
use Rattle.steps.specs.declared.State.{State}
use Rattle.steps.specs.declared.State.TheVariants.{UnderWay}
use Rattle.steps.specs.declared.View.{View}
use Rattle.steps.specs.declared.Worker.{Worker}
use Rattle.engine.specs.State.{sheet0, free_sheet, worker_at, lock_at, word_at, with_worker}
use Rattle.engine.specs.Step.{places_of, spot_at, view_at, put_at, stepped_of}
use Rattle.engine.specs.Calls as engine
use Rattle.engine.specs.Calls.{taken_of}
use Rattle.engine.specs.Inner.{Begins}
use Rattle.engine.specs.declared.Engine.{Engine}
use Rattle.engine.proofs.Begins.{sheet_taken, looks}
use Rattle.engine.specs.declared.Places.{Places}
use Rattle.engine.specs.declared.Sheet.{Sheet}
use Rattle.helping.specs.Ideal.{Logs, Touches}
use Rattle.helping.specs.Machine as machine
use Rattle.helping.specs.Machine.{Rules, Scene, Shared, Pace, put, act_of, target, held_of, machine_onto, shared_of, set_shared, set_lock, machine_moved, on_to, look_to, point_of, pace_of, step_at, machine_begun, idled_of}
use Rattle.helping.specs.Ok.{Ranged}
use Rattle.ranges.specs.Good.{Good}
use Rattle.ranges.proofs.Programs.{begun_program, begun_job}
use Rattle.histories.proofs.Map.Map.{hand_of, scene_of, Under}
use Rattle.histories.proofs.Map.Moves.{moved_is, onto_is, look_is, grab_is, mark_is, read_is, read_keeps, committed_is, commit_is, commit_shares, swap_is}
use Rattle.histories.proofs.Map.Put.{put_by, set-put, lay_log_lem, put_scene}
use Rattle.histories.proofs.Map.Spots.{exact_of, view_of, word_back, lock_back, done_back, entry_is, entry_back, log_back, act_in, places_are, place_in, exact_in, run_at}

module _ (K : Rules) (e : Engine) (g : Good e) (u : Under K e) (r : Ranged K (scene_of e)) (w : ℕ) (h : w < workers) where
  -- a step that leaves the pieces of v, and the worker in state s: each part of the scene has its piece put in
  stepped :
      {W : ℕ → Reading} {L : ℕ → LockWord} {D : ℕ → Bool} {M : ℕ → ℕ → Option Reading} (p : Point) → (worker_at e w).state ≡ UnderWay p →
      (v : View) (s : State) → effect_of p (view_of e w p) ≡ to_of v s → hand_of v.worker ≡ hand_of (worker_at e w) →
      put (scene_of e).word (places_of e w p).word (reading_of v.word) ≡ W →
      put (scene_of e).lock (worker_at e w).lock v.lock ≡ L →
      put (scene_of e).done (spot_at e w p).sheet v.done ≡ D →
      put (scene_of e).log (spot_at e w p).sheet
      (put ((scene_of e).log (spot_at e w p).sheet) (spot_at e w p).place v.entry.fill) ≡ M →
      scene_of (stepped_of e w p) ≡
      record {
        word = W;
        lock = L;
        program = (scene_of e).program;
        done = D;
        log = M;
        worker = put (scene_of e).worker w (machine_moved (worker_at e w) s);
      }
  stepped p q v s f k a b c d =
      let i = r.point w p q in
      let n : (worker_at e w).steps + 1 < 2 ^ 32 = omega (arith, r.steps w, u.most) in
      ap (λ (at : Places). scene_of (put_at e at (effect_of p (view_at e at)))) (places_are K e g u w h p q i) ∙
      ap (λ (x : View). scene_of (put_at e (exact_of e w p) x)) f ∙
      put_scene e g (exact_of e w p) (spot_at e w p).place (exact_in K e g u w h p q i) (place_in K e g u w h p q i) refl (to_of v s) _
      a b refl c d
      (ap (λ (x : Worker). put (scene_of e).worker w (hand_of (tries.moved_of x s))) k ∙
      ap (λ (x : Worker). put (scene_of e).worker w x) (moved_is (worker_at e w) s n))

  place_of : (p : Point) → (worker_at e w).state ≡ UnderWay p → (spot_at e w p).place < instructions
  place_of p q = place_in K e g u w h p q (r.point w p q)

  -- before a run
  before_run :
      (p : Point) (s : State) → (worker_at e w).state ≡ UnderWay p → effect_of p (view_of e w p) ≡ to_of (view_of e w p) s →
      scene_of (stepped_of e w p) ≡ on_to (scene_of e) w (worker_at e w) s
  unfolding view_at
  before_run p s q f = stepped p q (view_of e w p) s f refl (word_back e w p) (lock_back e w p) (done_back e w p) (log_back e w p (place_of p q))

  -- the lock word changes
  lock_step :
      (p : Point) (x : LockWord) (s : State) → (worker_at e w).state ≡ UnderWay p →
      effect_of p (view_of e w p) ≡ to_of (view_with_lock (view_of e w p) x) s →
      scene_of (stepped_of e w p) ≡ on_to (set_lock (scene_of e) (worker_at e w).lock x) w (worker_at e w) s
  unfolding view_at
  lock_step p x s q f = stepped p q (view_with_lock (view_of e w p) x) s f refl (word_back e w p) refl (done_back e w p) (log_back e w p (place_of p q))

  -- where a step of a run leads
  abbrev paced_by : Run → Pace → Scene
  paced_by c a = on_to (set_shared (scene_of e) c.sheet a.shared) w (worker_at e w) (UnderWay (point_of a))

  read_at :
      (c : Run) → (worker_at e w).state ≡ UnderWay (Point.Run c Read) →
      scene_of (stepped_of e w (Point.Run c Read)) ≡ step_at K (scene_of e) w (hand_of (worker_at e w)) (Point.Run c Read)
  unfolding step_at pace_of effect_of view_at spot_of
  read_at c q =
      let p = Point.Run c Read in
      let i = r.point w p q in
      let a = run_at K e g u w h p q i c refl i.0 in
      let v = view_of e w p in
      let x = shared_of (scene_of e) c.sheet in
      let act = act_in e w p c in
      let to = machine.machine_read act x c in
      stepped p q v (UnderWay (point_of to))
      (read_is v c x (omega (arith, a.far)) (λ t. ap (scene_of e).word (a.word t))) refl (word_back e w p) (lock_back e w p)
      (done_back e w p) (entry_back e w p (place_of p q)) ∙
      ap (λ (y : Shared). paced_by c (record { shared = y; run = to.run; stage = to.stage })) (sym (read_keeps act x c)) ∙
      ap (λ (n : Instr). paced_by c (machine.machine_read (act_of n c.registers) x c)) (sym a.instr)

  commit_at :
      (c : Run) (y : Reading) → (worker_at e w).state ≡ UnderWay (Point.Run c (Commit y)) →
      scene_of (stepped_of e w (Point.Run c (Commit y))) ≡ step_at K (scene_of e) w (hand_of (worker_at e w)) (Point.Run c (Commit y))
  unfolding step_at pace_of effect_of view_at spot_of counted_of
  commit_at c y q =
      let p = Point.Run c (Commit y) in
      let i = r.point w p q in
      let a = run_at K e g u w h p q i c refl i.0 in
      let v = view_of e w p in
      let x = shared_of (scene_of e) c.sheet in
      let act = act_in e w p c in
      let t = subst (λ (n : Instr). Logs (act_of n c.registers)) a.instr i.1 in
      let z = entry_is e w p (place_of p q) in
      let filled : (committed_of v.entry y).fill ≡ Some (held_of (x.log c.place) y) =
      committed_is v.entry y ∙ ap (λ (s : Option Reading). Some (held_of s y)) (sym z) in
      let to = machine.machine_commit act x c y in
      stepped p q (view_with_entry v (committed_of v.entry y) (counted_of v.worker (is_first v.entry))) (UnderWay (point_of to))
      (commit_is v c y x t z (omega (arith, a.far)) (omega (arith, a.place))) refl (word_back e w p) (lock_back e w p)
      (done_back e w p) (ap (λ (s : Option Reading). put (scene_of e).log c.sheet (put x.log c.place s)) filled) ∙
      ap (λ (s : Shared). paced_by c (record { shared = s; run = to.run; stage = to.stage }))
      (sym (commit_shares act x c y t)) ∙
      ap (λ (n : Instr). paced_by c (machine.machine_commit (act_of n c.registers) x c y)) (sym a.instr)

  swap_at :
      (c : Run) (y : Reading) (new : ℕ) → (worker_at e w).state ≡ UnderWay (Point.Run c (Swap y new)) →
      scene_of (stepped_of e w (Point.Run c (Swap y new))) ≡ step_at K (scene_of e) w (hand_of (worker_at e w)) (Point.Run c (Swap y new))
  unfolding step_at pace_of effect_of view_at spot_of steps.swap_step
  swap_at c y new q =
      let p = Point.Run c (Swap y new) in
      let i = r.point w p q in
      let a = run_at K e g u w h p q i c refl i.0 in
      let v = view_of e w p in
      let t = subst (λ (n : Instr). Touches (act_of n c.registers)) a.instr i.1 in
      let m = (places_of e w p).word in
      let low : (word_at e m).count ≤ (instructions - 1) * last_turn =
      subst (λ (n : ℕ). (word_at e m).count ≤ (n - 1) * last_turn) u.most
      (subst (λ (n : ℕ). (word_at e m).count ≤ (K.most - 1) * n) u.last (r.count m (omega (arith, a.word t, a.below t)))) in
      stepped p q (view_with_word v (parts.swap_of v.word y new)) (UnderWay (Point.Run (machine_onto c 0 c.registers) Read))
      (ap (λ (d : Run). at_of (view_with_word v (parts.swap_of v.word y new)) (Point.Run d Read))
      (onto_is c 0 c.registers (omega (arith, a.far)))) refl
      (ap (put (scene_of e).word m) (swap_is v.word y new (omega (arith, low))) ∙
      ap (λ (n : ℕ). put (scene_of e).word n (machine.machine_swap ((scene_of e).word n) y new)) (a.word t))
      (lock_back e w p) (done_back e w p) (entry_back e w p (place_of p q)) ∙
      ap
      (λ (n : Instr).
      let d = target (act_of n c.registers) in
      paced_by c
      (record {
        shared =
            record { word = put (scene_of e).word d (machine.machine_swap ((scene_of e).word d) y new); log = (scene_of e).log c.sheet };
        run = machine_onto c 0 c.registers;
        stage = Read;
      }))
      (sym a.instr)

  pub step_at_lem :
      (p : Point) → (worker_at e w).state ≡ UnderWay p →
      scene_of (stepped_of e w p) ≡ step_at K (scene_of e) w (hand_of (worker_at e w)) p
  unfolding step_at effect_of view_at spot_of steps.grab_step steps.look_again_step steps.mark_step steps.release_step parts.release_of machine.machine_release
  step_at_lem Look q =
      before_run Look (look_to last_turn (lock_at e (worker_at e w).lock)) q (look_is (view_of e w Look)) ∙
      ap (λ (n : ℕ). on_to (scene_of e) w (worker_at e w) (look_to n (lock_at e (worker_at e w).lock))) (sym u.last)
  step_at_lem (Grab seen) q =
      let i : seen < K.last = r.point w (Grab seen) q in
      let n : next32 seen ≡ suc seen = omega (arith, u.last) in
      let x = grab_is (lock_at e (worker_at e w).lock) seen (worker_at e w).own (omega (arith, u.last)) in
      lock_step (Grab seen) _ _ q (λ j. at_of (view_with_lock (view_of e w (Grab seen)) (x j)) (LookAgain (n j)))
  step_at_lem (LookAgain won) q = before_run (LookAgain won) _ q refl
  step_at_lem (ReadMark seen won) q = before_run (ReadMark seen won) _ q (mark_is (view_of e w (ReadMark seen won)) seen won)
  step_at_lem (Point.Run c Read) q = read_at c q
  step_at_lem (Point.Run c (Commit y)) q = commit_at c y q
  step_at_lem (Point.Run c (Swap y new)) q = swap_at c y new q
  step_at_lem (Point.Run c (Mark said)) q =
      let p = Point.Run c (Mark said) in
      stepped p q (view_with_done (view_of e w p)) _ refl refl (word_back e w p) (lock_back e w p) refl (log_back e w p (place_of p q))
  step_at_lem (Point.Run c (Release said)) q = lock_step (Point.Run c (Release said)) _ _ q refl

pub step_is :
    (K : Rules) (e : Engine) → Good e → Under K e → Ranged K (scene_of e) → (w : ℕ) (p : Point) → w < workers →
    (worker_at e w).state ≡ UnderWay p → scene_of (stepped_of e w p) ≡ step_at K (scene_of e) w (hand_of (worker_at e w)) p
step_is K e g u r w p h q = step_at_lem K e g u r w h p q

pub begin_is :
    (e : Engine) → Good e → (w l : ℕ) (rec : List ℕ) → Begins e w l rec →
    scene_of (taken_of e w l rec) ≡ machine_begun (scene_of e) w l (job_of rec) (free_sheet e)
unfolding engine.begun_of
begin_is e g w l rec b =
    let s = free_sheet e in
    let job : Sheet = record { length = length (job_of rec); done = false } in
    let k = began_of (worker_at e w) l s in
    let n = g.lengths in
    let program : (scene_of (taken_of e w l rec)).program ≡ put (scene_of e).program s (job_of rec) =
    put_by (scene_of e).program (scene_of (taken_of e w l rec)).program s (job_of rec) (begun_job e w l rec g b)
    (λ t d. begun_program e w l rec t d b) in
    let done = set-put (λ (x : Sheet). x.done) e.sheet s job sheet0 (omega (arith, sheet_taken e, n.sheet)) in
    let log = lay_log_lem e.entry s n.entry (sheet_taken e) in
    let worker : (scene_of (taken_of e w l rec)).worker ≡ put (scene_of e).worker w (looking_of l s) =
    set-put hand_of e.worker w k worker0 (omega (arith, b.worker, n.worker)) ∙
    ap (λ (x : Worker). put (scene_of e).worker w (hand_of x)) (looks (worker_at e w) l s b.idle) in
    λ i.
    record {
      word = (scene_of e).word;
      lock = (scene_of e).lock;
      program = program i;
      done = done i;
      log = log i;
      worker = worker i;
    }

pub idle_is : (e : Engine) → Good e → (w : ℕ) → w < workers → scene_of (with_worker e w worker0) ≡ idled_of (scene_of e) w
idle_is e g w h =
    let worker = set-put hand_of e.worker w worker0 worker0 (omega (arith, g.lengths.worker)) in
    λ i.
    record {
      word = (scene_of e).word;
      lock = (scene_of e).lock;
      program = (scene_of e).program;
      done = (scene_of e).done;
      log = (scene_of e).log;
      worker = worker i;
    }
