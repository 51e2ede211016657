-- counts stay below 2 to the 32nd, turns at most 67,108,864, every index in its range: no remainder and no wrap of the
-- definitions changes a number in a state that the calls gave.
use Prim.Native.Nat.{ℕ, ◌+◌, ◌*◌, ◌-◌, ◌≤◌, ◌<◌}
use native.Mathlib.Omega.{arith}
use mathlib.Core.Path.{◌≡◌, ap, ◌∙◌, subst, subst₂}
use lib.ListN.{length, get_or}
use Rattle.parts.specs.Instr.{asks_of, follows_of}
use Rattle.parts.specs.Parts.{instr0}
use Rattle.parts.specs.declared.Asks.TheVariants.{Go, Touch}
use Rattle.parts.specs.declared.Instr.{Instr}
use Rattle.parts.specs.declared.Registers.{Registers}
use Rattle.parts.proofs.Touch.{touch_word}
use Rattle.steps.specs.declared.Point.{Point}
use Rattle.steps.specs.declared.Point.TheVariants.{Look, Grab, LookAgain, ReadMark}
use Rattle.steps.specs.declared.Run.{Run}
use Rattle.engine.specs.State.{worker_at, word_at, program_of}
use Rattle.engine.specs.declared.Engine.{Engine}
use Rattle.helping.specs.Machine.{Rules, Act, go, touch, act_of, target}
use Rattle.helping.specs.Ideal.{Touches, far_of}
use Rattle.helping.specs.Ok.{RunIn, PointIn, Ranged}
use Rattle.ranges.specs.Good.{Good, GoodRun, GoodPoint}
use Rattle.histories.specs.History.{instr_of, RunUncut, PointUncut, Uncut}
use Rattle.ranges.proofs.Bites.{bites_not}
use Rattle.ranges.proofs.Effect.{register_fits}
use Rattle.ranges.proofs.Keep.{point_good}
use Rattle.histories.proofs.Map.Map.{scene_of, Under}
use Rattle.histories.proofs.Map.Spots.{instr_is}

-- what an instruction asks for, as an act
go_act : (i : Instr) (r rs : Registers) (n : ℕ) → asks_of i r ≡ Go rs n → act_of i r ≡ go rs n
unfolding act_of
go_act i r rs n e = rw e

touch_act : (i : Instr) (r : Registers) (v : ℕ) → asks_of i r ≡ Touch v → act_of i r ≡ touch v (follows_of i r)
unfolding act_of
touch_act i r v e = rw e

module _ (K : Rules) (e : Engine) (g : Good e) (u : Under K e) where
  run_uncut : (r : Run) → GoodRun r → RunIn K (scene_of e) r → RunUncut e r
  run_uncut r h k =
      record {
        sheet = omega (arith, h.sheet);
        next = omega (arith, k.next, k.short, u.most);
        place = omega (arith, k.place, u.most);
        onto = omega (arith, k.next, k.short, u.most);
        over = λ rs n q.
            omega (arith, subst (λ (a : Act). r.next + far_of a < length (program_of e r.sheet)) (same rs n q) k.far, k.short, u.most);
        logged = omega (arith, k.place, u.most);
        word = λ v q.
            let named = subst (λ (a : Act). Touches a → target a < length K.values) (asked v q) k.names tt in
            let below : v < e.words = omega (arith, named, u.words, g.numbers.words) in
            (omega (arith, below, g.numbers.words, touch_word (instr_of e r) r.registers v q), below);
        registers = λ i. register_fits r.registers i h.registers;
      }
    where
      here : get_or (program_of e r.sheet) r.next instr0 ≡ instr_of e r
      here = instr_is e g r.sheet r.next h.sheet k.next

      same :
          (rs : Registers) (n : ℕ) → asks_of (instr_of e r) r.registers ≡ Go rs n →
          act_of (get_or (program_of e r.sheet) r.next instr0) r.registers ≡ go rs n
      same rs n q = ap (λ (i : Instr). act_of i r.registers) here ∙ go_act (instr_of e r) r.registers rs n q

      asked :
          (v : ℕ) → asks_of (instr_of e r) r.registers ≡ Touch v →
          act_of (get_or (program_of e r.sheet) r.next instr0) r.registers ≡ touch v (follows_of (instr_of e r) r.registers)
      asked v q = ap (λ (i : Instr). act_of i r.registers) here ∙ touch_act (instr_of e r) r.registers v q

  point_uncut : (p : Point) → GoodPoint p → PointIn K (scene_of e) p → PointUncut e p
  point_uncut Look h k = tt
  point_uncut (Grab seen) h k = omega arith
  point_uncut (LookAgain won) h k = tt
  point_uncut (ReadMark seen won) h k = tt
  point_uncut (Point.Run r at) h k = run_uncut r h.0 k.0

  pub uncut : Ranged K (scene_of e) → Uncut e
  uncut k =
      let w = bites_not e g in
      record {
        locks = w.locks;
        words = w.words;
        guard = w.guard;
        program = w.program;
        turn = λ l. (g.lock l).turn;
        value = λ q. (g.word q).value;
        count = λ q h.
            omega
            (arith, subst₂ (λ (n t : ℕ). (word_at e q).count ≤ (n - 1) * t) u.most u.last (k.count q (omega (arith, u.words, w.words))));
        worker =
            λ i p q.
            let at = point_good e.locks (worker_at e i) p (g.worker i) q in
            record {
              below = (w.point i p q).below;
              lock = omega (arith, (g.worker i).lock, g.numbers.locks);
              own = omega (arith, (g.worker i).own);
              steps = omega (arith, k.steps i, u.most);
              point = point_uncut p at.1 (k.point i p q);
            };
      }
