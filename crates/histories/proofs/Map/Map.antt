-- The map from the engine's state to the theory's machine.
use Rattle.std.specs.Prelude.{None}
use Prim.Native.Nat.{ℕ, ◌+◌}
use mathlib.Core.Path.{◌≡◌}
use lib.Dec.{ltb}
use lib.ListN.{get_or, length}
use Rattle.arrays.specs.Fresh.{values_of}
use Rattle.parts.specs.Numbers.{instructions, last_turn}
use Rattle.parts.specs.Parts.{entry0, reading_of}
use Rattle.parts.specs.Pick.{pick}
use Rattle.steps.specs.declared.Worker.{Worker}
use Rattle.engine.specs.State.{sheet0, word_count, worker_at, lock_at, word_at, words_of, base_of, program_of}
use Rattle.engine.specs.declared.Engine.{Engine}
use Rattle.helping.specs.Machine.{Rules, Scene, Tale}
use Rattle.histories.specs.History.{Sofar}

-- what the setup that gave state e fixed
abbrev pub rules_of : Engine → Rules
rules_of e =
    record {
      guard = λ q. (word_at e q).guard;
      values = values_of (words_of e);
      most = instructions;
      last = last_turn;
    }

-- a worker, but for what it filled: the theory does not look at that
abbrev pub hand_of : Worker → Worker
hand_of k = record { state = k.state; lock = k.lock; own = k.own; steps = k.steps; filled = 0 }

-- the scene of a state. A sheet's log has no more entries than a job has instructions.
abbrev pub scene_of : Engine → Scene
scene_of e =
    record {
      word = λ q. reading_of (word_at e q);
      lock = λ l. lock_at e l;
      program = λ s. program_of e s;
      done = λ s. (get_or e.sheet s sheet0).done;
      log = λ s p. pick (ltb p instructions) (get_or e.entry (base_of s + p) entry0).fill None;
      worker = λ w. hand_of (worker_at e w);
    }

-- the tale of a history
abbrev pub tale_of : Sofar → Tale
tale_of x = record { begins = x.begins; tries = x.tries; won = x.won }

-- a state that these rules are the rules of: the same words and guards, though the values may have changed
pub record Under (K : Rules) (e : Engine) : Type 0 where
  pub most : K.most ≡ instructions
  pub last : K.last ≡ last_turn
  pub words : length K.values ≡ word_count e
  pub guard : (q : ℕ) → (word_at e q).guard ≡ K.guard q
