-- A step of the whole state: the pieces that it can touch are read out, the step is done to them, and they are put back.
mod Names
use Names.*
use Rattle.parts.specs.Instr.{word_of}
use Rattle.parts.specs.Numbers.{most_locks, most_words, sheets, instructions}
use Rattle.parts.specs.Parts.{instr0, entry0}
use Rattle.steps.specs.Places.{spot_of}
use Rattle.steps.specs.Try.{effect_of}
use Rattle.engine.specs.State.{sheet0, worker_at, lock_at, word_at, base_of}

-- where a step's instruction stands, and its log entry, by its spot
abbrev pub instr_at : Spot → ℕ
instr_at t = base_of (t.sheet % sheets) + t.next % instructions

abbrev pub entry_at : Spot → ℕ
entry_at t = base_of (t.sheet % sheets) + t.place % instructions

-- where the pieces of a step stand: of worker w, which is k, at a spot whose instruction is i
abbrev pub placed_of : ℕ → Worker → Spot → Instr → Places
placed_of w k t i =
    record {
      worker = w;
      lock = k.lock % most_locks;
      word = word_of i % most_words;
      entry = entry_at t;
      instr = instr_at t;
      sheet = t.sheet % sheets;
    }

-- of worker w at point p
abbrev pub spot_at : Engine → ℕ → Point → Spot
spot_at e w p = spot_of p (worker_at e w).own

unfoldable pub places_of : Engine → ℕ → Point → Places
places_of e w p = placed_of w (worker_at e w) (spot_at e w p) (get_or e.program (instr_at (spot_at e w p)) instr0)

-- the pieces at these places
unfoldable pub view_at : Engine → Places → View
view_at e at =
    record {
      worker = worker_at e at.worker;
      lock = lock_at e at.lock;
      word = word_at e at.word;
      entry = get_or e.entry at.entry entry0;
      instr = get_or e.program at.instr instr0;
      done = (get_or e.sheet at.sheet sheet0).done;
    }

-- the state with these pieces there; no step changes an instruction
unfoldable pub put_at : Engine → Places → View → Engine
put_at e at v =
    record {
      locks = e.locks;
      words = e.words;
      word = set e.word at.word v.word;
      lock = set e.lock at.lock v.lock;
      sheet =
          set e.sheet at.sheet (record { length = (get_or e.sheet at.sheet sheet0).length; done = v.done });
      program = e.program;
      entry = set e.entry at.entry v.entry;
      worker = set e.worker at.worker v.worker;
    }

-- one step of worker w, which is at point p
abbrev pub stepped_of : Engine → ℕ → Point → Engine
stepped_of e w p = put_at e (places_of e w p) (effect_of p (view_at e (places_of e w p)))
