-- The state with one piece changed; engine's `with_worker` is the one for a worker.
use Rattle.std.specs.Prelude.{ℕ, set}
use Rattle.parts.specs.declared.Entry.{Entry}
use Rattle.parts.specs.declared.Instr.{Instr}
use Rattle.parts.specs.declared.LockWord.{LockWord}
use Rattle.parts.specs.declared.Word.{Word}
use Rattle.engine.specs.declared.Engine.{Engine}
use Rattle.engine.specs.declared.Sheet.{Sheet}

abbrev pub with_sizes : Engine → ℕ → ℕ → Engine
with_sizes e l w =
    record {
      locks = l;
      words = w;
      word = e.word;
      lock = e.lock;
      sheet = e.sheet;
      program = e.program;
      entry = e.entry;
      worker = e.worker;
    }

abbrev pub with_lock : Engine → ℕ → LockWord → Engine
with_lock e i x =
    record {
      locks = e.locks;
      words = e.words;
      word = e.word;
      lock = set e.lock i x;
      sheet = e.sheet;
      program = e.program;
      entry = e.entry;
      worker = e.worker;
    }

abbrev pub with_word : Engine → ℕ → Word → Engine
with_word e i x =
    record {
      locks = e.locks;
      words = e.words;
      word = set e.word i x;
      lock = e.lock;
      sheet = e.sheet;
      program = e.program;
      entry = e.entry;
      worker = e.worker;
    }

abbrev pub with_sheet : Engine → ℕ → Sheet → Engine
with_sheet e i x =
    record {
      locks = e.locks;
      words = e.words;
      word = e.word;
      lock = e.lock;
      sheet = set e.sheet i x;
      program = e.program;
      entry = e.entry;
      worker = e.worker;
    }

abbrev pub with_instr : Engine → ℕ → Instr → Engine
with_instr e i x =
    record {
      locks = e.locks;
      words = e.words;
      word = e.word;
      lock = e.lock;
      sheet = e.sheet;
      program = set e.program i x;
      entry = e.entry;
      worker = e.worker;
    }

abbrev pub with_entry : Engine → ℕ → Entry → Engine
with_entry e i x =
    record {
      locks = e.locks;
      words = e.words;
      word = e.word;
      lock = e.lock;
      sheet = e.sheet;
      program = e.program;
      entry = set e.entry i x;
      worker = e.worker;
    }
