-- Pieces written one after the other from a place on: the numbers, and the state that they say.
mod Names
use Names.*
use Rattle.parts.specs.Lay.{lay}
use Rattle.cells.specs.Layout.{unpack}
use Rattle.cells.specs.Pieces.{Part, put_piece}

-- the numbers with the pieces xs written from place i of their array on
unfoldable pub put_all : {A : Type 0} → Part A → List ℕ → ℕ → List A → List ℕ
put_all p s i [] = s
put_all p s i (x ∷ xs) = put_all p (put_piece p s i x) (i + 1) xs

-- the state with the pieces xs laid over an array from place i on
abbrev pub lay_words : Engine → ℕ → List Word → Engine
lay_words e i xs =
    record {
      locks = e.locks;
      words = e.words;
      word = lay i xs e.word;
      lock = e.lock;
      sheet = e.sheet;
      program = e.program;
      entry = e.entry;
      worker = e.worker;
    }

abbrev pub lay_locks : Engine → ℕ → List LockWord → Engine
lay_locks e i xs =
    record {
      locks = e.locks;
      words = e.words;
      word = e.word;
      lock = lay i xs e.lock;
      sheet = e.sheet;
      program = e.program;
      entry = e.entry;
      worker = e.worker;
    }

abbrev pub lay_program : Engine → ℕ → List Instr → Engine
lay_program e i xs =
    record {
      locks = e.locks;
      words = e.words;
      word = e.word;
      lock = e.lock;
      sheet = e.sheet;
      program = lay i xs e.program;
      entry = e.entry;
      worker = e.worker;
    }

abbrev pub lay_log : Engine → ℕ → List Entry → Engine
lay_log e i xs =
    record {
      locks = e.locks;
      words = e.words;
      word = e.word;
      lock = e.lock;
      sheet = e.sheet;
      program = e.program;
      entry = lay i xs e.entry;
      worker = e.worker;
    }

-- the numbers t are s with the pieces xs written from place i on, and say the state of s with xs laid there
abbrev pub Laid : {A : Type 0} → Part A → (Engine → ℕ → List A → Engine) → List ℕ → List ℕ → ℕ → List A → Type 0
Laid p over s t i xs = (t ≡ put_all p s i xs) × (unpack t ≡ over (unpack s) i xs)
