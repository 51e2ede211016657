-- What setup reads into words and locks, and what is read of them: guards, values, turns.
use Rattle.std.specs.Prelude.{ℕ, List, [], ◌∷◌, map, None}
use Rattle.parts.specs.declared.LockWord.{LockWord}
use Rattle.parts.specs.declared.Word.{Word}

-- "A word has a 32-bit value, a 32-bit count of changes (0 at setup) and one guarding lock."
unfoldable pub words_from : List ℕ → List ℕ → List Word
words_from [] values = []
words_from (g ∷ gs) [] = []
words_from (g ∷ gs) (v ∷ vs) = record { value = v; count = 0; guard = g } ∷ words_from gs vs

-- "A lock word has a turn, and is either free or held by a named sheet."
abbrev pub free_at : ℕ → LockWord
free_at turn = record { turn = turn; holder = None }

abbrev pub guards_of : List Word → List ℕ
guards_of = map (λ w. w.guard)

abbrev pub values_of : List Word → List ℕ
values_of = map (λ w. w.value)

abbrev pub turns_of : List LockWord → List ℕ
turns_of = map (λ l. l.turn)
