-- The ideal run of a sheet that has won its lock: its program, alone, on the words as they were when it won. It fixes what every
-- run of the sheet finds, and what its log entries hold.
use Rattle.std.specs.Prelude.{ℕ, zero, suc, ◌+◌, ◌*◌, ◌-◌, ◌≤◌, ◌<◌, ◌≡◌, ◌⊎◌, Bool, List, length, None, Option, Some}
use Rattle.parts.specs.Instr.{on_follows}
use Rattle.parts.specs.Parts.{registers0}
use Rattle.parts.specs.declared.Follows.{Follows}
use Rattle.parts.specs.declared.Follows.TheVariants as follows
use Rattle.parts.specs.declared.Instr.{Instr}
use Rattle.parts.specs.declared.Reading.{Reading}
use Rattle.parts.specs.declared.Registers.{Registers}
use Rattle.steps.specs.declared.Run.{Run}
use Rattle.steps.specs.declared.Stage.{Stage}
use Rattle.steps.specs.declared.Stage.TheVariants.{Read, Commit, Swap, Mark, Release}
use Rattle.helping.specs.Machine.{Rules, Shared, Act, fin, go, touch, act_at, target, put, Pace}

-- a sheet that won: its program, its lock, and the words when it won
pub record Job : Type 0 where
  pub code : List Instr
  pub lock : ℕ
  pub words : ℕ → Reading

pub record Ideal : Type 0 where
  pub next : ℕ
  pub registers : Registers
  pub place : ℕ
  pub words : ℕ → Reading

abbrev pub raised : Reading → ℕ → Reading
raised u new = record { value = new; count = suc u.count }

unfoldable pub next_of : Act → Ideal → Ideal
next_of (fin said) s = s
next_of (go rs n) s = record { next = suc (s.next + n); registers = rs; place = s.place; words = s.words }
next_of (touch w f) s =
    on_follows (f (s.words w).value)
    (λ rs. record { next = suc s.next; registers = rs; place = suc s.place; words = s.words })
    (λ new. record {
      next = suc s.next;
      registers = s.registers;
      place = suc s.place;
      words = put s.words w (raised (s.words w) new);
    })

-- after n instructions; once at a halt it stays there
unfoldable pub ideal_of : Job → ℕ → Ideal
ideal_of J zero = record { next = 0; registers = registers0; place = 0; words = J.words }
ideal_of J (suc n) = next_of (act_at J.code (ideal_of J n).next (ideal_of J n).registers) (ideal_of J n)

-- what its instruction n asks for
abbrev pub act_in : Job → ℕ → Act
act_in J n = act_at J.code (ideal_of J n).next (ideal_of J n).registers

-- whether an instruction has an entry in the log; and what that must hold, once the ideal run has come to it
abbrev pub Logs : Act → Type 0
Logs (fin said) = ⊥
Logs (go rs n) = ⊥
Logs (touch w f) = Unit {0}

abbrev pub met_of : Act → Ideal → Reading
met_of (fin said) s = record { value = 0; count = 0 }
met_of (go rs n) s = record { value = 0; count = 0 }
met_of (touch w f) s = s.words w

abbrev pub met_in : Job → ℕ → Reading
met_in J n = met_of (act_in J n) (ideal_of J n)

-- whether it asks for a word: then its entry is the reading of that word (`met_word`)
abbrev pub Touches : Act → Type 0
Touches (fin said) = ⊥
Touches (go rs n) = ⊥
Touches (touch w f) = Unit {0}

-- what follows from the value in its entry
abbrev pub Follow : Act → ℕ → Follows → Type 0
Follow (fin said) v x = ⊥
Follow (go rs n) v x = ⊥
Follow (touch w f) v x = f v ≡ x

abbrev pub logged_in : Job → Shared → ℕ → Option Reading
logged_in J x n = x.log (ideal_of J n).place

-- word q is one of the words, and lock l guards it
abbrev pub Guarded : Rules → ℕ → ℕ → Type 0
Guarded K l q = (q < length K.values) × (K.guard q ≡ l)

-- how far an instruction may go on
abbrev pub far_of : Act → ℕ
far_of (fin said) = 0
far_of (go rs n) = suc n
far_of (touch w f) = 1

-- a program that a begin on lock l takes: 1 to `most` instructions, none leads past the end, and it names words of that lock only
pub record Fine (K : Rules) (l : ℕ) (code : List Instr) : Type 0 where
  pub some : 0 < length code
  pub short : length code ≤ K.most
  pub inside : (n : ℕ) (r : Registers) → n < length code → n + far_of (act_at code n r) < length code
  pub names : (n : ℕ) (r : Registers) → n < length code → Touches (act_at code n r) → Guarded K l (target (act_at code n r))

abbrev pub FineJob : Rules → Job → Type 0
FineJob K J = Fine K J.lock J.code

-- The shared state at frontier n: the words are the ideal run's after n instructions; the entries before n are filled with what
-- it met; that of n is empty or so filled; every place of the log after it is empty.
pub record Inv (K : Rules) (J : Job) (n : ℕ) (x : Shared) : Type 0 where
  pub words : (q : ℕ) → Guarded K J.lock q → x.word q ≡ (ideal_of J n).words q
  pub past : (j : ℕ) → j < n → Logs (act_in J j) → logged_in J x j ≡ Some (met_in J j)
  pub here : Logs (act_in J n) → (logged_in J x n ≡ None) ⊎ (logged_in J x n ≡ Some (met_in J n))
  pub later : (p : ℕ) → (ideal_of J (suc n)).place ≤ p → x.log p ≡ None

-- Of a sheet that let go of its lock: the log is complete up to a halt at n, and the counts of the lock's words are at least what
-- the job left, so that every late swap fails.
pub record Old (K : Rules) (J : Job) (n : ℕ) (x : Shared) : Type 0 where
  pub said : Bool
  pub halts : act_in J n ≡ fin said
  pub past : (j : ℕ) → j < n → Logs (act_in J j) → logged_in J x j ≡ Some (met_in J j)
  pub counts : (q : ℕ) → Guarded K J.lock q → ((ideal_of J n).words q).count ≤ (x.word q).count

-- a run with the registers of the ideal run's instruction j, before it
pub record At (J : Job) (j : ℕ) (r : Run) : Type 0 where
  pub next : r.next ≡ (ideal_of J j).next
  pub registers : r.registers ≡ (ideal_of J j).registers

-- a run at a stage, inside instruction j of the ideal run. A run that has read a word, while its entry is empty, has read the
-- present word.
abbrev pub In : Job → ℕ → Shared → Run → Stage → Type 0
In J j x r Read = At J j r × (r.place ≡ (ideal_of J j).place)
In J j x r (Commit u) =
    At J j r × (r.place ≡ (ideal_of J j).place) × Logs (act_in J j) ×
    (Touches (act_in J j) → logged_in J x j ≡ None → u ≡ x.word (target (act_in J j)))
In J j x r (Swap e new) =
    At J j r × (r.place ≡ suc (ideal_of J j).place) × Follow (act_in J j) (met_in J j).value (follows.Swap new) ×
    (e ≡ met_in J j) × (logged_in J x j ≡ Some (met_in J j))
In J j x r (Mark said) = At J j r × (r.place ≡ (ideal_of J j).place) × (act_in J j ≡ fin said)
In J j x r (Release said) = At J j r × (r.place ≡ (ideal_of J j).place) × (act_in J j ≡ fin said)

pub record RunStands (J : Job) (n : ℕ) (x : Shared) (r : Run) (at : Stage) : Type 0 where
  pub j : ℕ
  pub behind : j ≤ n
  pub inn : In J j x r at

-- what a step may do to the shared state, as any other run of the sheet sees it
pub record Moved (J : Job) (n : ℕ) (x : Shared) (n' : ℕ) (x' : Shared) : Type 0 where
  pub up : n ≤ n'
  pub kept : (j : ℕ) → Logs (act_in J j) → logged_in J x' j ≡ None → logged_in J x j ≡ None
  pub holds : (j : ℕ) (e : Reading) → Logs (act_in J j) → logged_in J x j ≡ Some e → logged_in J x' j ≡ Some e
  pub still :
      (j : ℕ) → j ≤ n → Touches (act_in J j) → logged_in J x' j ≡ None →
      x'.word (target (act_in J j)) ≡ x.word (target (act_in J j))

-- after a step: the new frontier, the invariant there, and where the run stands
pub record StepKeeps (K : Rules) (J : Job) (n : ℕ) (x : Shared) (b : Pace) : Type 0 where
  pub to : ℕ
  pub inv : Inv K J to b.shared
  pub stands : RunStands J to b.shared b.run b.stage
  pub moved : Moved J n x to b.shared

-- the steps that a run has left, at most; most - 1 - next instructions follow the one that it is at
abbrev pub left_at : ℕ → Run → Stage → ℕ
left_at most r Read = (most - 1 - r.next) * 3 + 3
left_at most r (Commit u) = (most - 1 - r.next) * 3 + 2
left_at most r (Swap e new) = (most - 1 - r.next) * 3 + 1
left_at most r (Mark said) = 2
left_at most r (Release said) = 1
