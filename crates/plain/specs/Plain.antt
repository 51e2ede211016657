-- Request 05: "a second engine that runs a job on lent words at once .. and returns the answer, the number of instructions executed and
-- the words left". "It takes a job record, any lock number and two lent tables, the words' values and their guards; only values are written."
use Rattle.std.specs.Prelude.{ℕ, Bool, List, [], ◌∷◌, ltb, length, Err, Ok, Result}
use Rattle.parts.specs.Numbers.{most_words}
use Rattle.parts.specs.Pick.{◌or◌, ◌isnt◌}
use Rattle.parts.specs.Told.{refuse_if, first_of, on_told}
use Rattle.parts.specs.declared.Refusal.TheVariants.{NoWord}
use Rattle.parts.specs.Told.{Told}
use Rattle.records.specs.Job.{job_of, job_told}
use Rattle.alone.specs.Alone.{Left, alone_of}
use Rattle.alone.specs.declared.Ran.{Ran}
use Rattle.parts.specs.declared.Refusal.{Refusal}

-- "16 if the tables differ in length or exceed 64, then 5, 6, 7 and 8 as in begin"
unfoldable pub plain_told : List ℕ → List ℕ → ℕ → List ℕ → Told
plain_told values guards lock rec =
    first_of
    (refuse_if (length values isnt length guards or ltb most_words (length values)) NoWord ∷
    job_told rec lock guards ∷
    [])

-- the answer and the count of a job that ran
abbrev pub ran : Bool → ℕ → Ran
ran said n = record { yes = said; executed = n }

-- what is told of a job alone
abbrev pub ran_told : Left → Result Ran Refusal
ran_told left = Ok (ran left.yes left.executed)

-- what is told, by "the definition of a job alone", and the values then; a refused call changes none
unfoldable pub plain_of : List ℕ → List ℕ → ℕ → List ℕ → Result Ran Refusal
plain_of values guards lock rec =
    on_told (plain_told values guards lock rec) (ran_told (alone_of (job_of rec) values)) (λ r. Err r)

unfoldable pub plain_left : List ℕ → List ℕ → ℕ → List ℕ → List ℕ
plain_left values guards lock rec =
    on_told (plain_told values guards lock rec) (alone_of (job_of rec) values).words (λ r. values)
