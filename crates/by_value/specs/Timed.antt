-- What the benchmark's calls on the engine by value come to.
use Rattle.std.specs.Prelude.{ℕ, zero, suc, ◌+◌, List, [], ◌∷◌}
use Rattle.parts.specs.Parts.{next32}
use Rattle.parts.specs.Told.{on_told}
use Rattle.parts.specs.Told.{Told}
use Rattle.engine.specs.Calls.{begin_of, step_of}
use Rattle.engine.specs.declared.Engine.{Engine}

-- n begins under lock 0, by worker w and those after it
unfoldable pub begun_from : ℕ → Engine → List ℕ → ℕ → Engine
begun_from zero e job w = e
begun_from (suc n) e job w = begun_from n (begin_of e w 0 job).engine job (w + 1)

-- one more where the step was accepted
unfoldable pub counted_of : Told → ℕ → ℕ
counted_of told n = on_told told (next32 n) (λ r. n)

-- the accepted steps of an order, with those before it
unfoldable pub accepted_from : Engine → List ℕ → ℕ → ℕ
accepted_from e [] n = n
accepted_from e (w ∷ ws) n = accepted_from (step_of e w).engine ws (counted_of (step_of e w).told n)
