-- Which sheet a worker's step can touch, where on it, and which sheets a worker under way keeps in use.
mod Names
use Names.*
use Rattle.parts.specs.Pick.{◌or◌, on_option}
use Rattle.steps.specs.Worker.{on_state}

abbrev pub run_spot : Run → Spot
run_spot r = record { sheet = r.sheet; next = r.next; place = r.place }

abbrev pub own_spot : ℕ → Spot
own_spot own = record { sheet = own; next = 0; place = 0 }

-- a run's spot is the run's; before it, the worker's own sheet ("Read own done mark")
unfoldable pub spot_of : Point → ℕ → Spot
spot_of Look own = own_spot own
spot_of (Grab seen) own = own_spot own
spot_of (LookAgain won) own = own_spot own
spot_of (ReadMark seen won) own = own_spot own
spot_of (Point.Run r at) own = run_spot r

-- the sheet that is helped at a point, or run. "If another sheet holds it, that sheet counts as helped from now" (3); "run the
-- own sheet, and a sheet seen at 3 no longer counts as helped" (4)
unfoldable pub helped_of : Point → Option ℕ
helped_of Look = None
helped_of (Grab seen) = None
helped_of (LookAgain won) = None
helped_of (ReadMark seen won) = seen.holder
helped_of (Point.Run r at) = Some r.sheet

-- it is sheet s that is named
abbrev pub names : Option ℕ → ℕ → Bool
names h s = on_option h false (λ t. eqb t s)

-- "a worker under way has it as its own or as the one it helps"
abbrev pub keeps : Worker → ℕ → Bool
keeps k s = on_state k.state false (λ p. eqb k.own s or names (helped_of p) s) (λ x. false)
