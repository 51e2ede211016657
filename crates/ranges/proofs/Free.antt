-- Request 06: the sheet that begin takes of a state in its ranges is free, and the lowest that is, since a worker is idle then.
use Prim.Native.Nat.{ℕ, ◌<◌}
use native.Mathlib.Omega.{arith}
use mathlib.Core.Path.{◌≡◌}
use mathlib.Core.Bool.{true, false}
use mathlib.Core.List.{List}
use Rattle.parts.specs.Numbers.{workers}
use Rattle.sheets.proofs.Room.{takes_lowest}
use Rattle.steps.specs.declared.State.TheVariants.{Idle}
use Rattle.engine.specs.Inner.{Begins}
use Rattle.engine.specs.State.{worker_at, in_use, free_sheet}
use Rattle.engine.specs.declared.Engine.{Engine}
use Rattle.past.proofs.Accepted.{idle_of}
use Rattle.ranges.specs.Good.{Good}

pub free_lowest :
    (e : Engine) → Good e → (w : ℕ) → w < workers → (worker_at e w).state ≡ Idle →
    (in_use e (free_sheet e) ≡ false) × ((j : ℕ) → j < free_sheet e → in_use e j ≡ true)
free_lowest e g w h i =
    let locks = g.lengths.lock in
    let ks = g.lengths.worker in
    takes_lowest e.lock e.worker w (omega arith) i (omega arith)

pub begins_free : (e : Engine) → Good e → (w l : ℕ) (rec : List ℕ) → Begins e w l rec → in_use e (free_sheet e) ≡ false
begins_free e g w l rec b = (free_lowest e g w b.worker (idle_of (worker_at e w) b.idle)).0
