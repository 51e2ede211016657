-- A history may be cut anywhere: what comes after the cut goes on from the state at the cut.
use mathlib.Core.Path.{◌≡◌, refl}
use mathlib.Core.List.{List, [], ◌∷◌, ◌++◌}
use Rattle.engine.specs.declared.Engine.{Engine}
use Rattle.past.specs.Past.{Call, after, after_all}

pub after_cut : (e : Engine) (h k : List Call) → after_all e (h ++ k) ≡ after_all (after_all e h) k
unfolding after_all
after_cut e [] k = refl
after_cut e (c ∷ h) k = after_cut (after e c) h k
