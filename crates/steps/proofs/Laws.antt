-- What the case of a state, of what an instruction asks and of what follows picks.
use Rattle.std.proofs.Common.{◌≡◌}
use Rattle.parts.specs.declared.Answer.{Answer}
use Rattle.steps.specs.Worker.{on_state}
use Rattle.steps.specs.declared.Point.{Point}
use Rattle.steps.specs.declared.State.{State}
use Rattle.steps.specs.declared.State.TheVariants.{Idle, UnderWay, Finished}

pub state_idle : {A : Type 0} (s : State) (x a : A) (f : Point → A) (g : Answer → A) → s ≡ Idle → x ≡ a → x ≡ on_state s a f g
state_idle s x a f g q e = simp q e

pub state_way : {A : Type 0} (s : State) (p : Point) (x a : A) (f : Point → A) (g : Answer → A) → s ≡ UnderWay p → x ≡ f p → x ≡ on_state s a f g
state_way s p x a f g q e = simp q e

pub state_end : {A : Type 0} (s : State) (w : Answer) (x a : A) (f : Point → A) (g : Answer → A) → s ≡ Finished w → x ≡ g w → x ≡ on_state s a f g
state_end s w x a f g q e = simp q e

pub ruleset states = (state_idle, state_way, state_end)
