-- "0 begin, 1 step, 2 collect, 3 drop"
use Rattle.std.specs.Prelude.{ℕ, ◌<◌, ◌≡◌, Result, MatchResult}
use Rattle.parts.specs.declared.Refusal.{Refusal}
use Rattle.parts.specs.declared.Refusal.TheVariants.{CallRecord}
use Rattle.calls.specs.Record.{last_call}
use Rattle.calls.specs.declared.kind.CallKind.{CallKind}

abbrev pub kind_number : CallKind → ℕ
kind_number CallKind.Begin = 0
kind_number CallKind.Step = 1
kind_number CallKind.Collect = 2
kind_number CallKind.Drop = 3

-- the call of a number, or refusal 17
abbrev pub IsKind : ℕ → Result CallKind Refusal → Type 0
IsKind n r = MatchResult r (λ kind. kind_number kind ≡ n) (λ e. (last_call < n) × (e ≡ CallRecord))
