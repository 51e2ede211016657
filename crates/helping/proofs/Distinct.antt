-- What the kinds of a sheet, and the holders of a lock, tell apart: used where a change can't touch a sheet or a lock.
use Rattle.std.specs.Prelude.{None, Option, Some}
use Prim.Native.Nat.{ℕ, ◌<◌}
use native.Mathlib.Omega.{arith}
use mathlib.Core.Path.{◌≡◌, sym, ap, ◌∙◌}
use mathlib.Core.Logic.{◌≢◌}
use Rattle.helping.specs.Ok.{Kind, unwon, current, past}

abbrev rank : Kind → ℕ
rank unwon = 0
rank current = 1
rank past = 2

-- a sheet that holds its lock, or has let go of it, has won it
pub won_kind : (κ : Kind) → 0 < rank κ → κ ≢ unwon
won_kind κ h e = omega (arith, h, ap rank e)

-- a free lock names no sheet
pub free_holds : (h : Option ℕ) (s : ℕ) → h ≡ None → h ≢ Some s
free_holds h s a b =
    let d : None ≡ Some s = sym a ∙ b in
    let z : ◌≡◌ {A = ℕ} 0 1 = cc in
    omega arith
