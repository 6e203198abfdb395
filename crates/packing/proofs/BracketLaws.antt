-- Brackets of values that are cut nowhere.
use mathlib.Core.Bool.{Bool, true}
use mathlib.Core.Path.{◌≡◌}
use Prim.Native.Nat.{ℕ, ◌*◌, ◌^◌, ◌<◌}
use native.Mathlib.Nat.{mul-pos}
use native.Mathlib.Omega.{arith}
use lib.Pow.{pow_pos}
use Rattle.packing.specs.Bracket.{Brackets}

-- A significand and an exponent that are worth n / d bracket it.
pub exact_brackets : (n d m e : ℕ) {x : Bool} → 0 < d → x ≡ true → m * 2 ^ e * d ≡ n → Brackets n d m e x
exact_brackets n d m e some exact is =
    let unit : 0 < 2 ^ e * d = mul-pos (pow_pos e) some in
    record { low = omega arith; high = omega arith; told = (λ _. is, λ _. exact) }
