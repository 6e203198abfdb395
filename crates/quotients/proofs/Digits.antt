-- One turn of long division, of a remainder r by b, with the numbers as the code has them.
use mathlib.Core.Path.{◌≡◌, ap}
use Prim.Native.Nat.{ℕ, ◌+◌, ◌-◌, ◌*◌, ◌/◌, ◌%◌, ◌^◌, ◌<◌}
use native.Mathlib.Nat.{div-add-mod', mod-lt}
use native.Mathlib.Omega.{arith}

-- the divisor's upper digits, rounded up
abbrev pub upper : ℕ → ℕ
upper b = b / 2 ^ 21 + 1

-- what the rounding added
abbrev pub added : ℕ → ℕ
added b = upper b * 2 ^ 21 % 2 ^ 64 - b

-- the remainder with nine bits appended
abbrev pub wide : ℕ → ℕ
wide r = r * 2 ^ 9 % 2 ^ 64

-- the two shifts lose nothing, so that a turn multiplies by 2 ^ 30
value_kept : (b r u a w q x y : ℕ) → b + a ≡ u * 2 ^ 21 → w ≡ r * 2 ^ 9 → x ≡ q * 2 ^ 30 → y ≡ w % u * 2 ^ 21
    → (x + w / u) * b + (y + w / u * a) ≡ (q * b + r) * 2 ^ 30
value_kept b r u a w q x y whole shifted first second = omega (arith, ap (λ (n : ℕ). n * b) first, ap (λ (n : ℕ). w / u * n) whole, div-add-mod' w u)

pub turned : (q b r : ℕ) → q < 2 ^ 32 → b < 2 ^ 53 → r < 3 * b
    → (q * 2 ^ 30 % 2 ^ 64 + wide r / upper b) * b + (wide r % upper b * 2 ^ 21 % 2 ^ 64 + wide r / upper b * added b) ≡ (q * b + r) * 2 ^ 30
turned q b r few short small =
    value_kept b r (upper b) (added b) (wide r) q _ _ (omega arith) (omega arith) (omega arith) (omega (arith, mod-lt (wide r) {m = upper b} (omega arith)))
