-- The significand and the exponent of a pattern, from its exponent field.
use mathlib.Core.Path.{◌≡◌, refl, ◌∙◌, ap}
use mathlib.Core.Logic.{◌⊎◌, inl, inr}
use Prim.Native.Nat.{ℕ, ◌+◌, ◌*◌, ◌/◌, ◌^◌, ◌<◌, ◌≤◌}
use native.Mathlib.Nat.{le_of_lt, mod-lt}
use native.Mathlib.Omega.{arith}
use lib.Pow.{pow_pos, split}
use Rattle.patterns.specs.Value.{value}
use Rattle.patterns.proofs.ValueLaws.{packed, pow_next}
use Rattle.packing.specs.Magnitude.{Unpacks}

-- A fine and short significand at an exponent is what its packed pattern unpacks to.
unpacks_packed : (frac b significand exponent : ℕ) → b ≡ exponent * 2 ^ frac + significand
    → (exponent ≡ 0) ⊎ (2 ^ frac ≤ significand) → significand < 2 ^ (frac + 1) → Unpacks frac b significand exponent
unpacks_packed frac b significand exponent pattern fine short = record {
  pattern = pattern;
  worth = ap (value frac) pattern ∙ packed frac exponent significand fine (le_of_lt short);
  short = short;
  fine = fine;
}

pub unpacks_subnormal : (frac b : ℕ) → b / 2 ^ frac ≡ 0 → Unpacks frac b b 0
unpacks_subnormal frac b none =
    let high : b / 2 ^ frac * 2 ^ frac ≡ 0 = ap (λ (e : ℕ). e * 2 ^ frac) none ∙ omega arith in
    unpacks_packed frac b b 0 (omega arith) (inl refl) (omega (arith, split b frac, mod-lt b (pow_pos frac), pow_next frac))

-- A normal number has its first digit in front of the fraction.
pub unpacks_normal : (frac b fraction exponent : ℕ) → b / 2 ^ frac ≡ exponent + 1 → b / 2 ^ frac * 2 ^ frac + fraction ≡ b
    → Unpacks frac b (2 ^ frac + fraction) exponent
unpacks_normal frac b fraction exponent field pattern =
    let high : b / 2 ^ frac * 2 ^ frac ≡ (exponent + 1) * 2 ^ frac = ap (λ (e : ℕ). e * 2 ^ frac) field in
    unpacks_packed frac b (2 ^ frac + fraction) exponent (omega arith)
    (inr (omega arith))
    (omega (arith, split b frac, mod-lt b (pow_pos frac), pow_next frac))
