-- Doubles taken apart and brought to full length.
use mathlib.Core.Logic.{⊎_elim}
use mathlib.Core.Path.{◌≡◌, sym, ap, subst, ◌∙◌}
use Prim.Native.Nat.{ℕ, ◌+◌, ◌*◌, ◌^◌, ◌<◌, ◌≤◌}
use native.Mathlib.Nat.{eq_of_mul-eq-mul_right, mul_assoc, mul-le-mul, mul-one}
use native.Mathlib.Omega.{arith}
use lib.Pow.{pow-add, pow_mono, pow_pos}
use Rattle.packing.specs.Magnitude.{Unpacks, Normalised}
use Rattle.patterns.specs.Value.{value}
use Rattle.significands.specs.Normal.{Full, Worth}

-- a pattern that is not 0 has a significand that is not
pub unpacked_positive : {b m e : ℕ} → Unpacks 52 b m e → 0 < b → 0 < m
unpacked_positive u some = let pattern = u.pattern in ⊎_elim (λ none. omega arith) (λ full. omega arith) u.fine

unpacked_worth : {b m e : ℕ} → Unpacks 52 b m e → value 52 b * 2 ^ 52 ≡ m * 2 ^ (e + 52)
unpacked_worth {b} {m} {e} u = ap (λ (v : ℕ). v * 2 ^ 52) u.worth ∙ mul_assoc m (2 ^ e) (2 ^ 52) ∙ ap (λ (p : ℕ). m * p) (sym (pow-add 2 e 52))

pub normal_worth : {b m e m' e' : ℕ} → Unpacks 52 b m e → Normalised 52 m (e + 52) m' e' → Worth (value 52 b) m' e'
normal_worth u normal = unpacked_worth u ∙ sym normal.worth

-- an exponent that counts from 2 ^ -52 of the unit lasts until the significand has all its digits
module _ {b m e m' e' : ℕ} (some : 0 < b) (near : e < 2 ^ 11) (u : Unpacks 52 b m e) (normal : Normalised 52 m (e + 52) m' e') where
  bottom : e' ≡ 0 → 2 ^ 52 ≤ m'
  bottom none =
      let worth : m' ≡ m * 2 ^ (e + 52) = sym (mul-one m') ∙ ap (λ (k : ℕ). m' * 2 ^ k) (sym none) ∙ normal.worth in
      omega (arith, mul-le-mul {n₁ = 1} {m₁ = 2 ^ 52} {n₂ = m} {m₂ = 2 ^ (e + 52)} (unpacked_positive u some) (pow_mono {i = 52} (omega arith)))

  unshifted : e' ≡ e + 52 → m' < 2 ^ 53
  unshifted same =
      let whole : m' ≡ m = eq_of_mul-eq-mul_right (2 ^ (e + 52)) (pow_pos (e + 52)) m' m (ap (λ (k : ℕ). m' * 2 ^ k) (sym same) ∙ normal.worth) in
      subst (λ (k : ℕ). k < 2 ^ 53) (sym whole) u.short

  pub normal_full : Full m' e'
  normal_full = record {
    least = ⊎_elim bottom (λ full. full) normal.fine;
    short = ⊎_elim unshifted (λ short. short) normal.lowered.short;
    near = let lower = normal.lowered.lower in omega arith;
  }
