-- Significands that are shifted left until they have all digits, or as far as their exponents go.
use mathlib.Core.Logic.{inl, inr, ⊎_elim}
use mathlib.Core.Path.{◌≡◌, sym, ◌∙◌, ap, subst}
use Prim.Native.Nat.{ℕ, min, ◌+◌, ◌-◌, ◌*◌, ◌%◌, ◌^◌, ◌<◌, ◌≤◌}
use native.Mathlib.Nat.{lt_of_le_of_lt, lt_of_lt_of_le, mod-eq_of_lt, mul_assoc, mul-le-mul_left, mul-one}
use native.Mathlib.Omega.{arith}
use lib.Pow.{pow-add, pow_mono}
use Rattle.patterns.proofs.ValueLaws.{le_or_lt}
use Rattle.packing.specs.Digits.{Missing}
use Rattle.packing.specs.Magnitude.{Raises}

-- What the significand gains, the exponent loses.
same_worth : (m e k : ℕ) → k ≤ e → m * 2 ^ k * 2 ^ (e - k) ≡ m * 2 ^ e
same_worth m e k within =
    mul_assoc m (2 ^ k) (2 ^ (e - k)) ∙ ap (λ (j : ℕ). m * j) (sym (pow-add 2 k (e - k)) ∙ ap (λ (j : ℕ). 2 ^ j) (omega arith))

-- A shift as far as digits are missing, or as far as the exponent goes where that is less.
pub raises : {frac m e s k : ℕ} → frac ≤ 52 → Missing frac m s → k ≡ min s e → Raises frac m e k
raises {frac} {m} {e} {s} {k} narrow missing least = record {
  small = omega (arith, missing.few);
  within = within;
  normalised = record {
    worth = same_worth m e k within;
    fine = ⊎_elim (λ all. inr (subst (λ (j : ℕ). 2 ^ frac ≤ m * 2 ^ j) {x = s} (omega arith) missing.full)) (λ spent. inl (omega arith)) (le_or_lt s e);
    lowered = record { lower = omega arith; short = ⊎_elim (λ none. inl (omega arith)) (λ few. inr (lt_of_le_of_lt (mul-le-mul_left m (pow_mono (omega arith))) few)) missing.short };
  };
}
  where
    within : k ≤ e
    within = omega arith

-- A significand that was shifted has no digit too many, so that it stays in the word.
pub stays : {frac m e k : ℕ} → frac ≤ 52 → m < 2 ^ 64 → Raises frac m e k → (m * 2 ^ k) % 2 ^ 64 ≡ m * 2 ^ k
stays {frac} {m} {e} {k} narrow word raised = mod-eq_of_lt (⊎_elim unshifted shifted raised.normalised.lowered.short)
  where
    unshifted : e - k ≡ e → m * 2 ^ k < 2 ^ 64
    unshifted none =
        let within = raised.within in
        subst (λ (j : ℕ). m * 2 ^ j < 2 ^ 64) {x = 0} (omega arith) (subst (λ (j : ℕ). j < 2 ^ 64) (sym (mul-one m)) word)

    shifted : m * 2 ^ k < 2 ^ (frac + 1) → m * 2 ^ k < 2 ^ 64
    shifted short = lt_of_lt_of_le short (pow_mono {j = 64} (omega arith))
