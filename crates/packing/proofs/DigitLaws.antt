-- Digits too many and too few, by how many there are.
use mathlib.Core.Path.{◌≡◌, refl, sym, ◌∙◌, ap, subst}
use mathlib.Core.Logic.{inl, inr, ⊎_elim}
use Prim.Native.Nat.{ℕ, zero-le, ◌+◌, ◌-◌, ◌*◌, ◌^◌, ◌<◌, ◌≤◌}
use native.Mathlib.Nat.{div-le_self, le-div_iff_mul-le, le_trans, lt_irrefl, lt_of_le_of_lt, lt_of_lt_of_le, lt_of_not-le, mul-le-mul_right, mul-one, pow-suc}
use native.Mathlib.Omega.{arith}
use lib.Count.{count_leading_zeros, leading_length}
use lib.Pow.{pow-add, pow_mono, pow_pos, shl_lt, shr_lt}
use Rattle.patterns.proofs.ValueLaws.{le_or_lt}
use Rattle.packing.specs.Digits.{Excess, Missing}

-- m has k binary digits, the first of which is not 0; 0 has none.
pub record Digits (m k : ℕ) : Type 0 where
  pub below : m < 2 ^ k
  pub first : 0 < k → 2 ^ (k - 1) ≤ m

-- A word's digits are those that are not leading zeros.
pub counted : (m : ℕ) → m < 2 ^ 64 → (k : ℕ) × (count_leading_zeros 64 m + k ≡ 64) × Digits m k
counted m word =
    let (k, all, below, first) = leading_length 64 m word in
    (k, all, record { below = below; first = halved k first })
  where
    halved : (k : ℕ) → 2 ^ k ≤ 2 * m + 1 → 0 < k → 2 ^ (k - 1) ≤ m
    halved k first some =
        let twice : 2 ^ k ≡ 2 ^ (k - 1) * 2 = ap (λ (j : ℕ). 2 ^ j) (omega arith) ∙ pow-suc 2 (k - 1) in
        omega (arith, twice)

-- Only 0 has no digit.
some_digit : {m k : ℕ} → Digits m k → 0 < m → 0 < k
some_digit {m} digits some = lt_of_not-le (λ none. lt_irrefl m (lt_of_lt_of_le (lt_of_lt_of_le digits.below (pow_mono {j = 0} none)) some))

module _ {frac m k : ℕ} (digits : Digits m k) where
  -- s digits more than all.
  longer : (s : ℕ) → s < 64 → k ≡ frac + 1 + s → Excess frac m s
  longer s small more = record {
    small = small;
    short = shr_lt (frac + 1) s (subst (λ (j : ℕ). m < 2 ^ j) more digits.below);
    full = inr ((le-div_iff_mul-le (pow_pos s)).1 (subst (λ (j : ℕ). j ≤ m) (ap (λ (j : ℕ). 2 ^ j) (omega arith) ∙ pow-add 2 frac s) (digits.first (omega arith))));
  }

  not_longer : k ≤ frac + 1 → Excess frac m 0
  not_longer few = record {
    small = omega arith;
    short = lt_of_le_of_lt (div-le_self m (2 ^ 0)) (lt_of_lt_of_le digits.below (pow_mono few));
    full = inl refl;
  }

  -- s digits less than all.
  shorter : (s : ℕ) → 0 < m → k + s ≡ frac + 1 → Missing frac m s
  shorter s some less = record {
    few = omega (arith, some_digit digits some);
    full = subst (λ (j : ℕ). j ≤ m * 2 ^ s) (sym (pow-add 2 (k - 1) s) ∙ ap (λ (j : ℕ). 2 ^ j) (omega (arith, some_digit digits some))) (mul-le-mul_right (2 ^ s) (digits.first (some_digit digits some)));
    short = inr (subst (λ (j : ℕ). m * 2 ^ s < 2 ^ j) less (shl_lt k s digits.below));
  }

  not_shorter : frac + 1 ≤ k → Missing frac m 0
  not_shorter enough = record {
    few = zero-le;
    full = le_trans (pow_mono {i = frac} (omega arith)) (subst (λ (j : ℕ). 2 ^ (k - 1) ≤ j) (sym (mul-one m)) (digits.first (omega arith)));
    short = inl refl;
  }

  -- As many as there are more or less than all.
  pub excess : (z : ℕ) → z + k ≡ 64 → Excess frac m (64 - (frac + 1) - z)
  excess z all = ⊎_elim (λ few. subst (Excess frac m) (omega arith) (not_longer few)) (λ many. longer _ (omega arith) (omega arith)) (le_or_lt k (frac + 1))

  pub missing : (z : ℕ) → frac ≤ 52 → 0 < m → z + k ≡ 64 → Missing frac m (z - (64 - (frac + 1)))
  missing z narrow some all = ⊎_elim (λ enough. subst (Missing frac m) (omega arith) (not_shorter enough)) (λ few. shorter _ some (omega arith)) (le_or_lt (frac + 1) k)
