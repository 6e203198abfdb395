-- Whole and even numbers: no two whole numbers are less than 1 apart, and no two even ones are 1 apart.
use mathlib.Core.Path.{◌≡◌}
use mathlib.Core.Logic.{◌⊎◌, inl, inr, ⊎_elim}
use Prim.Native.Nat.{ℕ, ◌+◌, ◌*◌, ◌/◌, ◌%◌, ◌≤◌}
use native.Mathlib.Decide.{dec_le}
use native.Mathlib.Omega.{arith}
use lib.Dec.{lit<}
use Rattle.meaning.specs.Fraction.{Fraction, ◌≼◌, ◌≺◌, ◌≈◌, ◌⊕◌, negated, whole, Whole, Even}
use Rattle.meaning.proofs.FractionLaws.{le_trans, le_lt_trans, lt_le_trans, eq_le, eq_ge, eq_trans, eq_sym, add_right}
use Rattle.points.proofs.SumLaws.{add_eq_right}

-- The whole number p - m.
abbrev pub difference : ℕ → ℕ → Fraction
difference p m = record { up = p; down = m; over = 1; positive = lit< tt }

-- A number is whole exactly if it is some p - m, and even exactly if it is some 2 * p - 2 * m.
pub whole_is : {r : Fraction} (w : Whole r) → r ≈ difference w.plus w.minus
whole_is w = record { eq = omega arith }

pub is_whole_lem : {r : Fraction} (p m : ℕ) → r ≈ difference p m → Whole r
is_whole_lem p m e = record { plus = p; minus = m; is = omega (arith, e.eq) }

pub even_is : {r : Fraction} (w : Even r) → r ≈ difference (2 * w.plus) (2 * w.minus)
even_is w = record { eq = omega arith }

pub is_even : {r : Fraction} (p m : ℕ) → r ≈ difference (2 * p) (2 * m) → Even r
is_even p m e = record { plus = p; minus = m; is = omega (arith, e.eq) }

pub even_whole : {r : Fraction} → Even r → Whole r
even_whole w = record { plus = 2 * w.plus; minus = 2 * w.minus; is = w.is }

pub whole_same : {r s : Fraction} → Whole r → r ≈ s → Whole s
whole_same w e = is_whole_lem w.plus w.minus (eq_trans (eq_sym e) (whole_is w))

pub even_same : {r s : Fraction} → Even r → r ≈ s → Even s
even_same w e = is_even w.plus w.minus (eq_trans (eq_sym e) (even_is w))

pub whole_negated : {r : Fraction} → Whole r → Whole (negated r)
whole_negated w = record { plus = w.minus; minus = w.plus; is = omega arith }

pub even_negated : {r : Fraction} → Even r → Even (negated r)
even_negated w = record { plus = w.minus; minus = w.plus; is = omega arith }

step : (p m q n : ℕ) → difference p m ≺ difference q n ⊕ whole 1 → difference p m ≼ difference q n
unfolding ◌⊕◌
step p m q n h = record { le = omega arith }

-- Of two whole numbers less than 1 apart the first is at most the second.
pub apart : {r s : Fraction} → Whole r → Whole s → r ≺ s ⊕ whole 1 → r ≼ s
apart w v h =
    le_trans (eq_le (whole_is w))
    (le_trans
    (step _ _ _ _ (le_lt_trans (eq_ge (whole_is w)) (lt_le_trans h (add_right (whole 1) (eq_le (whole_is v))))))
    (eq_ge (whole_is v)))

odd : (p m q n : ℕ) → difference (2 * p) (2 * m) ≈ difference (2 * q) (2 * n) ⊕ whole 1 → ⊥
unfolding ◌⊕◌
odd p m q n h = omega (arith, h.eq)

-- Two even numbers are not 1 apart.
pub not_both_even : {r s : Fraction} → Even r → Even s → r ≈ s ⊕ whole 1 → ⊥
not_both_even w v h =
    odd _ _ _ _ (eq_trans (eq_sym (even_is w)) (eq_trans h (add_eq_right (whole 1) (even_is v))))

parity : (n : ℕ) → (n ≡ 2 * (n / 2)) ⊎ (n ≡ 2 * (n / 2) + 1)
parity n = go (dec_le (n % 2) 0)
  where
    go : Dec (n % 2 ≤ 0) → (n ≡ 2 * (n / 2)) ⊎ (n ≡ 2 * (n / 2) + 1)
    go (yes h) = inl (omega arith)
    go (no h) = inr (omega arith)

even_below : (p m k : ℕ) → p + m ≡ 2 * k + 1 → difference p m ⊕ negated (whole 1) ≈ difference (2 * k) (2 * m)
unfolding ◌⊕◌
even_below p m k e = record { eq = omega arith }

-- A whole number is even, or the one below it is.
pub even_or_below : {r : Fraction} → Whole r → Even r ⊎ Even (r ⊕ negated (whole 1))
even_or_below w =
    let k : ℕ = (w.plus + w.minus) / 2 in
    ⊎_elim
    (λ e. inl (is_even k w.minus (eq_trans (whole_is w) (record { eq = omega arith }))))
    (λ e. inr (is_even k w.minus (eq_trans (add_eq_right (negated (whole 1)) (whole_is w)) (even_below _ _ k e))))
    (parity (w.plus + w.minus))
