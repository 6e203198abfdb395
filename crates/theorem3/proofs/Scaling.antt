-- Multiplying and dividing by a positive number.
use mathlib.Core.Bool.{Bool, true, false}
use mathlib.Core.Path.{◌≡◌, ap, subst⁻¹}
use mathlib.Core.Logic.{◌⊎◌, inl, inr, ⊎_elim}
use Prim.Native.Nat.{ℕ, suc, ◌+◌, ◌-◌, ◌*◌, ◌<◌}
use native.Mathlib.Nat.{eq-or-lt_of_le, le_of_lt}
use native.Mathlib.Omega.{arith}
use borrow.Author.Tests.{le-leb, lt-leb}
use lib.Dec.{leb}
use Rattle.patterns.proofs.ValueLaws.{le_or_lt as le-or-lt-nat}
use Rattle.meaning.specs.Fraction.{Fraction, ◌≼◌, ◌≺◌, ◌≈◌, ◌⊗◌, whole}
use Rattle.meaning.specs.Sets.{End, at, unbounded}
use Rattle.meaning.specs.Supremum.{AtMost, at_most, Supremum}
use Rattle.meaning.proofs.FractionLaws.{le_trans, lt_le, lt_not_le, eq_le, eq_trans, eq_sym, mul_right, mul_comm, mul_assoc, mul_one, mul_eq_left}
use Rattle.meaning.proofs.SupremumLaws.{at_most_lem, never_most}
use Rattle.theorem3.specs.Ends.{reciprocal, signed_over, product_end}

-- The distance of up and down, less one.
gap : Fraction → ℕ
gap y = (y.up - y.down) + (y.down - y.up) - 1

up_times : (y : Fraction) → y.down < y.up → signed_over true y.over (gap y) ⊗ y ≈ whole 1
unfolding ◌⊗◌ gap
up_times y h =
    let e : suc ((y.up - y.down) + (y.down - y.up) - 1) + y.down ≡ y.up = omega arith in
    record { eq = omega (arith, ap (λ (t : ℕ). y.over * t) e) }

down_times : (y : Fraction) → y.up < y.down → signed_over false y.over (gap y) ⊗ y ≈ whole 1
unfolding ◌⊗◌ gap
down_times y h =
    let e : suc ((y.up - y.down) + (y.down - y.up) - 1) + y.up ≡ y.down = omega arith in
    record { eq = omega (arith, ap (λ (t : ℕ). y.over * t) e) }

signed_recip : (y : Fraction) (t : Bool) → leb y.down y.up ≡ t → reciprocal y ≡ signed_over t y.over (gap y)
unfolding reciprocal gap
signed_recip y t e = ap (λ (t : Bool). signed_over t y.over ((y.up - y.down) + (y.down - y.up) - 1)) e

-- 1 / y times y is 1.
pub recip_times : (y : Fraction) → (y ≈ whole 0 → ⊥) → reciprocal y ⊗ y ≈ whole 1
recip_times y h = ⊎_elim below (⊎_elim same above) (sides y.down y.up)
  where
    sides : (m n : ℕ) → (n < m) ⊎ ((m ≡ n) ⊎ (m < n))
    sides m n = ⊎_elim (λ k. inr (⊎_elim (λ e. inl e) (λ l. inr l) (eq-or-lt_of_le k))) inl (le-or-lt-nat m n)

    above : y.down < y.up → reciprocal y ⊗ y ≈ whole 1
    above k =
        subst⁻¹ (λ (z : Fraction). z ⊗ y ≈ whole 1) (signed_recip y true (le-leb y.down y.up (le_of_lt k))) (up_times y k)

    below : y.up < y.down → reciprocal y ⊗ y ≈ whole 1
    below k = subst⁻¹ (λ (z : Fraction). z ⊗ y ≈ whole 1) (signed_recip y false (lt-leb y.down y.up k)) (down_times y k)

    same : y.down ≡ y.up → reciprocal y ⊗ y ≈ whole 1
    same e = absurd (h (record { eq = omega arith }))

-- The reciprocal of a positive number is positive, and of a negative one negative.
pub recip_positive : (y : Fraction) → whole 0 ≺ y → whole 0 ≺ reciprocal y
recip_positive y p =
    subst⁻¹ (λ (z : Fraction). whole 0 ≺ z) (signed_recip y true (le-leb y.down y.up (omega (arith, p.lt))))
    (record { lt = omega (arith, y.positive) })

-- x * y ≤ w gives x ≤ w / y, and back, for a positive y.
pub divide : (x y w : Fraction) → whole 0 ≺ y → x ⊗ y ≼ w → x ≼ w ⊗ reciprocal y
divide x y w p h =
    let z = reciprocal y in
    let e : x ≈ x ⊗ y ⊗ z =
    eq_sym
    (eq_trans (mul_assoc x y z)
    (eq_trans (mul_eq_left x (eq_trans (mul_comm y z) (recip_times y (λ n. lt_not_le p (eq_le n))))) (mul_one x))) in
    le_trans (eq_le e) (mul_right z (lt_le (recip_positive y p)) h)

pub multiply : (x y w : Fraction) → whole 0 ≺ y → x ≼ w ⊗ reciprocal y → x ⊗ y ≼ w
multiply x y w p h =
    let z = reciprocal y in
    let e : w ⊗ z ⊗ y ≈ w =
    eq_trans (mul_assoc w z y) (eq_trans (mul_eq_left w (recip_times y (λ n. lt_not_le p (eq_le n)))) (mul_one w)) in
    le_trans (mul_right y (lt_le p) h) (eq_le e)

-- A bound of the multiples of a set by a positive number bounds the multiple of its true upper bound.
pub scaled : {A : Fraction → Type 0} (u : End) (y w : Fraction) → whole 0 ≺ y → Supremum A u
    → ((x : Fraction) → A x → x ⊗ y ≼ w) → AtMost w (product_end u (at y))
scaled (at q) y w p s h = at_most (multiply q y w p (at_most_lem (s.least (w ⊗ reciprocal y) (λ x m. divide x y w p (h x m)))))
scaled unbounded y w p s h = absurd (never_most (s.least (w ⊗ reciprocal y) (λ x m. divide x y w p (h x m))))
