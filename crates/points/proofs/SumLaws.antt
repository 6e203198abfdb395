-- Order and equality of sums, and of sums with 1 and 1/2.
use native.Mathlib.Nat.{mul-pos}
use native.Mathlib.Omega.{arith}
use Rattle.meaning.specs.Fraction.{Fraction, ◌≼◌, ◌≺◌, ◌≈◌, ◌⊕◌, negated, whole, half}
use Rattle.meaning.proofs.FractionLaws.{eq_le, eq_ge, antisymm, add_right}

pub add_eq_right : (y : Fraction) {x z : Fraction} → x ≈ z → x ⊕ y ≈ z ⊕ y
add_eq_right y e = antisymm (add_right y (eq_le e)) (add_right y (eq_ge e))

-- r < x + y exactly if -x < -r + y, and so for the other relations.
pub lt_mirror : (y : Fraction) {r x : Fraction} → r ≺ x ⊕ y → negated x ≺ negated r ⊕ y
unfolding ◌⊕◌
lt_mirror y h = record { lt = omega (arith, h.lt) }

pub le_mirror : (y : Fraction) {r x : Fraction} → r ≼ x ⊕ y → negated x ≼ negated r ⊕ y
unfolding ◌⊕◌
le_mirror y h = record { le = omega (arith, h.le) }

pub eq_mirror : (y : Fraction) {r x : Fraction} → r ≈ x ⊕ y → negated x ≈ negated r ⊕ y
unfolding ◌⊕◌
eq_mirror y h = record { eq = omega (arith, h.eq) }

-- r + y = x exactly if r = x - y.
pub sub_is : (x y : Fraction) {r : Fraction} → r ⊕ y ≈ x → r ≈ x ⊕ negated y
unfolding ◌⊕◌
sub_is x y h = record { eq = omega (arith, h.eq) }

pub is_sub : (x y : Fraction) {r : Fraction} → r ≈ x ⊕ negated y → r ⊕ y ≈ x
unfolding ◌⊕◌
is_sub x y h = record { eq = omega (arith, h.eq) }

pub lt_one : (x : Fraction) → x ≺ x ⊕ whole 1
unfolding ◌⊕◌
lt_one x = record { lt = omega (arith, mul-pos x.positive x.positive) }

pub lt_half : (x : Fraction) → x ≺ x ⊕ half
unfolding ◌⊕◌
lt_half x = record { lt = omega (arith, mul-pos x.positive x.positive) }

pub half_lt_one : (x : Fraction) → x ⊕ half ≺ x ⊕ whole 1
unfolding ◌⊕◌
half_lt_one x = record { lt = omega (arith, mul-pos x.positive x.positive) }

pub two_halves : (x : Fraction) → x ⊕ half ⊕ half ≈ x ⊕ whole 1
unfolding ◌⊕◌
two_halves x = record { eq = omega arith }

-- What is said of x + 1/2 and r + 1 is said of x and r + 1/2.
pub half_less : (x r : Fraction) → x ⊕ half ≺ r ⊕ whole 1 → x ≺ r ⊕ half
unfolding ◌⊕◌
half_less x r h = record { lt = omega (arith, h.lt) }

pub half_cancel : (x r : Fraction) → x ⊕ whole 1 ≼ r ⊕ half → x ⊕ half ≼ r
unfolding ◌⊕◌
half_cancel x r h = record { le = omega (arith, h.le) }

pub half_below : (x r : Fraction) → x ⊕ half ≼ r → x ≼ r ⊕ negated (whole 1) ⊕ half
unfolding ◌⊕◌
half_below x r h = record { le = omega (arith, h.le) }

pub below_le : (r : Fraction) → r ⊕ negated (whole 1) ≼ r
unfolding ◌⊕◌
below_le r = record { le = omega arith }
