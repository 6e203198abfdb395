-- Order, sum and product of fractions. Each law is a polynomial inequality over ℕ.
use mathlib.Core.Path.{refl, ap}
use mathlib.Core.Logic.{◌⊎◌, inl, inr}
use Prim.Native.Nat.{ℕ, ◌+◌, ◌*◌, ◌≤◌}
use native.Mathlib.Nat.{mul-le-mul_right, le_of_mul-le-mul_right, mul-lt-mul_of_pos_right, lt_of_mul-lt-mul_right, le_dest}
use native.Mathlib.Decide.{dec_le}
use native.Mathlib.Omega.{arith}
use Rattle.meaning.specs.Fraction.{Fraction, ◌≼◌, ◌≺◌, ◌≈◌, ◌⊕◌, ◌⊗◌, negated, whole}

pub le_refl : (x : Fraction) → x ≼ x
le_refl x = record { le = omega arith }

pub le_trans : {x y z : Fraction} → x ≼ y → y ≼ z → x ≼ z
le_trans {x} {y} {z} h k =
    record {
      le =
          le_of_mul-le-mul_right (omega (arith, mul-le-mul_right z.over h.le, mul-le-mul_right x.over k.le))
          y.positive;
    }

pub lt_le_trans : {x y z : Fraction} → x ≺ y → y ≼ z → x ≺ z
lt_le_trans {x} {y} {z} h k =
    record {
      lt =
          lt_of_mul-lt-mul_right y.over
          (omega (arith, mul-lt-mul_of_pos_right h.lt z.positive, mul-le-mul_right x.over k.le));
    }

pub le_lt_trans : {x y z : Fraction} → x ≼ y → y ≺ z → x ≺ z
le_lt_trans {x} {y} {z} h k =
    record {
      lt =
          lt_of_mul-lt-mul_right y.over
          (omega (arith, mul-le-mul_right z.over h.le, mul-lt-mul_of_pos_right k.lt x.positive));
    }

pub lt_le : {x y : Fraction} → x ≺ y → x ≼ y
lt_le h = record { le = omega arith }

pub lt_not_le : {x y : Fraction} → x ≺ y → y ≼ x → ⊥
lt_not_le h k = omega arith

pub le_or_lt : (x y : Fraction) → (x ≼ y) ⊎ (y ≺ x)
le_or_lt x y = go (dec_le (x.up * y.over + y.down * x.over) (y.up * x.over + x.down * y.over))
  where
    go : Dec (x.up * y.over + y.down * x.over ≤ y.up * x.over + x.down * y.over) → (x ≼ y) ⊎ (y ≺ x)
    go (yes h) = inl (record { le = h })
    go (no h) = inr (record { lt = omega arith })

pub not_lt : {x y : Fraction} → (x ≺ y → ⊥) → y ≼ x
not_lt {x} {y} h = go (le_or_lt y x)
  where
    go : (y ≼ x) ⊎ (x ≺ y) → y ≼ x
    go (inl k) = k
    go (inr k) = absurd (h k)

pub not_le : {x y : Fraction} → (x ≼ y → ⊥) → y ≺ x
not_le {x} {y} h = go (le_or_lt x y)
  where
    go : (x ≼ y) ⊎ (y ≺ x) → y ≺ x
    go (inl k) = absurd (h k)
    go (inr k) = k

pub eq_refl : (x : Fraction) → x ≈ x
eq_refl x = record { eq = refl }

pub eq_sym : {x y : Fraction} → x ≈ y → y ≈ x
eq_sym h = record { eq = omega arith }

pub eq_le : {x y : Fraction} → x ≈ y → x ≼ y
eq_le h = record { le = omega arith }

pub eq_ge : {x y : Fraction} → x ≈ y → y ≼ x
eq_ge h = record { le = omega arith }

pub antisymm : {x y : Fraction} → x ≼ y → y ≼ x → x ≈ y
antisymm h k = record { eq = omega arith }

pub eq_trans : {x y z : Fraction} → x ≈ y → y ≈ z → x ≈ z
eq_trans h k = antisymm (le_trans (eq_le h) (eq_le k)) (le_trans (eq_ge k) (eq_ge h))

pub le_or_le : (x y : Fraction) → (x ≼ y) ⊎ (y ≼ x)
le_or_le x y = go (le_or_lt x y)
  where
    go : (x ≼ y) ⊎ (y ≺ x) → (x ≼ y) ⊎ (y ≼ x)
    go (inl h) = inl h
    go (inr h) = inr (lt_le h)

pub neg_le : {x y : Fraction} → x ≼ y → negated y ≼ negated x
neg_le h = record { le = omega arith }

pub neg_lt : {x y : Fraction} → x ≺ y → negated y ≺ negated x
neg_lt h = record { lt = omega arith }

pub neg_eq : {x y : Fraction} → x ≈ y → negated x ≈ negated y
neg_eq h = record { eq = omega arith }

pub add_comm : (x y : Fraction) → x ⊕ y ≈ y ⊕ x
unfolding ◌⊕◌
add_comm x y = record { eq = omega arith }

pub mul_comm : (x y : Fraction) → x ⊗ y ≈ y ⊗ x
unfolding ◌⊗◌
mul_comm x y = record { eq = omega arith }

-- x + y ≤ w exactly if y ≤ w - x.
pub add_galois : (x y w : Fraction) → x ⊕ y ≼ w → y ≼ w ⊕ negated x
unfolding ◌⊕◌
add_galois x y w h = record { le = omega (arith, h.le) }

pub add_galois⁻¹ : (x y w : Fraction) → y ≼ w ⊕ negated x → x ⊕ y ≼ w
unfolding ◌⊕◌
add_galois⁻¹ x y w h = record { le = omega (arith, h.le) }

pub add_right : (y : Fraction) {x z : Fraction} → x ≼ z → x ⊕ y ≼ z ⊕ y
unfolding ◌⊕◌
add_right y {x} {z} h = record { le = omega (arith, mul-le-mul_right (y.over * y.over) h.le) }

pub add_left : (x : Fraction) {y w : Fraction} → y ≼ w → x ⊕ y ≼ x ⊕ w
unfolding ◌⊕◌
add_left x {y} {w} h = record { le = omega (arith, mul-le-mul_right (x.over * x.over) h.le) }

pub add_mono : {x y z w : Fraction} → x ≼ z → y ≼ w → x ⊕ y ≼ z ⊕ w
add_mono {x} {y} {z} {w} h k = le_trans (add_right y h) (add_left z k)

rearranged : (a k c j : ℕ) → a * (c + j) + (a + k) * c ≤ a * c + (a + k) * (c + j)
rearranged a k c j = omega arith

-- Two pairs in order: crossed products come to no more than straight ones.
pub rearrange : {a b c d : ℕ} → a ≤ b → c ≤ d → a * d + b * c ≤ a * c + b * d
rearrange {a} {b} {c} {d} h k = rw (← (le_dest h).1, ← (le_dest k).1) (rearranged a (le_dest h).0 c (le_dest k).0)

-- A product with a number that is not negative keeps the order.
pub mul_right : (y : Fraction) {x z : Fraction} → whole 0 ≼ y → x ≼ z → x ⊗ y ≼ z ⊗ y
unfolding ◌⊗◌
mul_right y {x} {z} p h =
    record { le = omega (arith, mul-le-mul_right y.over (rearrange {c = y.down} {d = y.up} h.le (omega (arith, p.le)))) }

pub mul_left : (x : Fraction) {y w : Fraction} → whole 0 ≼ x → y ≼ w → x ⊗ y ≼ x ⊗ w
mul_left x {y} {w} p h = le_trans (eq_le (mul_comm x y)) (le_trans (mul_right x p h) (eq_le (mul_comm w x)))

pub mul_eq_right : (y : Fraction) {x z : Fraction} → x ≈ z → x ⊗ y ≈ z ⊗ y
unfolding ◌⊗◌
mul_eq_right y {x} {z} h =
    record { eq = omega (arith, ap (λ (t : ℕ). t * (y.up * y.over)) h.eq, ap (λ (t : ℕ). t * (y.down * y.over)) h.eq) }

pub mul_eq_left : (x : Fraction) {y w : Fraction} → y ≈ w → x ⊗ y ≈ x ⊗ w
mul_eq_left x {y} {w} h = eq_trans (mul_comm x y) (eq_trans (mul_eq_right x h) (mul_comm w x))

pub mul_assoc : (x y z : Fraction) → x ⊗ y ⊗ z ≈ x ⊗ (y ⊗ z)
unfolding ◌⊗◌
mul_assoc x y z = record { eq = omega arith }

pub mul_zero : (x : Fraction) → x ⊗ whole 0 ≈ whole 0
unfolding ◌⊗◌
mul_zero x = record { eq = omega arith }

pub mul_one : (x : Fraction) → x ⊗ whole 1 ≈ x
unfolding ◌⊗◌
mul_one x = record { eq = omega arith }
