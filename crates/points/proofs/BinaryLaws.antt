-- The laws of max and min, each the mirror of the other, and of differences and quotients.
use mathlib.Core.Path.{◌≡◌, ap}
use mathlib.Core.Logic.{inl, inr, ⊎_elim}
use Prim.Native.Nat.{ℕ, ◌+◌, ◌*◌, ◌-◌, ◌<◌}
use native.Mathlib.Omega.{arith}
use Rattle.meaning.specs.Fraction.{Fraction, ◌≼◌, ◌≺◌, ◌≈◌, ◌⊗◌, negated, whole}
use Rattle.meaning.specs.Points.{Max, Min, Quotient}
use Rattle.meaning.proofs.FractionLaws.{le_refl, le_trans, le_or_lt, le_or_le, eq_refl, eq_le, eq_sym, eq_trans, antisymm, neg_le, neg_lt, neg_eq, mul_comm, mul_assoc, mul_one, mul_eq_left, mul_eq_right}

pub max_min : {x y r : Fraction} → Max x y r → Min (negated x) (negated y) (negated r)
max_min m = record {
  is_one = ⊎_elim (λ e. inl (neg_eq e)) (λ e. inr (neg_eq e)) m.is_one;
  first = neg_le m.first;
  second = neg_le m.second;
}

pub min_max : {x y r : Fraction} → Min x y r → Max (negated x) (negated y) (negated r)
min_max m = record {
  is_one = ⊎_elim (λ e. inl (neg_eq e)) (λ e. inr (neg_eq e)) m.is_one;
  first = neg_le m.first;
  second = neg_le m.second;
}

-- A greater operand on either side has no lesser result.
pub max_rises : {x y r z w s : Fraction} → Max x y r → Max z w s → x ≼ z → y ≼ w → r ≼ s
max_rises m n h k =
    ⊎_elim (λ e. le_trans (eq_le e) (le_trans h n.first)) (λ e. le_trans (eq_le e) (le_trans k n.second)) m.is_one

pub min_rises : {x y r z w s : Fraction} → Min x y r → Min z w s → x ≼ z → y ≼ w → r ≼ s
min_rises m n h k = neg_le (max_rises (min_max n) (min_max m) (neg_le h) (neg_le k))

pub max_total : (x y : Fraction) → (r : Fraction) × Max x y r
max_total x y =
    ⊎_elim (λ h. (y, record { is_one = inr (eq_refl y); first = h; second = le_refl y }))
    (λ h. (x, record { is_one = inl (eq_refl x); first = le_refl x; second = h })) (le_or_le x y)

pub min_total : (x y : Fraction) → (r : Fraction) × Min x y r
min_total x y = let (r, m) = max_total (negated x) (negated y) in (negated r, max_min m)

pub max_same : {x y r s : Fraction} → Max x y r → r ≈ s → Max x y s
max_same m e = record {
  is_one = ⊎_elim (λ f. inl (eq_trans (eq_sym e) f)) (λ f. inr (eq_trans (eq_sym e) f)) m.is_one;
  first = le_trans m.first (eq_le e);
  second = le_trans m.second (eq_le e);
}

pub min_same : {x y r s : Fraction} → Min x y r → r ≈ s → Min x y s
min_same m e = max_min (max_same (min_max m) (neg_eq e))

inverse_above : (y : Fraction) → whole 0 ≺ y → (i : Fraction) × (i ⊗ y ≈ whole 1)
unfolding ◌⊗◌
inverse_above y h =
    let less : y.down < y.up = omega (arith, h.lt) in
    let joined : y.up - y.down + y.down ≡ y.up = omega arith in (
      record { up = y.over; down = 0; over = y.up - y.down; positive = omega arith },
      record { eq = omega (arith, ap (λ (t : ℕ). t * y.over) joined) },
    )

inverse_mirror : (i y : Fraction) → i ⊗ negated y ≈ whole 1 → negated i ⊗ y ≈ whole 1
unfolding ◌⊗◌
inverse_mirror i y h = record { eq = omega (arith, h.eq) }

inverse : (y : Fraction) → (y ≈ whole 0 → ⊥) → (i : Fraction) × (i ⊗ y ≈ whole 1)
inverse y h = ⊎_elim below (inverse_above y) (le_or_lt y (whole 0))
  where
    below : y ≼ whole 0 → (i : Fraction) × (i ⊗ y ≈ whole 1)
    below k =
        ⊎_elim (λ l. absurd (h (antisymm k l)))
        (λ l. let (i, e) = inverse_above (negated y) (neg_lt l) in (negated i, inverse_mirror i y e))
        (le_or_lt (whole 0) y)

-- With i * y = 1, r * y = x exactly if r = x * i.
module _ (x y i : Fraction) (one : i ⊗ y ≈ whole 1) where
  times_inverse : (x ⊗ i) ⊗ y ≈ x
  times_inverse = eq_trans (mul_assoc x i y) (eq_trans (mul_eq_left x one) (mul_one x))

  quotient_is : (r : Fraction) → r ⊗ y ≈ x → r ≈ x ⊗ i
  quotient_is r h =
      eq_trans (eq_sym (eq_trans (mul_eq_left r (eq_trans (mul_comm y i) one)) (mul_one r)))
      (eq_trans (eq_sym (mul_assoc r y i)) (mul_eq_right i h))

pub quotient_total : (x y : Fraction) → (y ≈ whole 0 → ⊥) → (r : Fraction) × Quotient x y r
quotient_total x y h = let (i, one) = inverse y h in (x ⊗ i, record { not_zero = h; makes = times_inverse x y i one })

pub quotient_single : {x y r s : Fraction} → Quotient x y r → Quotient x y s → r ≈ s
quotient_single {x} {y} {r} {s} p q =
    let (i, one) = inverse y p.not_zero in
    eq_trans (quotient_is x y i one r p.makes) (eq_sym (quotient_is x y i one s q.makes))
