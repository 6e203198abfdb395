-- The fractions of the meaning, (up - down) / over, are the fractions with a signed numerator: the map `signed` keeps and
-- reflects order and equality, carries sum, product and negative over, and leaves no signed fraction out.
use mathlib.Core.Path.{◌≡◌, refl}
use mathlib.Core.Logic.{◌↔◌}
use Prim.Native.Nat.{ℕ, ◌*◌}
use native.Mathlib.Omega.{arith}
use lib.IntN.{ℤ, pos, ◌*ℤ◌}
use Rattle.meaning.specs.Fraction.{Fraction, ◌≼◌, ◌≺◌, ◌≈◌, ◌⊕◌, ◌⊗◌, negated}
use Rattle.meaning.specs.Signed.{Signed, ◌≤ˢ◌, ◌<ˢ◌, ◌=ˢ◌, ◌+ˢ◌, ◌*ˢ◌, negatedˢ, signed}
use Rattle.meaning.proofs.Differences.{above, below, Difference, of_self, other, of_neg, of_add, of_mul, le_difference, lt_difference, eq_difference}

of_numerator : (x : Fraction) → Difference (signed x).numerator x.up x.down
of_numerator x = other (of_add _ _ (of_self (pos x.up)) (of_neg _ (of_self (pos x.down)))) (omega arith)

same_integer : {z w : ℤ} {a b : ℕ} → Difference z a b → Difference w a b → z ≡ w
same_integer h k = (eq_difference h k).1 refl

-- A numerator over a common denominator.
of_scaled : (x : Fraction) (n : ℕ) → Difference ((signed x).numerator *ℤ pos n) (x.up * n) (x.down * n)
of_scaled x n = other (of_mul _ _ (of_numerator x) (of_self (pos n))) (omega arith)

-- The crosswise products of two fractions.
module _ (x y : Fraction) where
  left : Difference ((signed x).numerator *ℤ pos y.over) (x.up * y.over) (x.down * y.over)
  left = of_scaled x y.over

  right : Difference ((signed y).numerator *ℤ pos x.over) (y.up * x.over) (y.down * x.over)
  right = of_scaled y x.over

  pub same_order : (x ≼ y) ↔ (signed x ≤ˢ signed y)
  same_order =
      let e = le_difference left right in
      (λ h. record { le = e.1 h.le }, λ h. record { le = e.0 h.le })

  pub same_strict_order : (x ≺ y) ↔ (signed x <ˢ signed y)
  same_strict_order =
      let e = lt_difference left right in
      (λ h. record { lt = e.1 h.lt }, λ h. record { lt = e.0 h.lt })

  pub same_equality : (x ≈ y) ↔ (signed x =ˢ signed y)
  same_equality =
      let e = eq_difference left right in
      (λ h. record { eq = e.1 h.eq }, λ h. record { eq = e.0 h.eq })

  pub same_sum : signed (x ⊕ y) ≡ signed x +ˢ signed y
  unfolding ◌⊕◌ ◌+ˢ◌
  same_sum = λ i. record {
    numerator = same_integer (of_numerator (x ⊕ y)) (of_add _ _ left right) i;
    over = x.over * y.over;
    positive = (x ⊕ y).positive;
  }

  pub same_product : signed (x ⊗ y) ≡ signed x *ˢ signed y
  unfolding ◌⊗◌ ◌*ˢ◌
  same_product = λ i. record {
    numerator = same_integer (of_numerator (x ⊗ y)) (of_mul _ _ (of_numerator x) (of_numerator y)) i;
    over = x.over * y.over;
    positive = (x ⊗ y).positive;
  }

pub same_negative : (x : Fraction) → signed (negated x) ≡ negatedˢ (signed x)
same_negative x = λ i. record {
  numerator = same_integer (of_numerator (negated x)) (of_neg _ (of_numerator x)) i;
  over = x.over;
  positive = x.positive;
}

-- Every signed fraction is one of the meaning.
pub onto : (z : Signed) → (x : Fraction) × (signed x ≡ z)
onto z = (
  source,
  λ i. record {
    numerator = same_integer (of_numerator source) (of_self z.numerator) i;
    over = z.over;
    positive = z.positive;
  },
)
  where
    source : Fraction
    source = record { up = above z.numerator; down = below z.numerator; over = z.over; positive = z.positive }
