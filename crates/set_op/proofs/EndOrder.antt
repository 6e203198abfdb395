-- The order of patterns by value is the order of the ends that they stand for.
use mathlib.Core.Path.{sym, subst, subst₂}
use Prim.Native.Nat.{ℕ, ◌*◌, ◌<◌}
use native.Mathlib.Omega.{arith}
use Rattle.patterns.specs.Format.{Format, infinity, sign_bit}
use Rattle.patterns.specs.Value.{Finite}
use Rattle.patterns.proofs.SignLaws.{infinity_below}
use Rattle.patterns.proofs.UpLaws.{infinity_positive}
use Rattle.meaning.specs.Fraction.{◌≼◌, ◌≺◌}
use Rattle.meaning.specs.Sets.{End, Ordered, ordered, no_lower, no_upper, mirror_end}
use Rattle.meaning.specs.Pairs.{worth, minus_infinity}
use Rattle.meaning.proofs.FractionLaws.{le_refl, lt_le, lt_not_le, neg_le}
use Rattle.points.specs.Ends.{◌⊑◌, numbers, none_above, Greater, greater_first, greater_second, Lesser, lesser_first, lesser_second}
use Rattle.end_pairs.proofs.KeyLaws.{key_lt, finite_keys, key_infinity, key_minus_infinity}
use Rattle.end_pairs.proofs.Shapes.{LowerShape, lower_finite, lower_infinite, UpperShape, upper_finite, upper_infinite}
use Rattle.end_pairs.specs.Order.{LesserOf, lesser_is_first, lesser_is_second, GreaterOf, greater_is_first, greater_is_second}

module _ (F : Format) where
  infinity_pattern : infinity F < 2 * sign_bit F
  infinity_pattern = omega (arith, infinity_below F)

  minus_infinity_pattern : minus_infinity F < 2 * sign_bit F
  unfolding minus_infinity
  minus_infinity_pattern = omega (arith, infinity_below F)

  -- Every finite pattern is worth less than +inf's and more than -inf's.
  below_infinity : {b : ℕ} → Finite F b → worth F b ≺ worth F (infinity F)
  below_infinity f = key_lt F f.pattern infinity_pattern (finite_keys F f).1

  above_minus_infinity : {b : ℕ} → Finite F b → worth F (minus_infinity F) ≺ worth F b
  above_minus_infinity f = key_lt F minus_infinity_pattern f.pattern (finite_keys F f).0

  between_infinities : worth F (minus_infinity F) ≺ worth F (infinity F)
  between_infinities =
      key_lt F minus_infinity_pattern infinity_pattern
      (omega (arith, key_infinity F, key_minus_infinity F, infinity_positive F))

module _ (F : Format) {m n : ℕ} where
  upper_order : {u v : End} → UpperShape F m u → UpperShape F n v → worth F m ≼ worth F n → u ⊑ v
  upper_order (upper_finite f) (upper_finite g) h = numbers h
  upper_order s (upper_infinite e) h = none_above
  upper_order (upper_infinite e) (upper_finite g) h =
      absurd (lt_not_le (below_infinity F g) (subst (λ (b : ℕ). worth F b ≼ worth F n) e h))

  lower_order : {u v : End} → LowerShape F m u → LowerShape F n v → worth F m ≼ worth F n → mirror_end v ⊑ mirror_end u
  lower_order (lower_finite f) (lower_finite g) h = numbers (neg_le h)
  lower_order (lower_infinite e) t h = none_above
  lower_order (lower_finite f) (lower_infinite e) h =
      absurd (lt_not_le (above_minus_infinity F f) (subst (λ (b : ℕ). worth F m ≼ worth F b) e h))

  -- A lower end and an upper end are in order exactly if their patterns are.
  pub ends_ordered : {u v : End} → LowerShape F m u → UpperShape F n v → worth F m ≼ worth F n → Ordered u v
  ends_ordered (lower_finite f) (upper_finite g) h = ordered h
  ends_ordered (lower_infinite e) t h = no_lower
  ends_ordered (lower_finite f) (upper_infinite e) h = no_upper

  pub patterns_ordered : {u v : End} → LowerShape F m u → UpperShape F n v → Ordered u v → worth F m ≼ worth F n
  patterns_ordered (lower_finite f) (upper_finite g) (ordered h) = h
  patterns_ordered (lower_finite f) (upper_infinite e) h = subst (λ (b : ℕ). worth F m ≼ worth F b) (sym e) (lt_le (below_infinity F f))
  patterns_ordered (lower_infinite e) (upper_finite g) h = subst (λ (b : ℕ). worth F b ≼ worth F n) (sym e) (lt_le (above_minus_infinity F g))
  patterns_ordered (lower_infinite e) (upper_infinite d) h =
      subst₂ (λ (a b : ℕ). worth F a ≼ worth F b) (sym e) (sym d) (lt_le (between_infinities F))

-- The chosen one of two patterns stands for the chosen end.
module _ (F : Format) {m n : ℕ} {u v : End} where
  pub greater_upper : {r : ℕ} → UpperShape F m u → UpperShape F n v → GreaterOf F m n r → (w : End) × UpperShape F r w × Greater u v w
  greater_upper s t (greater_is_first h) = (u, s, greater_first (upper_order F t s (lt_le h)))
  greater_upper s t (greater_is_second h) = (v, t, greater_second (upper_order F s t h))

  pub lesser_upper : {r : ℕ} → UpperShape F m u → UpperShape F n v → LesserOf F m n r → (w : End) × UpperShape F r w × Lesser u v w
  lesser_upper s t (lesser_is_first h) = (u, s, lesser_first (upper_order F s t h))
  lesser_upper s t (lesser_is_second h) = (v, t, lesser_second (upper_order F t s (lt_le h)))

  -- Lower ends are in order as their mirrors are not.
  pub lesser_lower : {r : ℕ} → LowerShape F m u → LowerShape F n v → LesserOf F m n r
      → (w : End) × LowerShape F r w × Greater (mirror_end u) (mirror_end v) (mirror_end w)
  lesser_lower s t (lesser_is_first h) = (u, s, greater_first (lower_order F s t h))
  lesser_lower s t (lesser_is_second h) = (v, t, greater_second (lower_order F t s (lt_le h)))

  pub greater_lower : {r : ℕ} → LowerShape F m u → LowerShape F n v → GreaterOf F m n r
      → (w : End) × LowerShape F r w × Lesser (mirror_end u) (mirror_end v) (mirror_end w)
  greater_lower s t (greater_is_first h) = (u, s, lesser_first (lower_order F t s (lt_le h)))
  greater_lower s t (greater_is_second h) = (v, t, lesser_second (lower_order F s t h))

-- The greater of two is below neither, and the lesser above neither.
module _ (F : Format) {m n : ℕ} where
  pub greater_above : {r : ℕ} → GreaterOf F m n r → (worth F m ≼ worth F r) × (worth F n ≼ worth F r)
  greater_above (greater_is_first h) = (le_refl (worth F m), lt_le h)
  greater_above (greater_is_second h) = (h, le_refl (worth F n))

  pub lesser_below : {r : ℕ} → LesserOf F m n r → (worth F r ≼ worth F m) × (worth F r ≼ worth F n)
  lesser_below (lesser_is_first h) = (le_refl (worth F m), h)
  lesser_below (lesser_is_second h) = (lt_le h, le_refl (worth F n))

  -- What holds of both holds of the greater, and of the lesser.
  pub greater_one : (P : ℕ → Type 0) {r : ℕ} → GreaterOf F m n r → P m → P n → P r
  greater_one P (greater_is_first h) p q = p
  greater_one P (greater_is_second h) p q = q

  pub lesser_one : (P : ℕ → Type 0) {r : ℕ} → LesserOf F m n r → P m → P n → P r
  lesser_one P (lesser_is_first h) p q = p
  lesser_one P (lesser_is_second h) p q = q
