-- The class of a valid pair from the keys of its ends.
use mathlib.Core.Path.{◌≡◌, ap}
use Prim.Native.Nat.{ℕ, ◌<◌}
use native.Mathlib.Omega.{arith}
use Rattle.patterns.specs.Format.{Format, sign_bit}
use Rattle.patterns.proofs.UpLaws.{infinity_positive}
use Rattle.meaning.specs.Sets.{End, Set, empty}
use Rattle.meaning.specs.Pairs.{Pair, EmptyPair}
use Rattle.meaning.specs.Classes
use Rattle.meaning.specs.Classes.{BelowZero, AtZero, AboveZero, LowerNegative, UpperPositive, ClassOf, class_e, class_m, class_n0, class_n1, class_p0, class_p1, class_z}
use Rattle.end_pairs.specs.Keys.{key_of}
use Rattle.end_pairs.proofs.KeyLaws.{below_zero_lem, above_zero_lem, at_zero_lem, key_infinity, key_minus_infinity}
use Rattle.end_pairs.proofs.TestLaws.{proper_keys}
use Rattle.end_pairs.proofs.Shapes.{LowerShape, lower_finite, lower_infinite, UpperShape, upper_finite, upper_infinite, Shape, shape_empty, shape_span}

module _ (F : Format) {n : ℕ} where
  lower_below_lem : {e : End} → LowerShape F n e → key_of F n < sign_bit F → LowerNegative e
  lower_below_lem (lower_finite f) l = Classes.lower_number (below_zero_lem F f.pattern l)
  lower_below_lem (lower_infinite q) l = Classes.lower_none

  lower_at_lem : {e : End} → LowerShape F n e → key_of F n ≡ sign_bit F → AtZero e
  lower_at_lem (lower_finite f) l = Classes.at_zero (at_zero_lem F f.pattern l)
  lower_at_lem (lower_infinite q) l = absurd (omega (arith, ap (key_of F) q, key_minus_infinity F, infinity_positive F))

  lower_above_lem : {e : End} → LowerShape F n e → sign_bit F < key_of F n → AboveZero e
  lower_above_lem (lower_finite f) l = Classes.above_zero (above_zero_lem F f.pattern l)
  lower_above_lem (lower_infinite q) l = absurd (omega (arith, ap (key_of F) q, key_minus_infinity F))

  upper_below_lem : {e : End} → UpperShape F n e → key_of F n < sign_bit F → BelowZero e
  upper_below_lem (upper_finite f) l = Classes.below_zero (below_zero_lem F f.pattern l)
  upper_below_lem (upper_infinite q) l = absurd (omega (arith, ap (key_of F) q, key_infinity F))

  upper_at_lem : {e : End} → UpperShape F n e → key_of F n ≡ sign_bit F → AtZero e
  upper_at_lem (upper_finite f) l = Classes.at_zero (at_zero_lem F f.pattern l)
  upper_at_lem (upper_infinite q) l = absurd (omega (arith, ap (key_of F) q, key_infinity F, infinity_positive F))

  upper_above_lem : {e : End} → UpperShape F n e → sign_bit F < key_of F n → UpperPositive e
  upper_above_lem (upper_finite f) l = Classes.upper_number (above_zero_lem F f.pattern l)
  upper_above_lem (upper_infinite q) l = Classes.upper_none

pub class_empty : {Z : Set} → Z ≡ empty → ClassOf Z class_e
class_empty {Z} e = rw e Classes.is_e

module _ (F : Format) {p : Pair} (some : EmptyPair F p → ⊥) where
  pub class_p1_lem : {Z : Set} → Shape F p Z → sign_bit F < key_of F p.lower → ClassOf Z class_p1
  class_p1_lem (shape_empty e) a = absurd (some e)
  class_p1_lem (shape_span h l u) a = Classes.is_p1 (lower_above_lem F l a) (upper_above_lem F u (omega (arith, proper_keys F p h)))

  pub class_n1_lem : {Z : Set} → Shape F p Z → key_of F p.upper < sign_bit F → ClassOf Z class_n1
  class_n1_lem (shape_empty e) b = absurd (some e)
  class_n1_lem (shape_span h l u) b = Classes.is_n1 (lower_below_lem F l (omega (arith, proper_keys F p h))) (upper_below_lem F u b)

  pub class_n0_lem : {Z : Set} → Shape F p Z → key_of F p.lower < sign_bit F → key_of F p.upper ≡ sign_bit F → ClassOf Z class_n0
  class_n0_lem (shape_empty e) a b = absurd (some e)
  class_n0_lem (shape_span h l u) a b = Classes.is_n0 (lower_below_lem F l a) (upper_at_lem F u b)

  pub class_m_lem : {Z : Set} → Shape F p Z → key_of F p.lower < sign_bit F → sign_bit F < key_of F p.upper → ClassOf Z class_m
  class_m_lem (shape_empty e) a b = absurd (some e)
  class_m_lem (shape_span h l u) a b = Classes.is_m (lower_below_lem F l a) (upper_above_lem F u b)

  pub class_z_lem : {Z : Set} → Shape F p Z → key_of F p.lower ≡ sign_bit F → key_of F p.upper ≡ sign_bit F → ClassOf Z class_z
  class_z_lem (shape_empty e) a b = absurd (some e)
  class_z_lem (shape_span h l u) a b = Classes.is_z (lower_at_lem F l a) (upper_at_lem F u b)

  pub class_p0_lem : {Z : Set} → Shape F p Z → key_of F p.lower ≡ sign_bit F → sign_bit F < key_of F p.upper → ClassOf Z class_p0
  class_p0_lem (shape_empty e) a b = absurd (some e)
  class_p0_lem (shape_span h l u) a b = Classes.is_p0 (lower_at_lem F l a) (upper_above_lem F u b)
