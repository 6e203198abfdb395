-- What the classes that abs keeps, and those that it turns, say of the members.
use mathlib.Core.Path.{◌≡◌}
use mathlib.Core.Logic.{◌⊎◌, inl, inr}
use Rattle.meaning.specs.Fraction.{Fraction, ◌≼◌, whole}
use Rattle.meaning.specs.Sets.{Set, Member}
use Rattle.meaning.specs.Classes.{at_zero, above_zero, below_zero, class_e, class_n0, class_n1, class_p0, class_p1, class_z, ClassOf, is_e, is_n0, is_n1, is_p0, is_p1, is_z}
use Rattle.meaning.proofs.FractionLaws.{le_trans, lt_le, eq_le, eq_ge}
use Rattle.points.proofs.EndLaws.{under_number, over_number}
use Rattle.classify.specs.ClassMeaning.{class_of}
use Rattle.classify.specs.declared.IntervalClass.{IntervalClass}

empty_positive : {X : Set} → ClassOf X class_e → (r : Fraction) → Member X r → whole 0 ≼ r
empty_positive is_e r m = absurd m

from_zero : {X : Set} → ClassOf X class_p0 → (r : Fraction) → Member X r → whole 0 ≼ r
from_zero (is_p0 (at_zero e) u) r m = le_trans (eq_ge e) (over_number m.low)

above : {X : Set} → ClassOf X class_p1 → (r : Fraction) → Member X r → whole 0 ≼ r
above (is_p1 (above_zero l) u) r m = le_trans (lt_le l) (over_number m.low)

zero_alone : {X : Set} → ClassOf X class_z → (r : Fraction) → Member X r → whole 0 ≼ r
zero_alone (is_z (at_zero e) u) r m = le_trans (eq_ge e) (over_number m.low)

up_to_zero : {X : Set} → ClassOf X class_n0 → (r : Fraction) → Member X r → r ≼ whole 0
up_to_zero (is_n0 l (at_zero e)) r m = le_trans (under_number m.high) (eq_le e)

below : {X : Set} → ClassOf X class_n1 → (r : Fraction) → Member X r → r ≼ whole 0
below (is_n1 l (below_zero u)) r m = le_trans (under_number m.high) (lt_le u)

-- By the variants of an arm.
module _ {X : Set} {k : IntervalClass} (c : ClassOf X (class_of k)) where
  pub kept_positive : (k ≡ IntervalClass.E) ⊎ ((k ≡ IntervalClass.P0) ⊎ ((k ≡ IntervalClass.P1) ⊎ (k ≡ IntervalClass.Z)))
      → (r : Fraction) → Member X r → whole 0 ≼ r
  kept_positive (inl e) = empty_positive (rw e at c)
  kept_positive (inr (inl e)) = from_zero (rw e at c)
  kept_positive (inr (inr (inl e))) = above (rw e at c)
  kept_positive (inr (inr (inr e))) = zero_alone (rw e at c)

  pub turned_negative : (k ≡ IntervalClass.N0) ⊎ (k ≡ IntervalClass.N1) → (r : Fraction) → Member X r → r ≼ whole 0
  turned_negative (inl e) = up_to_zero (rw e at c)
  turned_negative (inr e) = below (rw e at c)
