-- Numbers and the two infinities are a linear order.
use mathlib.Core.Logic.{◌⊎◌, inl, inr}
use Rattle.meaning.specs.Fraction.{Fraction, ◌≼◌, ◌≺◌}
use Rattle.meaning.specs.Overlap.{Extended, minus_inf, number, plus_inf, Less, less_numbers, from_minus, to_plus, across, Same, same_numbers, minuses, pluses}
use Rattle.meaning.proofs.FractionLaws as Fractions
use Rattle.uniqueness.specs.Order.{Compared, less, same, more, Order}

irreflexive : (x : Extended) → Less x x → ⊥
irreflexive (number x) (less_numbers h) = Fractions.lt_not_le h (Fractions.le_refl x)
irreflexive minus_inf h = elim h [ ]
irreflexive plus_inf h = elim h [ ]

transitive : {x y z : Extended} → Less x y → Less y z → Less x z
transitive (less_numbers h) (less_numbers k) = less_numbers (Fractions.lt_le_trans h (Fractions.lt_le k))
transitive (less_numbers h) to_plus = to_plus
transitive from_minus (less_numbers k) = from_minus
transitive from_minus to_plus = across
transitive to_plus h = elim h [ ]
transitive across h = elim h [ ]

symmetric : {x y : Extended} → Same x y → Same y x
symmetric (same_numbers h) = same_numbers (Fractions.eq_sym h)
symmetric minuses = minuses
symmetric pluses = pluses

less_same : {x y z : Extended} → Less x y → Same y z → Less x z
less_same (less_numbers h) (same_numbers k) = less_numbers (Fractions.lt_le_trans h (Fractions.eq_le k))
less_same from_minus (same_numbers k) = from_minus
less_same to_plus pluses = to_plus
less_same across pluses = across

same_less : {x y z : Extended} → Same x y → Less y z → Less x z
same_less (same_numbers h) (less_numbers k) = less_numbers (Fractions.le_lt_trans (Fractions.eq_le h) k)
same_less (same_numbers h) to_plus = to_plus
same_less minuses from_minus = from_minus
same_less minuses across = across
same_less pluses h = elim h [ ]

compared_numbers : {x y : Fraction} → (x ≼ y) ⊎ (y ≺ x) → (y ≼ x) ⊎ (x ≺ y) → Compared Less Same (number x) (number y)
compared_numbers (inr h) k = more (less_numbers h)
compared_numbers (inl h) (inl k) = same (same_numbers (Fractions.antisymm h k))
compared_numbers (inl h) (inr k) = less (less_numbers k)

compared : (x y : Extended) → Compared Less Same x y
compared (number x) (number y) = compared_numbers (Fractions.le_or_lt x y) (Fractions.le_or_lt y x)
compared minus_inf minus_inf = same minuses
compared minus_inf (number y) = less from_minus
compared minus_inf plus_inf = less across
compared (number x) minus_inf = more from_minus
compared (number x) plus_inf = less to_plus
compared plus_inf minus_inf = more across
compared plus_inf (number y) = more to_plus
compared plus_inf plus_inf = same pluses

pub extended : Order Less Same
extended = record {
  irreflexive = irreflexive;
  transitive = transitive;
  symmetric = symmetric;
  less_same = less_same;
  same_less = same_less;
  compared = compared;
}
