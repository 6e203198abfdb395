-- Which classes of divisors hold 0, and so what each allows.
use Rattle.meaning.specs.Fraction.{whole}
use Rattle.meaning.specs.Sets.{End, Set, Over, over, over_none, Under, under, under_none}
use Rattle.meaning.specs.Classes.{Class, BelowZero, below_zero, AtZero, at_zero, AboveZero, above_zero, LowerNegative, lower_number, lower_none, UpperPositive, upper_number, upper_none, ClassOf, is_e, is_m, is_n0, is_n1, is_p0, is_p1, is_z}
use Rattle.meaning.specs.Decorations.{Divided, by_zero, elsewhere}
use Rattle.meaning.proofs.FractionLaws.{lt_le, lt_not_le, eq_le, eq_ge}
use Rattle.kinds.specs.Allowed.{allowed_by}

over_negative : {a : End} → LowerNegative a → Over (whole 0) a
over_negative (lower_number h) = over (lt_le h)
over_negative lower_none = over_none

under_positive : {b : End} → UpperPositive b → Under (whole 0) b
under_positive (upper_number h) = under (lt_le h)
under_positive upper_none = under_none

over_zero : {a : End} → AtZero a → Over (whole 0) a
over_zero (at_zero e) = over (eq_le e)

under_zero : {b : End} → AtZero b → Under (whole 0) b
under_zero (at_zero e) = under (eq_ge e)

not_over : {a : End} → AboveZero a → Over (whole 0) a → ⊥
not_over (above_zero h) (over k) = lt_not_le h k

not_under : {b : End} → BelowZero b → Under (whole 0) b → ⊥
not_under (below_zero h) (under k) = lt_not_le h k

pub class_allows : {Y : Set} {k : Class} → ClassOf Y k → Divided Y (allowed_by k)
class_allows is_e = elsewhere (λ m. m)
class_allows (is_m l u) = by_zero (record { low = over_negative l; high = under_positive u })
class_allows (is_n0 l u) = by_zero (record { low = over_negative l; high = under_zero u })
class_allows (is_n1 l u) = elsewhere (λ m. not_under u m.high)
class_allows (is_p0 l u) = by_zero (record { low = over_zero l; high = under_positive u })
class_allows (is_p1 l u) = elsewhere (λ m. not_over l m.low)
class_allows (is_z l u) = by_zero (record { low = over_zero l; high = under_zero u })
