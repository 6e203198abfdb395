-- Divisors: that there is one, and that the quotient's table divides by none of its ends that is 0.
use Rattle.meaning.specs.Fraction.{Fraction, ◌≼◌, ◌≈◌, negated, whole}
use Rattle.meaning.specs.Sets.{End, at, Set, span, Member, Ordered}
use Rattle.meaning.specs.Classes.{Class, below_zero, AtZero, at_zero, above_zero, LowerNegative, lower_number, UpperPositive, upper_number, ClassOf, is_m, is_n0, is_n1, is_p0, is_p1, is_z, lower_none, upper_none}
use Rattle.meaning.proofs.FractionLaws.{le_refl, neg_le, neg_eq}
use Rattle.meaning.proofs.SetLaws.{mirror_ordered, mirror_member}
use Rattle.theorem3.specs.declared.Kind.{Kind}
use Rattle.theorem3.specs.Corners.{Divides}
use Rattle.theorem3.specs.Tables.{quotient_corner}
use Rattle.theorem3.proofs.KindLaws.{mirror_positive}
use Rattle.theorem3.proofs.Reciprocals.{positive_not_zero, some_recip}
use Rattle.theorem3.proofs.QuotientTable.{negative_not_zero, from_zero, upper_part}

-- A member of Y that is not 0.
abbrev pub Divisor : Set → Type 0
Divisor Y = (y : Fraction) × Member Y y × (y ≈ whole 0 → ⊥)

-- Members that are not 0, of a divisor from 0 up, from 0 down, and across 0.
pub some_up : {q : Fraction} {d : End} → Ordered (at q) d → UpperPositive d → whole 0 ≼ q → Divisor (span (at q) d)
some_up k v n = let r = some_recip n v k in (r.1.y, r.1.in_y, r.1.not_zero)

pub some_down : {c : End} {q : Fraction} → Ordered c (at q) → LowerNegative c → q ≼ whole 0 → Divisor (span c (at q))
some_down {c} {q} k m n =
    let t = some_up (mirror_ordered k) (mirror_positive m) (neg_le n) in
    (negated t.0, mirror_member (span c (at q)) t.0 t.1, λ e. t.2 (neg_eq e))

pub some_across : {c d : End} → LowerNegative c → UpperPositive d → Divisor (span c d)
some_across m v = let t = some_up (from_zero v) v (le_refl (whole 0)) in (t.0, upper_part m t.0 t.1, t.2)

apart : {q : Fraction} → (q ≈ whole 0 → ⊥) → AtZero (at q) → ⊥
apart n (at_zero e) = n e

lower_apart : {c : End} → LowerNegative c → AtZero c → ⊥
lower_apart (lower_number h) (at_zero e) = negative_not_zero h e
lower_apart lower_none h = elim h [ ]

upper_apart : {d : End} → UpperPositive d → AtZero d → ⊥
upper_apart (upper_number h) (at_zero e) = positive_not_zero h e
upper_apart upper_none h = elim h [ ]

-- The table divides by no end that is 0.
pub table_divides : (j : Kind) {c d : End} {k : Class} → ClassOf (span c d) k → Divides (quotient_corner j k) c d
table_divides Kind.M (is_n1 m (below_zero p)) = apart (negative_not_zero p)
table_divides Kind.M (is_p1 (above_zero p) v) = apart (positive_not_zero p)
table_divides Kind.M (is_m m v) = tt
table_divides Kind.M (is_n0 m e) = tt
table_divides Kind.M (is_p0 e v) = tt
table_divides Kind.M (is_z e f) = tt
table_divides Kind.N (is_n1 m (below_zero p)) = apart (negative_not_zero p)
table_divides Kind.N (is_p0 e v) = upper_apart v
table_divides Kind.N (is_p1 p v) = upper_apart v
table_divides Kind.N (is_m m v) = tt
table_divides Kind.N (is_n0 m e) = tt
table_divides Kind.N (is_z e f) = tt
table_divides Kind.P (is_n0 m e) = lower_apart m
table_divides Kind.P (is_n1 m p) = lower_apart m
table_divides Kind.P (is_p1 (above_zero p) v) = apart (positive_not_zero p)
table_divides Kind.P (is_m m v) = tt
table_divides Kind.P (is_p0 e v) = tt
table_divides Kind.P (is_z e f) = tt
table_divides Kind.Z h = tt
