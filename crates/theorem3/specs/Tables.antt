-- The crate's tables of classes, for the upper ends. A lower end is the upper end of the mirror image, negated.
use Rattle.std.specs.Prelude.{Bool, true, false, ltb, eqb}
use Rattle.meaning.specs.Sets.{End, at, unbounded, Set, empty, span}
use Rattle.meaning.specs.Classes.{Class, class_e, class_m, class_n0, class_n1, class_p0, class_p1, class_z}
use Rattle.theorem3.specs.declared.Kind.{Kind}
use Rattle.theorem3.specs.declared.Corner.{Corner}
use Rattle.theorem3.specs.Ends.{product_end, quotient_end}
use Rattle.theorem3.specs.Corners.{end_at}

-- The sign of a number.
pub data Sign : Type 0 where
  negative none positive : Sign

abbrev pub sign_by : (below equal : Bool) → Sign
sign_by true e = negative
sign_by false true = none
sign_by false false = positive

-- An unbounded lower end is negative and an unbounded upper end positive.
abbrev pub lower_sign : End → Sign
lower_sign (at q) = sign_by (ltb q.up q.down) (eqb q.up q.down)
lower_sign unbounded = negative

abbrev pub upper_sign : End → Sign
upper_sign (at q) = sign_by (ltb q.up q.down) (eqb q.up q.down)
upper_sign unbounded = positive

-- The class of a valid span by the signs of its ends. The last three cases are no valid span's.
abbrev pub class_by_signs : Sign → Sign → Class
class_by_signs negative negative = class_n1
class_by_signs negative none = class_n0
class_by_signs negative positive = class_m
class_by_signs none none = class_z
class_by_signs none positive = class_p0
class_by_signs positive positive = class_p1
class_by_signs none negative = class_e
class_by_signs positive negative = class_e
class_by_signs positive none = class_e

abbrev pub class_by : Set → Class
class_by empty = class_e
class_by (span a b) = class_by_signs (lower_sign a) (upper_sign b)

-- EMPTY has no kind; the tables are not asked of it.
abbrev pub kind_of : Class → Kind
kind_of class_e = Kind.Z
kind_of class_m = Kind.M
kind_of class_n0 = Kind.N
kind_of class_n1 = Kind.N
kind_of class_p0 = Kind.P
kind_of class_p1 = Kind.P
kind_of class_z = Kind.Z

-- The kind of the mirror image.
abbrev pub mirror_kind : Kind → Kind
mirror_kind Kind.M = Kind.M
mirror_kind Kind.N = Kind.P
mirror_kind Kind.P = Kind.N
mirror_kind Kind.Z = Kind.Z

-- The upper end of [a, b] * [c, d]:
--    |      M        |  N  |  P  | Z
-- ---+---------------+-----+-----+---
--  M | max{a*c, b*d} | a*c | b*d | 0
--  N |      a*c      | a*c | b*c | 0
--  P |      b*d      | a*d | b*d | 0
--  Z |       0       |  0  |  0  | 0
abbrev pub product_corner : Kind → Kind → Corner
product_corner Kind.M Kind.M = Corner.Greater
product_corner Kind.M Kind.N = Corner.LowerLower
product_corner Kind.M Kind.P = Corner.UpperUpper
product_corner Kind.M Kind.Z = Corner.Zero
product_corner Kind.N Kind.M = Corner.LowerLower
product_corner Kind.N Kind.N = Corner.LowerLower
product_corner Kind.N Kind.P = Corner.UpperLower
product_corner Kind.N Kind.Z = Corner.Zero
product_corner Kind.P Kind.M = Corner.UpperUpper
product_corner Kind.P Kind.N = Corner.LowerUpper
product_corner Kind.P Kind.P = Corner.UpperUpper
product_corner Kind.P Kind.Z = Corner.Zero
product_corner Kind.Z n = Corner.Zero

-- The upper end of [a, b] / [c, d], where the divisor is not Z:
--    | M  | N0  | N1  | P0  | P1
-- ---+----+-----+-----+-----+-----
--  M | +∞ | +∞  | a/d | +∞  | b/c
--  N | +∞ | +∞  | a/d | b/d | b/d
--  P | +∞ | a/c | a/c | +∞  | b/c
--  Z | 0  |  0  |  0  |  0  |  0
abbrev pub quotient_corner : Kind → Class → Corner
quotient_corner Kind.M class_m = Corner.Unbounded
quotient_corner Kind.M class_n0 = Corner.Unbounded
quotient_corner Kind.M class_n1 = Corner.LowerUpper
quotient_corner Kind.M class_p0 = Corner.Unbounded
quotient_corner Kind.M class_p1 = Corner.UpperLower
quotient_corner Kind.M class_z = Corner.Unbounded
quotient_corner Kind.M class_e = Corner.Unbounded
quotient_corner Kind.N class_m = Corner.Unbounded
quotient_corner Kind.N class_n0 = Corner.Unbounded
quotient_corner Kind.N class_n1 = Corner.LowerUpper
quotient_corner Kind.N class_p0 = Corner.UpperUpper
quotient_corner Kind.N class_p1 = Corner.UpperUpper
quotient_corner Kind.N class_z = Corner.Unbounded
quotient_corner Kind.N class_e = Corner.Unbounded
quotient_corner Kind.P class_m = Corner.Unbounded
quotient_corner Kind.P class_n0 = Corner.LowerLower
quotient_corner Kind.P class_n1 = Corner.LowerLower
quotient_corner Kind.P class_p0 = Corner.Unbounded
quotient_corner Kind.P class_p1 = Corner.UpperLower
quotient_corner Kind.P class_z = Corner.Unbounded
quotient_corner Kind.P class_e = Corner.Unbounded
quotient_corner Kind.Z k = Corner.Zero

abbrev pub product_upper : Kind → Kind → (a b c d : End) → End
product_upper m n = end_at product_end (product_corner m n)

abbrev pub quotient_upper : Kind → Class → (a b c d : End) → End
quotient_upper m k = end_at quotient_end (quotient_corner m k)
