-- A set has one class.
use mathlib.Core.Path.{◌≡◌, refl, sym, ◌∙◌, ap₂}
use native.Mathlib.Omega.{arith}
use Rattle.meaning.specs.Fraction.{Fraction, ◌≺◌, ◌≈◌, whole}
use Rattle.meaning.specs.Sets.{End, Set, empty, span}
use Rattle.meaning.specs.Classes.{Class, class_e, class_m, class_n0, class_n1, class_p0, class_p1, class_z, BelowZero, below_zero, AtZero, at_zero, AboveZero, above_zero, LowerNegative, lower_number, UpperPositive, upper_number, ClassOf, is_e, is_m, is_n0, is_n1, is_p0, is_p1, is_z, lower_none}
use Rattle.classify.specs.ClassMeaning.{class_of}
use Rattle.classify.specs.declared.IntervalClass.{IntervalClass}

-- Where an end lies.
data Side : Type 0 where
  below at above : Side

data LowerSide (a : End) : Side → Type 0 where
  lower_below : LowerNegative a → LowerSide a below
  lower_at : AtZero a → LowerSide a at
  lower_above : AboveZero a → LowerSide a above

data UpperSide (b : End) : Side → Type 0 where
  upper_below : BelowZero b → UpperSide b below
  upper_at : AtZero b → UpperSide b at
  upper_above : UpperPositive b → UpperSide b above

not_both : {q : Fraction} → q ≺ whole 0 → whole 0 ≺ q → ⊥
not_both l g = omega (arith, l.lt, g.lt)

not_below_lem : {q : Fraction} → q ≺ whole 0 → q ≈ whole 0 → ⊥
not_below_lem l e = omega (arith, l.lt, e.eq)

not_above_lem : {q : Fraction} → whole 0 ≺ q → q ≈ whole 0 → ⊥
not_above_lem g e = omega (arith, g.lt, e.eq)

-- A number lies on one side of 0.
negative_at : {a : End} → LowerNegative a → AtZero a → ⊥
negative_at (lower_number l) (at_zero e) = not_below_lem l e
negative_at lower_none k = elim k [ ]

negative_above : {a : End} → LowerNegative a → AboveZero a → ⊥
negative_above (lower_number l) (above_zero g) = not_both l g
negative_above lower_none k = elim k [ ]

at_above : {a : End} → AtZero a → AboveZero a → ⊥
at_above (at_zero e) (above_zero g) = not_above_lem g e

below_at : {b : End} → BelowZero b → AtZero b → ⊥
below_at (below_zero l) (at_zero e) = not_below_lem l e

below_positive : {b : End} → BelowZero b → UpperPositive b → ⊥
below_positive (below_zero l) (upper_number g) = not_both l g

at_positive : {b : End} → AtZero b → UpperPositive b → ⊥
at_positive (at_zero e) (upper_number g) = not_above_lem g e

lower_once : {a : End} {s t : Side} → LowerSide a s → LowerSide a t → s ≡ t
lower_once (lower_below p) (lower_below q) = refl
lower_once (lower_below p) (lower_at q) = absurd (negative_at p q)
lower_once (lower_below p) (lower_above q) = absurd (negative_above p q)
lower_once (lower_at p) (lower_below q) = absurd (negative_at q p)
lower_once (lower_at p) (lower_at q) = refl
lower_once (lower_at p) (lower_above q) = absurd (at_above p q)
lower_once (lower_above p) (lower_below q) = absurd (negative_above q p)
lower_once (lower_above p) (lower_at q) = absurd (at_above q p)
lower_once (lower_above p) (lower_above q) = refl

upper_once : {b : End} {s t : Side} → UpperSide b s → UpperSide b t → s ≡ t
upper_once (upper_below p) (upper_below q) = refl
upper_once (upper_below p) (upper_at q) = absurd (below_at p q)
upper_once (upper_below p) (upper_above q) = absurd (below_positive p q)
upper_once (upper_at p) (upper_below q) = absurd (below_at q p)
upper_once (upper_at p) (upper_at q) = refl
upper_once (upper_at p) (upper_above q) = absurd (at_positive p q)
upper_once (upper_above p) (upper_below q) = absurd (below_positive q p)
upper_once (upper_above p) (upper_at q) = absurd (at_positive q p)
upper_once (upper_above p) (upper_above q) = refl

-- The class of a nonempty interval by the sides of its ends.
abbrev by_sides : Side → Side → Class
by_sides below below = class_n1
by_sides below at = class_n0
by_sides below above = class_m
by_sides at below = class_z
by_sides at at = class_z
by_sides at above = class_p0
by_sides above below = class_p1
by_sides above at = class_p1
by_sides above above = class_p1

sides : {a b : End} {c : Class} → ClassOf (span a b) c → (s t : Side) × LowerSide a s × UpperSide b t × (by_sides s t ≡ c)
sides (is_m l u) = (below, above, lower_below l, upper_above u, refl)
sides (is_n0 l u) = (below, at, lower_below l, upper_at u, refl)
sides (is_n1 l u) = (below, below, lower_below l, upper_below u, refl)
sides (is_p0 l u) = (at, above, lower_at l, upper_above u, refl)
sides (is_p1 l u) = (above, above, lower_above l, upper_above u, refl)
sides (is_z l u) = (at, at, lower_at l, upper_at u, refl)

pub class_once : (X : Set) (c d : Class) → ClassOf X c → ClassOf X d → c ≡ d
class_once empty c d is_e is_e = refl
class_once (span a b) c d p q =
    let (s, t, l, u, e) = sides p in
    let (s', t', l', u', e') = sides q in
    sym e ∙ ap₂ by_sides (lower_once l l') (upper_once u u') ∙ e'

-- A class of the code is known by what it is.
abbrev pub code_of : Class → IntervalClass
code_of class_e = IntervalClass.E
code_of class_m = IntervalClass.M
code_of class_n0 = IntervalClass.N0
code_of class_n1 = IntervalClass.N1
code_of class_p0 = IntervalClass.P0
code_of class_p1 = IntervalClass.P1
code_of class_z = IntervalClass.Z

pub code_back : (c : IntervalClass) → code_of (class_of c) ≡ c
code_back IntervalClass.E = refl
code_back IntervalClass.M = refl
code_back IntervalClass.N0 = refl
code_back IntervalClass.N1 = refl
code_back IntervalClass.P0 = refl
code_back IntervalClass.P1 = refl
code_back IntervalClass.Z = refl
