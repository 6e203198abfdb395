-- Every valid set has the class that the signs of its ends say.
use mathlib.Core.Bool.{Bool, true, false}
use mathlib.Core.Path.{◌≡◌, ap₂, sym, subst⁻¹}
use mathlib.Core.Logic.{⊎_elim}
use Prim.Native.Nat.{◌<◌}
use native.Mathlib.Nat.{eq-or-lt_of_le}
use native.Mathlib.Omega.{arith}
use borrow.Author.Tests.{lt-ltb, le-ltb, eq-eqb, ne_eqb}
use lib.Dec.{ltb, eqb}
use Rattle.patterns.proofs.ValueLaws.{le_or_lt as le-or-lt-nat}
use Rattle.meaning.specs.Fraction.{Fraction, ◌≺◌, ◌≈◌, whole}
use Rattle.meaning.specs.Sets.{End, at, unbounded, Set, empty, span, Ordered, ordered, Valid, valid_span, no_lower, no_upper}
use Rattle.meaning.specs.Classes.{BelowZero, below_zero, AtZero, at_zero, AboveZero, above_zero, LowerNegative, lower_number, lower_none, UpperPositive, upper_number, upper_none, ClassOf, is_e, is_m, is_n0, is_n1, is_p0, is_p1, is_z}
use Rattle.meaning.proofs.FractionLaws.{le_trans, lt_not_le, lt_le, eq_le, eq_ge}
use Rattle.theorem3.specs.Tables.{Sign, negative, none, positive, sign_by, lower_sign, upper_sign, class_by_signs, class_by, kind_of}
use Rattle.theorem3.proofs.KindLaws.{KindOf, kind_of_lem}

pub data LowerSigned : End → Sign → Type 0 where
  low_negative : {a : End} → LowerNegative a → LowerSigned a negative
  low_zero : {a : End} → AtZero a → LowerSigned a none
  low_positive : {a : End} → AboveZero a → LowerSigned a positive

pub data UpperSigned : End → Sign → Type 0 where
  high_negative : {a : End} → BelowZero a → UpperSigned a negative
  high_zero : {a : End} → AtZero a → UpperSigned a none
  high_positive : {a : End} → UpperPositive a → UpperSigned a positive

data Signed (q : Fraction) : Sign → Type 0 where
  below : q ≺ whole 0 → Signed q negative
  equal : q ≈ whole 0 → Signed q none
  above : whole 0 ≺ q → Signed q positive

signed : (q : Fraction) → Signed q (sign_by (ltb q.up q.down) (eqb q.up q.down))
signed q = ⊎_elim (λ h. ⊎_elim same up (eq-or-lt_of_le h)) down (le-or-lt-nat q.down q.up)
  where
    by : (t e : Bool) → ltb q.up q.down ≡ t → eqb q.up q.down ≡ e → Signed q (sign_by t e)
        → Signed q (sign_by (ltb q.up q.down) (eqb q.up q.down))
    by t e h k s = subst⁻¹ (λ (z : Sign). Signed q z) (ap₂ sign_by h k) s

    down : q.up < q.down → Signed q (sign_by (ltb q.up q.down) (eqb q.up q.down))
    down h =
        by true false (lt-ltb q.up q.down h) (ne_eqb q.up q.down (λ e. omega arith)) (below (record { lt = omega arith }))

    same : q.down ≡ q.up → Signed q (sign_by (ltb q.up q.down) (eqb q.up q.down))
    same h =
        by false true (le-ltb q.up q.down (omega arith)) (eq-eqb q.up q.down (sym h)) (equal (record { eq = omega arith }))

    up : q.down < q.up → Signed q (sign_by (ltb q.up q.down) (eqb q.up q.down))
    up h =
        by false false (le-ltb q.up q.down (omega arith)) (ne_eqb q.up q.down (λ e. omega arith)) (above (record { lt = omega arith }))

pub lower_signed : (a : End) → LowerSigned a (lower_sign a)
lower_signed unbounded = low_negative lower_none
lower_signed (at q) = go (signed q)
  where
    go : {s : Sign} → Signed q s → LowerSigned (at q) s
    go (below h) = low_negative (lower_number h)
    go (equal h) = low_zero (at_zero h)
    go (above h) = low_positive (above_zero h)

pub upper_signed : (a : End) → UpperSigned a (upper_sign a)
upper_signed unbounded = high_positive upper_none
upper_signed (at q) = go (signed q)
  where
    go : {s : Sign} → Signed q s → UpperSigned (at q) s
    go (below h) = high_negative (below_zero h)
    go (equal h) = high_zero (at_zero h)
    go (above h) = high_positive (upper_number h)

class_of_signs : {a b : End} {s t : Sign} → Ordered a b → LowerSigned a s → UpperSigned b t → ClassOf (span a b) (class_by_signs s t)
class_of_signs o (low_negative l) (high_negative h) = is_n1 l h
class_of_signs o (low_negative l) (high_zero h) = is_n0 l h
class_of_signs o (low_negative l) (high_positive h) = is_m l h
class_of_signs o (low_zero l) (high_zero h) = is_z l h
class_of_signs o (low_zero l) (high_positive h) = is_p0 l h
class_of_signs o (low_positive l) (high_positive h) = is_p1 l h
class_of_signs (ordered o) (low_zero (at_zero l)) (high_negative (below_zero h)) = absurd (lt_not_le h (le_trans (eq_ge l) o))
class_of_signs (ordered o) (low_positive (above_zero l)) (high_negative (below_zero h)) = absurd (lt_not_le h (le_trans (lt_le l) o))
class_of_signs (ordered o) (low_positive (above_zero l)) (high_zero (at_zero h)) = absurd (lt_not_le l (le_trans o (eq_le h)))
class_of_signs no_lower (low_zero l) (high_negative h) = elim l [ ]
class_of_signs no_upper (low_zero l) (high_negative h) = elim h [ ]
class_of_signs no_lower (low_positive l) (high_negative h) = elim l [ ]
class_of_signs no_upper (low_positive l) (high_negative h) = elim h [ ]
class_of_signs no_lower (low_positive l) (high_zero h) = elim l [ ]
class_of_signs no_upper (low_positive l) (high_zero h) = elim h [ ]

pub class_right : (X : Set) → Valid X → ClassOf X (class_by X)
class_right empty v = is_e
class_right (span a b) (valid_span o) = class_of_signs o (lower_signed a) (upper_signed b)

pub kind_right : {a b : End} → Ordered a b → KindOf a b (kind_of (class_by (span a b)))
kind_right {a} {b} o = kind_of_lem (class_right (span a b) (valid_span o))
