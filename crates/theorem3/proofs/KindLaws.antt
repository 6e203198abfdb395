-- What the kind of a span says of its ends.
use Rattle.meaning.specs.Fraction.{Fraction, ◌≼◌, ◌≈◌, whole}
use Rattle.meaning.specs.Sets.{End, at, span, Member, Under, under, Over, over, mirror_end}
use Rattle.meaning.specs.Classes.{Class, below_zero, at_zero, above_zero, LowerNegative, lower_number, lower_none, UpperPositive, upper_number, upper_none, ClassOf, is_m, is_n0, is_n1, is_p0, is_p1, is_z}
use Rattle.meaning.proofs.FractionLaws.{le_trans, lt_le, eq_le, eq_ge, antisymm, neg_le, neg_lt, neg_eq}
use Rattle.theorem3.specs.declared.Kind.{Kind}
use Rattle.theorem3.specs.Tables.{kind_of, mirror_kind}
use Rattle.theorem3.proofs.Products.{NotNegative, NotPositive}

pub data KindOf : End → End → Kind → Type 0 where
  of_m : {a b : End} → LowerNegative a → UpperPositive b → KindOf a b Kind.M
  of_n : {a : End} {q : Fraction} → LowerNegative a → q ≼ whole 0 → KindOf a (at q) Kind.N
  of_p : {q : Fraction} {b : End} → whole 0 ≼ q → UpperPositive b → KindOf (at q) b Kind.P
  of_z : {p q : Fraction} → p ≈ whole 0 → q ≈ whole 0 → KindOf (at p) (at q) Kind.Z

pub kind_of_lem : {a b : End} {k : Class} → ClassOf (span a b) k → KindOf a b (kind_of k)
kind_of_lem (is_m l u) = of_m l u
kind_of_lem (is_n0 l (at_zero e)) = of_n l (eq_le e)
kind_of_lem (is_n1 l (below_zero h)) = of_n l (lt_le h)
kind_of_lem (is_p0 (at_zero e) u) = of_p (eq_ge e) u
kind_of_lem (is_p1 (above_zero h) u) = of_p (lt_le h) u
kind_of_lem (is_z (at_zero e) (at_zero f)) = of_z e f

-- A negative lower end is a positive upper end of the mirror image.
pub mirror_positive : {a : End} → LowerNegative a → UpperPositive (mirror_end a)
mirror_positive (lower_number h) = upper_number (neg_lt h)
mirror_positive lower_none = upper_none

-- A positive upper end is a negative lower end of the mirror image.
pub mirror_negative : {b : End} → UpperPositive b → LowerNegative (mirror_end b)
mirror_negative (upper_number h) = lower_number (neg_lt h)
mirror_negative upper_none = lower_none

pub mirror_kind_lem : {a b : End} {m : Kind} → KindOf a b m → KindOf (mirror_end b) (mirror_end a) (mirror_kind m)
mirror_kind_lem (of_m l u) = of_m (mirror_negative u) (mirror_positive l)
mirror_kind_lem (of_n l n) = of_p (neg_le n) (mirror_positive l)
mirror_kind_lem (of_p n u) = of_n (mirror_negative u) (neg_le n)
mirror_kind_lem (of_z e f) = of_z (neg_eq f) (neg_eq e)

pub not_negative : {q : Fraction} {b : End} → whole 0 ≼ q → NotNegative (Member (span (at q) b))
not_negative {q} h x m = go m.low
  where
    go : Over x (at q) → whole 0 ≼ x
    go (over k) = le_trans h k

pub not_positive : {a : End} {q : Fraction} → q ≼ whole 0 → NotPositive (Member (span a (at q)))
not_positive {q = q} h x m = go m.high
  where
    go : Under x (at q) → x ≼ whole 0
    go (under k) = le_trans k h

pub only_zero : {p q : Fraction} → p ≈ whole 0 → q ≈ whole 0 → (x : Fraction) → Member (span (at p) (at q)) x → x ≈ whole 0
only_zero e f x m = antisymm (not_positive (eq_le f) x m) (not_negative (eq_ge e) x m)
