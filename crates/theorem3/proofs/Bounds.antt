-- True upper bounds of sets of fractions, in general.
use mathlib.Core.Bool.{Bool, true, false}
use mathlib.Core.Path.{◌≡◌, ap, subst, subst⁻¹}
use Prim.Native.Nat.{◌+◌, ◌*◌}
use borrow.Author.Tests.{le-leb, lt-leb}
use lib.Dec.{leb}
use mathlib.Core.Logic.{◌⊎◌, inl, inr, ⊎_elim}
use Rattle.meaning.specs.Fraction.{Fraction, ◌≼◌, ◌≺◌, negated}
use Rattle.meaning.specs.Sets.{End, at, unbounded, span, Member, Under, under, Ordered, mirror_end}
use Rattle.meaning.specs.Supremum.{UpperBound, AtMost, at_most, Supremum, Mirrored}
use Rattle.meaning.proofs.FractionLaws.{le_refl, le_trans, lt_le, lt_not_le, le_or_lt}
use Rattle.meaning.proofs.SetLaws.{upper_member, upper_beyond, mirror_ordered, member_mirror, mirror_member}
use Rattle.meaning.proofs.SupremumLaws.{at_most_lem, never_most}
use Rattle.theorem3.specs.Ends.{pick_fraction, greater, greater_end}

-- Each of R is at most one of S.
abbrev pub Below : (R S : Fraction → Type 0) → Type 0
Below R S = (r : Fraction) → R r → (s : Fraction) × S s × (r ≼ s)

bound_below : {R S : Fraction → Type 0} → Below R S → (w : Fraction) → UpperBound S w → UpperBound R w
bound_below h w k r m = let t = h r m in le_trans t.2 (k t.0 t.1)

-- Sets that reach as high as each other have the same true upper bound.
pub same_supremum : {R S : Fraction → Type 0} {u : End} → Below R S → Below S R → Supremum S u → Supremum R u
same_supremum h k s =
    record {
      bounds = λ w m. bound_below h w (s.bounds w m);
      least = λ w m. s.least w (bound_below k w m);
    }

-- What reaches as high as a set with no upper bound has none.
pub no_supremum : {R S : Fraction → Type 0} → Below S R → Supremum S unbounded → Supremum R unbounded
no_supremum k s = record { bounds = λ w m. absurd (never_most m); least = λ w m. s.least w (bound_below k w m) }

-- A greatest member is the true upper bound.
pub attained : {R : Fraction → Type 0} (u : Fraction) → R u → UpperBound R u → Supremum R (at u)
attained u m h =
    record { bounds = λ w k r l. le_trans (h r l) (at_most_lem k); least = λ w k. at_most (k u m) }

-- The upper end of a valid span is its true upper bound.
pub upper_supremum : {a b : End} → Ordered a b → Supremum (Member (span a b)) b
upper_supremum {a} {b = at q} h = attained q (upper_member h) (λ r m. below m.high)
  where
    below : {r : Fraction} → Under r (at q) → r ≼ q
    below (under k) = k
upper_supremum {a} {b = unbounded} h =
    record { bounds = λ w m. absurd (never_most m); least = λ w k. absurd (beyond w k (upper_beyond a w)) }
  where
    beyond : (w : Fraction) → UpperBound (Member (span a unbounded)) w → (x : Fraction) × Member (span a unbounded) x × (w ≺ x) → ⊥
    beyond w k t = lt_not_le t.2 (k t.0 t.1)

-- The mirrored lower end is the true upper bound of the mirror image.
pub lower_supremum : {a b : End} → Ordered a b → Supremum (Mirrored (Member (span a b))) (mirror_end a)
lower_supremum {a} {b} h =
    same_supremum
    (λ r m. (r, member_mirror (span a b) (negated r) m, le_refl r))
    (λ r m. (r, mirror_member (span a b) r m, le_refl r))
    (upper_supremum (mirror_ordered h))

-- The greater of two fractions is one of them, and not below either.
pub greater_cases : (x y : Fraction) → ((greater x y ≡ y) × (x ≼ y)) ⊎ ((greater x y ≡ x) × (y ≼ x))
unfolding greater
greater_cases x y = ⊎_elim (λ h. inl (picked true (le-leb _ _ h.le), h)) (λ h. inr (picked false (lt-leb _ _ h.lt), lt_le h)) (le_or_lt x y)
  where
    picked : (t : Bool) → leb (x.up * y.over + y.down * x.over) (y.up * x.over + x.down * y.over) ≡ t
        → pick_fraction (leb (x.up * y.over + y.down * x.over) (y.up * x.over + x.down * y.over)) y x ≡ pick_fraction t y x
    picked t e = ap (λ (t : Bool). pick_fraction t y x) e

-- w is not below the greater end exactly if it is not below either.
pub greater_most : (w : Fraction) (u v : End) → AtMost w u → AtMost w v → AtMost w (greater_end u v)
greater_most w (at x) (at y) (at_most h) (at_most k) =
    at_most
    (⊎_elim (λ c. subst⁻¹ (λ (q : Fraction). q ≼ w) c.0 k) (λ c. subst⁻¹ (λ (q : Fraction). q ≼ w) c.0 h) (greater_cases x y))
greater_most w (at x) unbounded h k = k
greater_most w unbounded v h k = h

pub most_first : (w : Fraction) (u v : End) → AtMost w (greater_end u v) → AtMost w u
most_first w (at x) (at y) (at_most h) =
    at_most
    (⊎_elim (λ c. le_trans c.1 (subst (λ (q : Fraction). q ≼ w) c.0 h)) (λ c. subst (λ (q : Fraction). q ≼ w) c.0 h) (greater_cases x y))
most_first w (at x) unbounded h = absurd (never_most h)
most_first w unbounded v h = h

pub most_second : (w : Fraction) (u v : End) → AtMost w (greater_end u v) → AtMost w v
most_second w (at x) (at y) (at_most h) =
    at_most
    (⊎_elim (λ c. subst (λ (q : Fraction). q ≼ w) c.0 h) (λ c. le_trans c.1 (subst (λ (q : Fraction). q ≼ w) c.0 h)) (greater_cases x y))
most_second w (at x) unbounded h = h
most_second w unbounded v h = absurd (never_most h)

pub greater_first_lem : (x y : Fraction) → x ≼ greater x y
greater_first_lem x y = at_most_lem (most_first (greater x y) (at x) (at y) (at_most (le_refl (greater x y))))

pub greater_second_lem : (x y : Fraction) → y ≼ greater x y
greater_second_lem x y = at_most_lem (most_second (greater x y) (at x) (at y) (at_most (le_refl (greater x y))))
