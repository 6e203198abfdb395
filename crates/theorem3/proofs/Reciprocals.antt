-- Reciprocals of the members of a span, and their true bounds.
use mathlib.Core.Logic.{⊎_elim}
use lib.Dec.{lit<}
use Rattle.meaning.specs.Fraction.{Fraction, ◌≼◌, ◌≺◌, ◌≈◌, ◌⊗◌, negated, whole}
use Rattle.meaning.specs.Sets.{End, at, unbounded, Set, span, Member, Under, under, under_none, Over, over, Ordered, mirror_end, mirror}
use Rattle.meaning.specs.Classes.{UpperPositive, upper_number, upper_none}
use Rattle.meaning.specs.Supremum.{UpperBound, at_most, Supremum, Mirrored}
use Rattle.meaning.proofs.FractionLaws.{le_trans, lt_le, lt_not_le, le_or_lt, not_lt, lt_le_trans, le_lt_trans, eq_le, eq_ge, eq_trans, eq_sym, neg_le, neg_lt, neg_eq, antisymm, mul_left, mul_comm, mul_assoc, mul_one, mul_eq_right, mul_eq_left}
use Rattle.meaning.proofs.SetLaws.{next, lower_member, upper_member, upper_beyond, member_mirror, mirror_member, below_next}
use Rattle.meaning.proofs.SupremumLaws.{at_most_lem, never_most}
use Rattle.theorem3.specs.Ends.{reciprocal, recip_end, greater}
use Rattle.theorem3.proofs.Bounds.{attained, greater_first_lem, greater_second_lem}
use Rattle.theorem3.proofs.Scaling.{recip_times, recip_positive, divide}
use Rattle.theorem3.proofs.Products.{NotNegative, mul_neg_neg}

-- r is 1 / y for some y in Y that is not 0.
pub record Reciprocals (Y : Set) (r : Fraction) : Type 0 where
  pub y : Fraction
  pub in_y : Member Y y
  pub not_zero : y ≈ whole 0 → ⊥
  pub makes : r ⊗ y ≈ whole 1

pub positive_not_zero : {y : Fraction} → whole 0 ≺ y → y ≈ whole 0 → ⊥
positive_not_zero p e = lt_not_le p (eq_le e)

-- Two numbers with the same product by y, which is not 0, are the same.
pub recip_unique : (r s y : Fraction) → r ⊗ y ≈ whole 1 → s ⊗ y ≈ whole 1 → r ≈ s
recip_unique r s y h k =
    eq_trans (eq_sym (mul_one r))
    (eq_trans (mul_eq_left r (eq_sym k))
    (eq_trans (eq_sym (mul_assoc r s y))
    (eq_trans (mul_eq_right y (mul_comm r s)) (eq_trans (mul_assoc s r y) (eq_trans (mul_eq_left s h) (mul_one s))))))

-- The reciprocal of a greater positive number is less.
pub recip_le : (x y : Fraction) → whole 0 ≺ x → x ≼ y → reciprocal y ≼ reciprocal x
recip_le x y p h =
    let q = lt_le_trans p h in
    let e = recip_times y (positive_not_zero q) in
    le_trans (divide (reciprocal y) x (whole 1) p (le_trans (mul_left (reciprocal y) (lt_le (recip_positive y q)) h) (eq_le e)))
    (eq_le (eq_trans (mul_comm (whole 1) (reciprocal x)) (mul_one (reciprocal x))))

pub recip_recip : (y : Fraction) → whole 0 ≺ y → reciprocal (reciprocal y) ≈ y
recip_recip y p =
    recip_unique (reciprocal (reciprocal y)) y (reciprocal y)
    (recip_times (reciprocal y) (positive_not_zero (recip_positive y p)))
    (eq_trans (mul_comm y (reciprocal y)) (recip_times y (positive_not_zero p)))

-- The reciprocal of a positive member.
of_positive : (Y : Set) (y : Fraction) → Member Y y → whole 0 ≺ y → Reciprocals Y (reciprocal y)
of_positive Y y m p =
    record { y = y; in_y = m; not_zero = positive_not_zero p; makes = recip_times y (positive_not_zero p) }

-- Where no member is negative.
module _ {q : Fraction} {d : End} (not_negative : whole 0 ≼ q) where
  positive_member : (y : Fraction) → Member (span (at q) d) y → (y ≈ whole 0 → ⊥) → whole 0 ≺ y
  positive_member y m z = ⊎_elim (λ h. absurd (z (antisymm h (le_trans not_negative (lower m.low))))) (λ h. h) (le_or_lt y (whole 0))
    where
      lower : {y : Fraction} → Over y (at q) → q ≼ y
      lower (over h) = h

  -- A reciprocal is that of a positive member.
  as_recip : (r : Fraction) (m : Reciprocals (span (at q) d) r) → (whole 0 ≺ m.y) × (r ≈ reciprocal m.y)
  as_recip r m =
      let p = positive_member m.y m.in_y m.not_zero in
      (p, recip_unique r (reciprocal m.y) m.y m.makes (recip_times m.y m.not_zero))

  pub recips_not_negative : NotNegative (Reciprocals (span (at q) d))
  recips_not_negative r m = let t = as_recip r m in le_trans (lt_le (recip_positive m.y t.0)) (eq_ge t.1)

-- Above: 1 / c, or no bound where the lower end is 0.
pub recip_top : {q : Fraction} {d : End} → whole 0 ≺ q → Ordered (at q) d → Supremum (Reciprocals (span (at q) d)) (at (reciprocal q))
recip_top {q} {d} p h =
    attained (reciprocal q) (of_positive (span (at q) d) q (lower_member h) p)
    (λ r m.
    let t = as_recip (lt_le p) r m in
    le_trans (eq_le t.1) (recip_le q m.y p (lower m.in_y.low)))
  where
    lower : {y : Fraction} → Over y (at q) → q ≼ y
    lower (over k) = k

-- Nothing bounds the reciprocals of all positive numbers up to p.
no_bound : (p w : Fraction) → whole 0 ≺ p → ((y : Fraction) → whole 0 ≺ y → y ≼ p → reciprocal y ≼ w) → ⊥
no_bound p w h k =
    let v = greater (reciprocal p) (next w) in
    let pv = lt_le_trans (recip_positive p h) (greater_first_lem (reciprocal p) (next w)) in
    let small = le_trans (recip_le (reciprocal p) v (recip_positive p h) (greater_first_lem (reciprocal p) (next w))) (eq_le (recip_recip p h)) in
    lt_not_le (below_next w)
    (le_trans (greater_second_lem (reciprocal p) (next w))
    (le_trans (eq_ge (recip_recip v pv)) (k (reciprocal v) (recip_positive v pv) small)))

no_bound_under : {w : Fraction} (d : End) → UpperPositive d → ((y : Fraction) → whole 0 ≺ y → Under y d → reciprocal y ≼ w) → ⊥
no_bound_under {w} (at p) (upper_number h) k = no_bound p w h (λ y i j. k y i (under j))
no_bound_under {w} unbounded upper_none k = no_bound (whole 1) w (record { lt = lit< tt }) (λ y i j. k y i under_none)

pub recip_no_top : {q : Fraction} {d : End} → q ≈ whole 0 → UpperPositive d → Supremum (Reciprocals (span (at q) d)) unbounded
recip_no_top {q} {d} e u =
    record {
      bounds = λ w m. absurd (never_most m);
      least = λ w m. absurd (no_bound_under d u (λ y k l. m (reciprocal y) (of_positive (span (at q) d) y (member y k l) k)));
    }
  where
    member : (y : Fraction) → whole 0 ≺ y → Under y d → Member (span (at q) d) y
    member y k l = record { low = over (le_trans (eq_le e) (lt_le k)); high = l }

-- Below: 1 / d, or 0, approached, where there is no upper end.
pub recip_bottom : {q : Fraction} {d : End} → whole 0 ≼ q → UpperPositive d → Ordered (at q) d
    → Supremum (Mirrored (Reciprocals (span (at q) d))) (mirror_end (recip_end d))
recip_bottom {q} {d = at p} n (upper_number h) k =
    attained (negated (reciprocal p)) (of_positive (span (at q) (at p)) p (upper_member k) h)
    (λ r m.
    let t = as_recip n (negated r) m in
    neg_le (le_trans (recip_le m.y p t.0 (upper m.in_y.high)) (eq_ge t.1)))
  where
    upper : {y : Fraction} → Under y (at p) → y ≼ p
    upper (under l) = l
recip_bottom {q} {d = unbounded} n upper_none k =
    record {
      bounds = λ w h r m. le_trans (neg_le (recips_not_negative n (negated r) m)) (at_most_lem h);
      least = λ w h. at_most (not_lt (λ l. beyond w l h (upper_beyond (at q) (reciprocal (negated w)))));
    }
  where
    beyond : (w : Fraction) → w ≺ whole 0 → UpperBound (Mirrored (Reciprocals (span (at q) unbounded))) w
        → (x : Fraction) × Member (span (at q) unbounded) x × (reciprocal (negated w) ≺ x) → ⊥
    beyond w l h t =
        let p = neg_lt l in
        let py = le_lt_trans (lt_le (recip_positive (negated w) p)) t.2 in
        let low = neg_le (h (negated (reciprocal t.0)) (of_positive (span (at q) unbounded) t.0 t.1 py)) in
        lt_not_le t.2 (le_trans (eq_ge (recip_recip t.0 py)) (recip_le (negated w) (reciprocal t.0) p low))

-- The reciprocals of the mirror image are the negatives.
pub turn : (Y : Set) (r : Fraction) → Reciprocals Y r → Reciprocals (mirror Y) (negated r)
turn Y r m =
    record {
      y = negated m.y;
      in_y = member_mirror Y m.y m.in_y;
      not_zero = λ e. m.not_zero (neg_eq e);
      makes = eq_trans (mul_neg_neg r m.y) m.makes;
    }

pub unturn : (Y : Set) (r : Fraction) → Reciprocals (mirror Y) r → Reciprocals Y (negated r)
unturn Y r m =
    record {
      y = negated m.y;
      in_y = mirror_member Y m.y m.in_y;
      not_zero = λ e. m.not_zero (neg_eq e);
      makes = eq_trans (mul_neg_neg r m.y) m.makes;
    }

pub recip_negated : (y : Fraction) → (y ≈ whole 0 → ⊥) → reciprocal (negated y) ≈ negated (reciprocal y)
recip_negated y h =
    recip_unique (reciprocal (negated y)) (negated (reciprocal y)) (negated y) (recip_times (negated y) (λ e. h (neg_eq e)))
    (eq_trans (mul_neg_neg (reciprocal y) y) (recip_times y h))

-- A span with a positive upper end and no negative member has a reciprocal.
pub some_recip : {q : Fraction} {d : End} → whole 0 ≼ q → UpperPositive d → Ordered (at q) d → (r : Fraction) × Reciprocals (span (at q) d) r
some_recip {q} {d = at p} n (upper_number h) k = (reciprocal p, of_positive (span (at q) (at p)) p (upper_member k) h)
some_recip {q} {d = unbounded} n upper_none k =
    let t = upper_beyond (at q) (whole 0) in (reciprocal t.0, of_positive (span (at q) unbounded) t.0 t.1 t.2)
