-- The quotient's table gives the true upper ends.
use Rattle.meaning.specs.Fraction.{Fraction, ◌≼◌, ◌≺◌, ◌≈◌, ◌⊗◌, negated, whole}
use Rattle.meaning.specs.Sets.{End, at, unbounded, Set, span, Member, Inside, Over, over, over_none, Ordered, ordered, no_upper, mirror_end, mirror, SameEnd, same_number, same_none}
use Rattle.meaning.specs.Classes.{class_m, class_n0, class_n1, class_p0, class_p1, LowerNegative, lower_number, lower_none, UpperPositive, upper_number, upper_none}
use Rattle.meaning.specs.Supremum.{Supremum}
use Rattle.meaning.proofs.FractionLaws.{le_refl, le_trans, lt_le, lt_not_le, eq_refl, eq_ge, eq_sym, eq_trans, neg_lt, neg_eq, mul_zero, mul_eq_left}
use Rattle.meaning.proofs.SetLaws.{some_member, mirror_ordered, member_mirror, mirror_member}
use Rattle.meaning.proofs.SupremumLaws.{sup_same}
use Rattle.theorem3.specs.declared.Kind.{Kind}
use Rattle.theorem3.specs.Ends.{reciprocal, product_end, quotient_end}
use Rattle.theorem3.specs.Tables.{mirror_kind, quotient_upper}
use Rattle.theorem3.proofs.Bounds.{Below, same_supremum, no_supremum, upper_supremum}
use Rattle.theorem3.proofs.Scaling.{recip_positive}
use Rattle.theorem3.proofs.Products.{Products, top_times_top, bottom_times_top, zero_product, mul_neg_neg}
use Rattle.theorem3.proofs.KindLaws.{KindOf, of_m, of_n, of_p, of_z, mirror_positive, mirror_negative, mirror_kind_lem, only_zero}
use Rattle.theorem3.proofs.Reciprocals.{Reciprocals, recips_not_negative, recip_top, recip_no_top, recip_bottom, turn, unturn, recip_negated, some_recip}

-- Products of members of X and reciprocals of members of Y.
abbrev pub Ratios : Set → Set → Fraction → Type 0
Ratios X Y = Products (Member X) (Reciprocals Y)

product_quotient : (b : End) (q : Fraction) → SameEnd (product_end b (at (reciprocal q))) (quotient_end b (at q))
product_quotient (at p) q = same_number (eq_refl (p ⊗ reciprocal q))
product_quotient unbounded q = same_none

product_unbounded : (b : End) → SameEnd (product_end b unbounded) unbounded
product_unbounded (at p) = same_none
product_unbounded unbounded = same_none

-- Divisors with no negative member.
module _ {a b : End} {q : Fraction} {d : End} (h : Ordered a b) (k : Ordered (at q) d) (v : UpperPositive d) where
  -- A positive upper end over a positive lower one.
  up_over : UpperPositive b → whole 0 ≺ q → Supremum (Ratios (span a b) (span (at q) d)) (quotient_end b (at q))
  up_over u p =
      sup_same (product_quotient b q)
      (top_times_top (upper_number (recip_positive q p)) (recip_top p k) (recips_not_negative (lt_le p)) u (upper_supremum h))

  -- A positive upper end over members that come down to 0.
  up_over_zero : UpperPositive b → q ≈ whole 0 → Supremum (Ratios (span a b) (span (at q) d)) unbounded
  up_over_zero u e =
      sup_same (product_unbounded b)
      (top_times_top upper_none (recip_no_top e v) (recips_not_negative (eq_ge e)) u (upper_supremum h))

  zero_over : whole 0 ≼ q → ((x : Fraction) → Member (span a b) x → x ≈ whole 0) → Supremum (Ratios (span a b) (span (at q) d)) (at (whole 0))
  zero_over n zeros =
      let x = some_member h in
      let r = some_recip n v k in
      zero_product zeros x.0 r.0 x.1 r.1

-- No positive member over a positive upper end, which may be infinite.
down_over : {a d : End} {p q : Fraction} → Ordered a (at p) → Ordered (at q) d → UpperPositive d → p ≼ whole 0 → whole 0 ≼ q
    → Supremum (Ratios (span a (at p)) (span (at q) d)) (quotient_end (at p) d)
down_over {d = at s} h k v n o =
    let x = some_member h in
    let r = some_recip o v k in
    bottom_times_top (upper_supremum h) (recip_bottom o v k) n (recips_not_negative o) x.0 r.0 x.1 r.1
down_over {d = unbounded} {p} h k v n o =
    let x = some_member h in
    let r = some_recip o v k in
    sup_same (same_number (mul_zero p))
    (bottom_times_top (upper_supremum h) (recip_bottom o v k) n (recips_not_negative o) x.0 r.0 x.1 r.1)

pub by_positive : {a b d : End} {q : Fraction} {j : Kind} → Ordered a b → Ordered (at q) d → UpperPositive d → whole 0 ≺ q → KindOf a b j
    → Supremum (Ratios (span a b) (span (at q) d)) (quotient_upper j class_p1 a b (at q) d)
by_positive h k v p (of_m l u) = up_over h k v u p
by_positive h k v p (of_n l n) = down_over h k v n (lt_le p)
by_positive h k v p (of_p n u) = up_over h k v u p
by_positive h k v p (of_z e f) = zero_over h k v (lt_le p) (only_zero e f)

pub by_zero_up : {a b d : End} {q : Fraction} {j : Kind} → Ordered a b → Ordered (at q) d → UpperPositive d → q ≈ whole 0 → KindOf a b j
    → Supremum (Ratios (span a b) (span (at q) d)) (quotient_upper j class_p0 a b (at q) d)
by_zero_up h k v z (of_m l u) = up_over_zero h k v u z
by_zero_up h k v z (of_n l n) = down_over h k v n (eq_ge z)
by_zero_up h k v z (of_p n u) = up_over_zero h k v u z
by_zero_up h k v z (of_z e f) = zero_over h k v (eq_ge z) (only_zero e f)

-- Both operands mirrored have the same quotients.
mirrored_ratios : (X Y : Set) {u : End} → Supremum (Ratios (mirror X) (mirror Y)) u → Supremum (Ratios X Y) u
mirrored_ratios X Y s =
    same_supremum
    (λ r m. (
      r,
      record {
        x = negated m.x;
        y = negated m.y;
        in_a = member_mirror X m.x m.in_a;
        in_b = turn Y m.y m.in_b;
        makes = eq_trans m.makes (eq_sym (mul_neg_neg m.x m.y));
      },
      le_refl r,
    ))
    (λ r m. (
      r,
      record {
        x = negated m.x;
        y = negated m.y;
        in_a = mirror_member X m.x m.in_a;
        in_b = unturn Y m.y m.in_b;
        makes = eq_trans m.makes (eq_sym (mul_neg_neg m.x m.y));
      },
      le_refl r,
    ))
    s

pub negative_not_zero : {q : Fraction} → q ≺ whole 0 → q ≈ whole 0 → ⊥
negative_not_zero h e = lt_not_le h (eq_ge e)

-- A quotient of two ends is that of their negatives.
mirrored_number : (p q : Fraction) → q ≺ whole 0 → negated p ⊗ reciprocal (negated q) ≈ p ⊗ reciprocal q
mirrored_number p q h =
    eq_trans (mul_eq_left (negated p) (recip_negated q (negative_not_zero h))) (mul_neg_neg p (reciprocal q))

mirrored_over : (a : End) (q : Fraction) → q ≺ whole 0 → SameEnd (quotient_end (mirror_end a) (at (negated q))) (quotient_end a (at q))
mirrored_over (at p) q h = same_number (mirrored_number p q h)
mirrored_over unbounded q h = same_none

mirrored_under : (p : Fraction) {c : End} → LowerNegative c → SameEnd (quotient_end (at (negated p)) (mirror_end c)) (quotient_end (at p) c)
mirrored_under p (lower_number {q} h) = same_number (mirrored_number p q h)
mirrored_under p lower_none = same_number (eq_refl (whole 0))

-- By a divisor with no positive member: both operands mirrored, where the corner is the same.
module _ {a b c : End} {q : Fraction} {j : Kind} (h : Ordered a b) (k : Ordered c (at q)) (m : LowerNegative c) (kind : KindOf a b j) where
  pub by_negative : q ≺ whole 0 → Supremum (Ratios (span a b) (span c (at q))) (quotient_upper j class_n1 a b c (at q))
  by_negative p =
      mirrored_ratios (span a b) (span c (at q))
      (sup_same (same kind) (by_positive (mirror_ordered h) (mirror_ordered k) (mirror_positive m) (neg_lt p) (mirror_kind_lem kind)))
    where
      same : {a b : End} {j : Kind} → KindOf a b j
          → SameEnd (quotient_upper (mirror_kind j) class_p1 (mirror_end b) (mirror_end a) (at (negated q)) (mirror_end c)) (quotient_upper j class_n1 a b c (at q))
      same {a} (of_m l u) = mirrored_over a q p
      same {a} (of_n l n) = mirrored_over a q p
      same (of_p {q = o} n u) = mirrored_under o m
      same (of_z e f) = same_number (eq_refl (whole 0))

  pub by_zero_down : q ≈ whole 0 → Supremum (Ratios (span a b) (span c (at q))) (quotient_upper j class_n0 a b c (at q))
  by_zero_down z =
      mirrored_ratios (span a b) (span c (at q))
      (sup_same (same kind) (by_zero_up (mirror_ordered h) (mirror_ordered k) (mirror_positive m) (neg_eq z) (mirror_kind_lem kind)))
    where
      same : {a b : End} {j : Kind} → KindOf a b j
          → SameEnd (quotient_upper (mirror_kind j) class_p0 (mirror_end b) (mirror_end a) (at (negated q)) (mirror_end c)) (quotient_upper j class_n0 a b c (at q))
      same (of_m l u) = same_none
      same (of_n l n) = same_none
      same (of_p {q = o} n u) = mirrored_under o m
      same (of_z e f) = same_number (eq_refl (whole 0))

-- Fewer divisors make fewer quotients.
fewer : (X Y Z : Set) → Inside Z Y → Below (Ratios X Z) (Ratios X Y)
fewer X Y Z inside r m = (
  r,
  record {
    x = m.x;
    y = m.y;
    in_a = m.in_a;
    in_b = record { y = m.in_b.y; in_y = inside m.in_b.y m.in_b.in_y; not_zero = m.in_b.not_zero; makes = m.in_b.makes };
    makes = m.makes;
  },
  le_refl r,
)

pub from_zero : {d : End} → UpperPositive d → Ordered (at (whole 0)) d
from_zero (upper_number h) = ordered (lt_le h)
from_zero upper_none = no_upper

-- The part from 0 up of a span with a negative lower end.
pub upper_part : {c d : End} → LowerNegative c → Inside (span (at (whole 0)) d) (span c d)
upper_part m x h = record { low = lower m h.low; high = h.high }
  where
    lower : {c : End} → LowerNegative c → Over x (at (whole 0)) → Over x c
    lower (lower_number n) (over k) = over (le_trans (lt_le n) k)
    lower lower_none k = over_none

unbounded_up : {a b c d : End} → Ordered a b → LowerNegative c → UpperPositive d → UpperPositive b → Supremum (Ratios (span a b) (span c d)) unbounded
unbounded_up {a} {b} {c} {d} h m v u =
    no_supremum (fewer (span a b) (span c d) (span (at (whole 0)) d) (upper_part m)) (up_over_zero h (from_zero v) v u (eq_refl (whole 0)))

pub by_both : {a b c d : End} {j : Kind} → Ordered a b → LowerNegative c → UpperPositive d → KindOf a b j
    → Supremum (Ratios (span a b) (span c d)) (quotient_upper j class_m a b c d)
by_both h m v (of_m l u) = unbounded_up h m v u
by_both {a} {b} {c} {d} h m v (of_n l n) =
    mirrored_ratios (span a b) (span c d) (unbounded_up (mirror_ordered h) (mirror_negative v) (mirror_positive m) (mirror_positive l))
by_both h m v (of_p n u) = unbounded_up h m v u
by_both {c = c} {d} h m v (of_z e f) =
    let x = some_member h in
    let r = some_recip (le_refl (whole 0)) v (from_zero v) in
    zero_product (only_zero e f) x.0 r.0 x.1
    (record { y = r.1.y; in_y = upper_part m r.1.y r.1.in_y; not_zero = r.1.not_zero; makes = r.1.makes })
