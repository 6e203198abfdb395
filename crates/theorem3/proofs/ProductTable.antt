-- The product's table gives the true upper ends.
use Rattle.meaning.specs.Fraction.{Fraction, ◌≼◌, ◌≈◌, ◌⊗◌, negated, whole}
use Rattle.meaning.specs.Sets.{End, at, unbounded, span, Member, Ordered, mirror_end, SameEnd, same_number, same_none}
use Rattle.meaning.specs.Classes.{LowerNegative}
use Rattle.meaning.specs.Supremum.{Supremum}
use Rattle.meaning.proofs.FractionLaws.{mul_comm, neg_le}
use Rattle.meaning.proofs.SetLaws.{some_member}
use Rattle.meaning.proofs.SupremumLaws.{same_most, same_sym, sup_same}
use Rattle.theorem3.specs.declared.Kind.{Kind}
use Rattle.theorem3.specs.Ends.{product_end, greater_end}
use Rattle.theorem3.specs.Tables.{product_upper}
use Rattle.theorem3.proofs.Bounds.{upper_supremum, lower_supremum, greater_most, most_first, most_second}
use Rattle.theorem3.proofs.Products.{Products, top_times_top, bottom_times_top, both_signs, zero_product, exchanged, mirrored_both, mul_neg_neg}
use Rattle.theorem3.proofs.KindLaws.{KindOf, of_m, of_n, of_p, of_z, mirror_positive, not_negative, not_positive, only_zero}

mirrored_ends : (a c : End) → SameEnd (product_end (mirror_end a) (mirror_end c)) (product_end a c)
mirrored_ends (at p) (at q) = same_number (mul_neg_neg p q)
mirrored_ends (at p) unbounded = same_none
mirrored_ends unbounded c = same_none

exchanged_ends : (a c : End) → SameEnd (product_end a c) (product_end c a)
exchanged_ends (at p) (at q) = same_number (mul_comm p q)
exchanged_ends (at p) unbounded = same_none
exchanged_ends unbounded (at q) = same_none
exchanged_ends unbounded unbounded = same_none

greater_swapped : {R : Fraction → Type 0} (u v w : End) → SameEnd v w → Supremum R (greater_end u v) → Supremum R (greater_end w u)
greater_swapped u v w e s =
    record {
      bounds = λ x h. s.bounds x (greater_most x u v (most_second x w u h) (same_most (same_sym e) (most_first x w u h)));
      least = λ x h. greater_most x w u (same_most e (most_second x u v (s.least x h))) (most_first x u v (s.least x h));
    }

-- A negative lower end on both sides, and no positive member on the second.
both_down : {a b c : End} {q : Fraction} → Ordered a b → Ordered c (at q) → LowerNegative a → LowerNegative c → q ≼ whole 0
    → Supremum (Products (Member (span a b)) (Member (span c (at q)))) (product_end a c)
both_down {a} {c = c} h k l m n =
    sup_same (mirrored_ends a c)
    (mirrored_both
    (top_times_top (mirror_positive m) (lower_supremum k) (λ y b. neg_le (not_positive n (negated y) b)) (mirror_positive l) (lower_supremum h)))

-- No positive member on the first side and no negative one on the second.
down_up : {a d : End} {p q : Fraction} → Ordered a (at p) → Ordered (at q) d → p ≼ whole 0 → whole 0 ≼ q
    → Supremum (Products (Member (span a (at p))) (Member (span (at q) d))) (at (p ⊗ q))
down_up h k n o =
    let x = some_member h in
    let y = some_member k in
    bottom_times_top (upper_supremum h) (lower_supremum k) n (not_negative o) x.0 y.0 x.1 y.1

times_zero : {a b : End} {p q : Fraction} → Ordered a b → Ordered (at p) (at q) → p ≈ whole 0 → q ≈ whole 0
    → Supremum (Products (Member (span a b)) (Member (span (at p) (at q)))) (at (whole 0))
times_zero h k e f =
    let x = some_member h in
    let y = some_member k in
    exchanged (zero_product (only_zero e f) y.0 x.0 y.1 x.1)

-- The table's entry is the true upper end of the products.
pub product_top : {a b c d : End} {j k : Kind} → Ordered a b → Ordered c d → KindOf a b j → KindOf c d k
    → Supremum (Products (Member (span a b)) (Member (span c d))) (product_upper j k a b c d)
product_top {a} {b} {c} {d} h k (of_m l u) (of_m m v) =
    greater_swapped (product_end b d) (product_end (mirror_end a) (mirror_end c)) (product_end a c) (mirrored_ends a c)
    (both_signs u v (mirror_positive l) (mirror_positive m) (upper_supremum h) (upper_supremum k) (lower_supremum h) (lower_supremum k))
product_top {a} {c = c} h k (of_m l u) (of_n m n) = both_down h k l m n
product_top h k (of_m l u) (of_p n v) = top_times_top v (upper_supremum k) (not_negative n) u (upper_supremum h)
product_top {a} {b} {c} {d} h k (of_n l n) (of_m m v) = sup_same (exchanged_ends c a) (exchanged (both_down k h m l n))
product_top h k (of_n l n) (of_n m o) = both_down h k l m o
product_top h k (of_n l n) (of_p o v) = down_up h k n o
product_top {b = b} {d = d} h k (of_p n u) (of_m m v) =
    sup_same (exchanged_ends d b) (exchanged (top_times_top u (upper_supremum h) (not_negative n) v (upper_supremum k)))
product_top {a} {d = d} h k (of_p n u) (of_n m o) = sup_same (exchanged_ends d a) (exchanged (down_up k h o n))
product_top h k (of_p n u) (of_p o v) = top_times_top v (upper_supremum k) (not_negative o) u (upper_supremum h)
product_top h k (of_m l u) (of_z e f) = times_zero h k e f
product_top h k (of_n l n) (of_z e f) = times_zero h k e f
product_top h k (of_p n u) (of_z e f) = times_zero h k e f
product_top h k (of_z e f) o = exchanged (times_zero k h e f)
