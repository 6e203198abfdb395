-- The tables give the true bounds of each arithmetic operation's results.
use native.Mathlib.Omega.{arith}
use Rattle.meaning.specs.Fraction.{Fraction, ◌≼◌, ◌≈◌, ◌⊕◌, ◌⊗◌, negated, whole}
use Rattle.meaning.specs.Sets.{End, at, unbounded, Set, span, Member, Ordered, Valid, valid_empty, valid_span, mirror_end, mirror}
use Rattle.meaning.specs.Classes.{Class, below_zero, at_zero, above_zero, ClassOf, is_m, is_n0, is_n1, is_p0, is_p1, is_z}
use Rattle.meaning.specs.Points.{neg, Quotient}
use Rattle.meaning.specs.Results.{Image₂, Result₁, Result₂, point}
use Rattle.meaning.specs.Supremum.{AtMost, at_most, Supremum, Mirrored}
use Rattle.meaning.proofs.FractionLaws.{le_refl, le_trans, lt_le, eq_refl, eq_le, eq_ge, eq_sym, eq_trans, neg_eq, add_comm, add_galois, add_galois⁻¹, add_mono, mul_comm, mul_assoc, mul_one, mul_eq_left, mul_eq_right}
use Rattle.meaning.proofs.SetLaws.{some_member, mirror_ordered, member_mirror, mirror_member}
use Rattle.meaning.proofs.SupremumLaws.{at_most_lem, never_most}
use Rattle.theorem3.specs.declared.Kind.{Kind}
use Rattle.theorem3.specs.Ends.{reciprocal, sum_end}
use Rattle.theorem3.specs.Tables.{mirror_kind, product_upper, quotient_upper}
use Rattle.theorem3.specs.Answer.{Arithmetic, adding, subtracting, multiplying, dividing, binary, between, TrueBounds, no_results, some_results, span_bounds, bounds_of, bounds_of_neg}
use Rattle.theorem3.proofs.Bounds.{same_supremum, upper_supremum, lower_supremum}
use Rattle.theorem3.proofs.Scaling.{recip_times}
use Rattle.theorem3.proofs.Products.{Products}
use Rattle.theorem3.proofs.KindLaws.{KindOf, mirror_kind_lem, only_zero}
use Rattle.theorem3.proofs.ClassLaws.{class_right, kind_right}
use Rattle.theorem3.proofs.ProductTable.{product_top}
use Rattle.theorem3.proofs.QuotientTable.{Ratios, by_positive, by_zero_up, by_negative, by_zero_down, by_both}
use Rattle.theorem3.proofs.Divisors.{Divisor, some_up, some_down, some_across}

abbrev pub Results : Arithmetic → Set → Set → Fraction → Type 0
Results op X Y = Result₂ (point (binary op)) X Y

-- Sums.
sum_at : {A B : Fraction → Type 0} {w : Fraction} → ((x y : Fraction) → A x → B y → x ⊕ y ≼ w) → {u v : End} → Supremum A u → Supremum B v
    → (a : Fraction) → A a → AtMost w (sum_end u v)
sum_at {A} {B} {w} h {u} {v} s t a m = go u v s (λ x k. t.least (w ⊕ negated x) (λ y l. add_galois x y w (h x y k l)))
  where
    go : (u v : End) → Supremum A u → ((x : Fraction) → A x → AtMost (w ⊕ negated x) v) → AtMost w (sum_end u v)
    go u unbounded s k = absurd (never_most (k a m))
    go unbounded (at q) s k =
        absurd (never_most (s.least (w ⊕ negated q) (λ x l. add_galois q x w (le_trans (eq_le (add_comm q x)) (add_galois⁻¹ x q w (at_most_lem (k x l)))))))
    go (at p) (at q) s k =
        at_most
        (le_trans (eq_le (add_comm p q))
        (add_galois⁻¹ q p w
        (at_most_lem (s.least (w ⊕ negated q) (λ x l. add_galois q x w (le_trans (eq_le (add_comm q x)) (add_galois⁻¹ x q w (at_most_lem (k x l)))))))))

sum_bounds : (u v : End) {A B : Fraction → Type 0} {w : Fraction} → Supremum A u → Supremum B v → AtMost w (sum_end u v)
    → (x y : Fraction) → A x → B y → x ⊕ y ≼ w
sum_bounds (at p) (at q) s t (at_most h) x y m n =
    le_trans (add_mono (s.bounds p (at_most (le_refl p)) x m) (t.bounds q (at_most (le_refl q)) y n)) h
sum_bounds (at p) unbounded s t h x y m n = absurd (never_most h)
sum_bounds unbounded v s t h x y m n = absurd (never_most h)

sum_top : {a b c d : End} → Ordered a b → Ordered c d → Supremum (Results adding (span a b) (span c d)) (sum_end b d)
sum_top {b = b} {d = d} h k =
    record {
      bounds = λ w m r i. le_trans (eq_le i.makes) (sum_bounds b d (upper_supremum h) (upper_supremum k) m i.x i.y i.in_x i.in_y);
      least = λ w m.
          let x = some_member h in
          sum_at (λ x y i j. m (x ⊕ y) (record { x = x; y = y; in_x = i; in_y = j; makes = eq_refl (x ⊕ y) })) (upper_supremum h) (upper_supremum k) x.0 x.1;
    }

-- Results of one operation are those of another on other operands.
abbrev Same : (R S : Fraction → Type 0) → Type 0
Same R S = ((r : Fraction) → R r → S r) × ((r : Fraction) → S r → R r)

sup_from : {R S : Fraction → Type 0} {u : End} → Same R S → Supremum S u → Supremum R u
sup_from e s = same_supremum (λ r m. (r, e.0 r m, le_refl r)) (λ r m. (r, e.1 r m, le_refl r)) s

moved : {M N : Fraction → Fraction → Fraction → Type 0} {X Y U W : Set} (f g h : Fraction → Fraction)
    → ((x : Fraction) → Member X x → Member U (f x)) → ((y : Fraction) → Member Y y → Member W (g y))
    → ((x y r : Fraction) → M x y r → N (f x) (g y) (h r)) → (r : Fraction) → Image₂ M X Y r → Image₂ N U W (h r)
moved f g h i j k r m =
    record { x = f m.x; y = g m.y; in_x = i m.x m.in_x; in_y = j m.y m.in_y; makes = k m.x m.y r m.makes }

neg_sum : (x y r : Fraction) → r ≈ x ⊕ y → negated r ≈ negated x ⊕ negated y
unfolding ◌⊕◌
neg_sum x y r h = record { eq = omega (arith, h.eq) }

neg_difference : (x y r : Fraction) → r ⊕ y ≈ x → negated r ≈ negated x ⊕ y
unfolding ◌⊕◌
neg_difference x y r h = record { eq = omega (arith, h.eq) }

difference_neg : (x y r : Fraction) → r ≈ x ⊕ y → negated r ⊕ y ≈ negated x
unfolding ◌⊕◌
difference_neg x y r h = record { eq = omega (arith, h.eq) }

difference_sum : (x y r : Fraction) → r ⊕ y ≈ x → r ≈ x ⊕ negated y
unfolding ◌⊕◌
difference_sum x y r h = record { eq = omega (arith, h.eq) }

sum_difference : (x y r : Fraction) → r ≈ x ⊕ y → r ⊕ negated y ≈ x
unfolding ◌⊕◌
sum_difference x y r h = record { eq = omega (arith, h.eq) }

neg_product : (x y r : Fraction) → r ≈ x ⊗ y → negated r ≈ negated x ⊗ y
unfolding ◌⊗◌
neg_product x y r h = record { eq = omega (arith, h.eq) }

neg_quotient : (x y r : Fraction) → Quotient x y r → Quotient (negated x) y (negated r)
unfolding ◌⊗◌
neg_quotient x y r h = record { not_zero = h.not_zero; makes = record { eq = omega (arith, h.makes.eq) } }

kept : (Y : Set) (y : Fraction) → Member Y y → Member Y y
kept Y y m = m

-- The mirror image of the results, from mirrored operands.
mirrored_sums : (X Y : Set) → Same (Mirrored (Results adding X Y)) (Results adding (mirror X) (mirror Y))
mirrored_sums X Y = (
  λ r. moved negated negated negated (member_mirror X) (member_mirror Y) neg_sum (negated r),
  λ r. moved negated negated negated (mirror_member X) (mirror_member Y) neg_sum r,
)

mirrored_differences : (X Y : Set) → Same (Mirrored (Results subtracting X Y)) (Results adding (mirror X) Y)
mirrored_differences X Y = (
  λ r. moved negated (λ y. y) negated (member_mirror X) (kept Y) neg_difference (negated r),
  λ r. moved negated (λ y. y) negated (mirror_member X) (kept Y) difference_neg r,
)

mirrored_products : (X Y : Set) → Same (Mirrored (Results multiplying X Y)) (Results multiplying (mirror X) Y)
mirrored_products X Y = (
  λ r. moved negated (λ y. y) negated (member_mirror X) (kept Y) neg_product (negated r),
  λ r. moved negated (λ y. y) negated (mirror_member X) (kept Y) neg_product r,
)

mirrored_quotients : (X Y : Set) → Same (Mirrored (Results dividing X Y)) (Results dividing (mirror X) Y)
mirrored_quotients X Y = (
  λ r. moved negated (λ y. y) negated (member_mirror X) (kept Y) neg_quotient (negated r),
  λ r. moved negated (λ y. y) negated (mirror_member X) (kept Y) neg_quotient r,
)

-- A difference is a sum with the mirrored operand.
differences_sums : (X Y : Set) → Same (Results subtracting X Y) (Results adding X (mirror Y))
differences_sums X Y = (
  λ r. moved (λ x. x) negated (λ r. r) (kept X) (member_mirror Y) difference_sum r,
  λ r. moved (λ x. x) negated (λ r. r) (kept X) (mirror_member Y) sum_difference r,
)

products : (X Y : Set) → Same (Results multiplying X Y) (Products (Member X) (Member Y))
products X Y = (
  λ r m. record { x = m.x; y = m.y; in_a = m.in_x; in_b = m.in_y; makes = m.makes },
  λ r m. record { x = m.x; y = m.y; in_x = m.in_a; in_y = m.in_b; makes = m.makes },
)

-- A quotient is a product with a reciprocal.
quotient_product : (x y r : Fraction) → Quotient x y r → r ≈ x ⊗ reciprocal y
quotient_product x y r h =
    eq_sym
    (eq_trans (mul_eq_right (reciprocal y) (eq_sym h.makes))
    (eq_trans (mul_assoc r y (reciprocal y))
    (eq_trans (mul_eq_left r (eq_trans (mul_comm y (reciprocal y)) (recip_times y h.not_zero))) (mul_one r))))

product_quotient : (x y z r : Fraction) → (y ≈ whole 0 → ⊥) → z ⊗ y ≈ whole 1 → r ≈ x ⊗ z → Quotient x y r
product_quotient x y z r h e k =
    record {
      not_zero = h;
      makes = eq_trans (mul_eq_right y k) (eq_trans (mul_assoc x z y) (eq_trans (mul_eq_left x e) (mul_one x)));
    }

quotients : (X Y : Set) → Same (Results dividing X Y) (Ratios X Y)
quotients X Y = (
  λ r m.
      record {
        x = m.x;
        y = reciprocal m.y;
        in_a = m.in_x;
        in_b = record { y = m.y; in_y = m.in_y; not_zero = m.makes.not_zero; makes = recip_times m.y m.makes.not_zero };
        makes = quotient_product m.x m.y r m.makes;
      },
  λ r m.
      record {
        x = m.x;
        y = m.in_b.y;
        in_x = m.in_a;
        in_y = m.in_b.in_y;
        makes = product_quotient m.x m.in_b.y m.y r m.in_b.not_zero m.in_b.makes m.makes;
      },
)

-- The true bounds for two spans.
module _ {a b c d : End} (h : Ordered a b) (k : Ordered c d) where
  pub sums_right : TrueBounds (Results adding (span a b) (span c d)) (between (sum_end (mirror_end a) (mirror_end c)) (sum_end b d))
  sums_right =
      let x = some_member h in
      let y = some_member k in
      some_results (x.0 ⊕ y.0) (record { x = x.0; y = y.0; in_x = x.1; in_y = y.1; makes = eq_refl (x.0 ⊕ y.0) })
      (sum_top h k) (sup_from (mirrored_sums (span a b) (span c d)) (sum_top (mirror_ordered h) (mirror_ordered k)))

  pub differences_right : TrueBounds (Results subtracting (span a b) (span c d)) (between (sum_end (mirror_end a) d) (sum_end b (mirror_end c)))
  differences_right =
      let x = some_member h in
      let y = some_member k in
      let r = x.0 ⊕ negated y.0 in
      some_results r (record { x = x.0; y = y.0; in_x = x.1; in_y = y.1; makes = sum_difference x.0 (negated y.0) r (eq_refl r) })
      (sup_from (differences_sums (span a b) (span c d)) (sum_top h (mirror_ordered k)))
      (sup_from (mirrored_differences (span a b) (span c d)) (sum_top (mirror_ordered h) k))

  pub products_right : {m n : Kind} → KindOf a b m → KindOf c d n → TrueBounds (Results multiplying (span a b) (span c d))
      (between (product_upper (mirror_kind m) n (mirror_end b) (mirror_end a) c d) (product_upper m n a b c d))
  products_right i j =
      let x = some_member h in
      let y = some_member k in
      some_results (x.0 ⊗ y.0) (record { x = x.0; y = y.0; in_x = x.1; in_y = y.1; makes = eq_refl (x.0 ⊗ y.0) })
      (sup_from (products (span a b) (span c d)) (product_top h k i j))
      (sup_from (mirrored_products (span a b) (span c d)) (sup_from (products (mirror (span a b)) (span c d)) (product_top (mirror_ordered h) k (mirror_kind_lem i) j)))

-- Quotients by a divisor other than [0, 0], for which the table's entry is right.
divided : {a b c d : End} {m : Kind} {k : Class} → Ordered a b → KindOf a b m → Divisor (span c d)
    → ((a b : End) (m : Kind) → Ordered a b → KindOf a b m → Supremum (Ratios (span a b) (span c d)) (quotient_upper m k a b c d))
    → TrueBounds (Results dividing (span a b) (span c d)) (between (quotient_upper (mirror_kind m) k (mirror_end b) (mirror_end a) c d) (quotient_upper m k a b c d))
divided {a} {b} {c} {d} h i y top =
    let x = some_member h in
    let r = x.0 ⊗ reciprocal y.0 in
    some_results r
    (record { x = x.0; y = y.0; in_x = x.1; in_y = y.1; makes = product_quotient x.0 y.0 (reciprocal y.0) r y.2 (recip_times y.0 y.2) (eq_refl r) })
    (sup_from (quotients (span a b) (span c d)) (top a b _ h i))
    (sup_from (mirrored_quotients (span a b) (span c d)) (sup_from (quotients (mirror (span a b)) (span c d)) (top (mirror_end b) (mirror_end a) _ (mirror_ordered h) (mirror_kind_lem i))))

pub quotients_right : {a b c d : End} {m : Kind} {k : Class} → Ordered a b → Ordered c d → KindOf a b m → ClassOf (span c d) k
    → TrueBounds (Results dividing (span a b) (span c d)) (span_bounds dividing m k a b c d)
quotients_right h o i (is_m m v) = divided h i (some_across m v) (λ a b j h i. by_both h m v i)
quotients_right h o i (is_n0 m (at_zero e)) = divided h i (some_down o m (eq_le e)) (λ a b j h i. by_zero_down h o m i e)
quotients_right h o i (is_n1 m (below_zero p)) = divided h i (some_down o m (lt_le p)) (λ a b j h i. by_negative h o m i p)
quotients_right h o i (is_p0 (at_zero e) v) = divided h i (some_up o v (eq_ge e)) (λ a b j h i. by_zero_up h o v e i)
quotients_right h o i (is_p1 (above_zero p) v) = divided h i (some_up o v (lt_le p)) (λ a b j h i. by_positive h o v p i)
quotients_right h o i (is_z (at_zero e) (at_zero f)) = no_results (λ r m. m.makes.not_zero (only_zero e f m.y m.in_y))

-- The tables give the true bounds of the results, for any valid operands.
pub bounds_right : (op : Arithmetic) {X Y : Set} → Valid X → Valid Y → TrueBounds (Result₂ (point (binary op)) X Y) (bounds_of op X Y)
bounds_right op valid_empty k = no_results (λ r m. m.in_x)
bounds_right op (valid_span h) valid_empty = no_results (λ r m. m.in_y)
bounds_right adding (valid_span h) (valid_span k) = sums_right h k
bounds_right subtracting (valid_span h) (valid_span k) = differences_right h k
bounds_right multiplying (valid_span h) (valid_span k) = products_right h k (kind_right h) (kind_right k)
bounds_right dividing (valid_span h) (valid_span k) = quotients_right h k (kind_right h) (class_right _ (valid_span k))

-- Negation.
pub neg_bounds_right : {X : Set} → Valid X → TrueBounds (Result₁ neg X) (bounds_of_neg X)
neg_bounds_right valid_empty = no_results (λ r m. m.in_x)
neg_bounds_right (valid_span {lower = a} {upper = b} h) =
    let x = some_member h in
    some_results (negated x.0) (record { x = x.0; in_x = x.1; makes = eq_refl (negated x.0) })
    (same_supremum
    (λ r m. (negated m.x, m.in_x, eq_le m.makes))
    (λ r m. (r, record { x = negated r; in_x = m; makes = eq_refl r }, le_refl r))
    (lower_supremum h))
    (same_supremum
    (λ r m. (m.x, m.in_x, eq_le (neg_eq m.makes)))
    (λ r m. (r, record { x = r; in_x = m; makes = eq_refl (negated r) }, le_refl r))
    (upper_supremum h))
