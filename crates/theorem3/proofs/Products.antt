-- True upper bounds of products of two sets, known only by their own true bounds.
use mathlib.Core.Logic.{◌⊎◌, inl, inr, ⊎_elim}
use native.Mathlib.Omega.{arith}
use Rattle.meaning.specs.Fraction.{Fraction, ◌≼◌, ◌≺◌, ◌≈◌, ◌⊗◌, negated, whole}
use Rattle.meaning.specs.Sets.{End, at, unbounded}
use Rattle.meaning.specs.Classes.{UpperPositive, upper_number, upper_none}
use Rattle.meaning.specs.Supremum.{UpperBound, AtMost, at_most, Supremum, Mirrored}
use Rattle.meaning.proofs.FractionLaws.{le_refl, le_trans, lt_le, lt_not_le, le_or_lt, le_or_le, not_lt, le_lt_trans, eq_refl, eq_le, eq_ge, eq_trans, eq_sym, antisymm, neg_le, neg_lt, mul_right, mul_left, mul_comm, mul_zero, mul_eq_right, mul_eq_left}
use Rattle.meaning.proofs.SupremumLaws.{at_most_lem, never_most}
use Rattle.theorem3.specs.Ends.{product_end, greater_end}
use Rattle.theorem3.proofs.Bounds.{Below, same_supremum, attained, greater_most, most_first, most_second}
use Rattle.theorem3.proofs.Scaling.{scaled}

-- Products of a member of A and one of B.
pub record Products (A B : Fraction → Type 0) (r : Fraction) : Type 0 where
  pub x : Fraction
  pub y : Fraction
  pub in_a : A x
  pub in_b : B y
  pub makes : r ≈ x ⊗ y

abbrev pub NotNegative : (Fraction → Type 0) → Type 0
NotNegative A = (x : Fraction) → A x → whole 0 ≼ x

abbrev pub NotPositive : (Fraction → Type 0) → Type 0
NotPositive A = (x : Fraction) → A x → x ≼ whole 0

-- A bound of all products, read at two members.
at_members : {A B : Fraction → Type 0} {w : Fraction} → UpperBound (Products A B) w → (x y : Fraction) → A x → B y → x ⊗ y ≼ w
at_members h x y a b = h (x ⊗ y) (record { x = x; y = y; in_a = a; in_b = b; makes = eq_refl (x ⊗ y) })

-- A bound at all pairs of members bounds all products.
of_members : {A B : Fraction → Type 0} {w : Fraction} → ((x y : Fraction) → A x → B y → x ⊗ y ≼ w) → UpperBound (Products A B) w
of_members h r m = le_trans (eq_le m.makes) (h m.x m.y m.in_a m.in_b)

pub mul_neg_neg : (x y : Fraction) → negated x ⊗ negated y ≈ x ⊗ y
unfolding ◌⊗◌
mul_neg_neg x y = record { eq = omega arith }

mirrored_product : (x y : Fraction) → x ⊗ y ≈ negated y ⊗ negated x
unfolding ◌⊗◌
mirrored_product x y = record { eq = omega arith }

zero_times : (x y : Fraction) → x ≈ whole 0 → x ⊗ y ≈ whole 0
zero_times x y e = eq_trans (mul_eq_right y e) (eq_trans (mul_comm (whole 0) y) (mul_zero y))

-- A set with a positive upper bound has not only members that are not positive.
not_all_below : {A : Fraction → Type 0} {u : End} → UpperPositive u → Supremum A u → NotPositive A → ⊥
not_all_below (upper_number p) s h = lt_not_le p (at_most_lem (s.least (whole 0) h))
not_all_below upper_none s h = never_most (s.least (whole 0) h)

zero_le_product : (x y : Fraction) → whole 0 ≼ x → whole 0 ≼ y → whole 0 ≼ x ⊗ y
zero_le_product x y h k = le_trans (eq_ge (mul_zero x)) (mul_left x h k)

swap_ends : (q w : Fraction) (v : End) → AtMost w (product_end v (at q)) → AtMost w (product_end (at q) v)
swap_ends q w (at p) (at_most h) = at_most (le_trans (eq_le (mul_comm q p)) h)
swap_ends q w unbounded h = absurd (never_most h)

-- Top times top: both bounds are positive, and no member of B is negative.
module _ {B : Fraction → Type 0} {v : End} (pv : UpperPositive v) (t : Supremum B v) (not_negative : NotNegative B) where
  bounds_top : {A : Fraction → Type 0} (u v : End) → UpperPositive u → Supremum A u → Supremum B v → (w : Fraction) → AtMost w (product_end u v) → UpperBound (Products A B) w
  bounds_top (at p) (at q) (upper_number h) s t w (at_most k) =
      of_members
      (λ x y a b.
      le_trans (mul_right y (not_negative y b) (s.bounds p (at_most (le_refl p)) x a))
      (le_trans (mul_left p (lt_le h) (t.bounds q (at_most (le_refl q)) y b)) k))
  bounds_top (at p) unbounded h s t w k = absurd (never_most k)
  bounds_top unbounded v h s t w k = absurd (never_most k)

  -- A bound of the products is not negative.
  bound_not_negative : (q w : Fraction) → whole 0 ≺ q → ((y : Fraction) → B y → whole 0 ≺ y → q ⊗ y ≼ w) → whole 0 ≼ w
  bound_not_negative q w h k =
      not_lt
      (λ n. not_all_below pv t
      (λ y b. not_lt (λ p. lt_not_le n (le_trans (zero_le_product q y (lt_le h) (lt_le p)) (k y b p)))))

  -- It bounds the multiples of q by all members, once it bounds those by positive ones.
  all_multiples : (q w : Fraction) → whole 0 ≺ q → ((y : Fraction) → B y → whole 0 ≺ y → q ⊗ y ≼ w) → (y : Fraction) → B y → y ⊗ q ≼ w
  all_multiples q w h k y b = le_trans (eq_le (mul_comm y q)) (⊎_elim low (k y b) (le_or_lt y (whole 0)))
    where
      low : y ≼ whole 0 → q ⊗ y ≼ w
      low n = le_trans (mul_left q (lt_le h) n) (le_trans (eq_le (mul_zero q)) (bound_not_negative q w h k))

  least_top : {A : Fraction → Type 0} (u : End) → UpperPositive u → Supremum A u → (w : Fraction) → UpperBound (Products A B) w → AtMost w (product_end u v)
  least_top unbounded h s w k =
      absurd (not_all_below pv t (λ y b. not_lt (λ p. never_most (scaled unbounded y w p s (λ x a. at_members k x y a b)))))
  least_top (at q) (upper_number h) s w k =
      swap_ends q w v
      (scaled v q w h t (all_multiples q w h (λ y b p. at_most_lem (scaled (at q) y w p s (λ x a. at_members k x y a b)))))

  pub top_times_top : {A : Fraction → Type 0} {u : End} → UpperPositive u → Supremum A u → Supremum (Products A B) (product_end u v)
  top_times_top {u} h s = record { bounds = bounds_top u v h s t; least = least_top u h s }

-- A factor that is not positive reverses the order.
mul_left_negative : (p : Fraction) {y z : Fraction} → p ≼ whole 0 → z ≼ y → p ⊗ y ≼ p ⊗ z
mul_left_negative p {y} {z} h k =
    le_trans (eq_ge (mul_neg_neg p y)) (le_trans (mul_left (negated p) (neg_le h) (neg_le k)) (eq_le (mul_neg_neg p z)))

-- Bottom times top: A has no positive member and the true upper bound p; B no negative one and the true lower bound c.
module _ {A B : Fraction → Type 0} {p c : Fraction} (s : Supremum A (at p)) (t : Supremum (Mirrored B) (at (negated c)))
    (notPositive : p ≼ whole 0) (not_negative : NotNegative B) (a₀ b₀ : Fraction) (someA : A a₀) (someB : B b₀) where
  bounds_bottom : (w : Fraction) → AtMost w (at (p ⊗ c)) → UpperBound (Products A B) w
  bounds_bottom w (at_most k) =
      of_members
      (λ x y a b.
      le_trans (mul_right y (not_negative y b) (s.bounds p (at_most (le_refl p)) x a))
      (le_trans (mul_left_negative p notPositive (neg_le (t.bounds (negated c) (at_most (le_refl (negated c))) (negated y) b))) k))

  -- A bound of the products bounds the multiples of p.
  all_lower : (w : Fraction) → UpperBound (Products A B) w → (y : Fraction) → B y → p ⊗ y ≼ w
  all_lower w k y b = ⊎_elim low (λ h. at_most_lem (scaled (at p) y w h s (λ x a. at_members k x y a b))) (le_or_lt y (whole 0))
    where
      low : y ≼ whole 0 → p ⊗ y ≼ w
      low n =
          let e = antisymm n (not_negative y b) in
          le_trans (eq_le (eq_trans (mul_eq_left p e) (eq_trans (mul_zero p) (eq_sym (eq_trans (mul_eq_left a₀ e) (mul_zero a₀))))))
          (at_members k a₀ y someA b)

  least_bottom : (w : Fraction) → UpperBound (Products A B) w → AtMost w (at (p ⊗ c))
  least_bottom w k = at_most (⊎_elim flat steep (le_or_lt (whole 0) p))
    where
      flat : whole 0 ≼ p → p ⊗ c ≼ w
      flat n =
          let e = antisymm notPositive n in
          le_trans (eq_le (eq_trans (zero_times p c e) (eq_sym (zero_times p b₀ e)))) (all_lower w k b₀ someB)

      steep : p ≺ whole 0 → p ⊗ c ≼ w
      steep n =
          le_trans (eq_le (mirrored_product p c))
          (at_most_lem
          (scaled (at (negated c)) (negated p) w (neg_lt n) t
          (λ y b. le_trans (eq_ge (mirrored_product p (negated y))) (all_lower w k (negated y) b))))

  pub bottom_times_top : Supremum (Products A B) (at (p ⊗ c))
  bottom_times_top = record { bounds = bounds_bottom; least = least_bottom }

-- The members that are not negative.
pub record PositivePart (A : Fraction → Type 0) (x : Fraction) : Type 0 where
  pub in_a : A x
  pub not_negative : whole 0 ≼ x

-- A positive true upper bound is that of the part that is not negative.
positive_supremum : {A : Fraction → Type 0} {u : End} → UpperPositive u → Supremum A u → Supremum (PositivePart A) u
positive_supremum {A} {u} p s =
    record { bounds = λ w h x m. s.bounds w h x m.in_a; least = λ w h. s.least w (λ x a. ⊎_elim (low w h) (high w h x a) (le_or_lt x (whole 0))) }
  where
    high : (w : Fraction) → UpperBound (PositivePart A) w → (x : Fraction) → A x → whole 0 ≺ x → x ≼ w
    high w h x a n = h x (record { in_a = a; not_negative = lt_le n })

    low : (w : Fraction) → UpperBound (PositivePart A) w → {x : Fraction} → x ≼ whole 0 → x ≼ w
    low w h n =
        le_trans n
        (not_lt (λ m. not_all_below p s (λ y a. not_lt (λ k. lt_not_le (le_lt_trans (high w h y a k) m) (lt_le k)))))

-- Both signs on both sides: the greater of the two products of like ends.
module _ {A B : Fraction → Type 0} {u v l m : End} (pu : UpperPositive u) (pv : UpperPositive v) (pl : UpperPositive l) (pm : UpperPositive m)
    (top : Supremum A u) (top' : Supremum B v) (bottom : Supremum (Mirrored A) l) (bottom' : Supremum (Mirrored B) m) where
  ups : Supremum (Products (PositivePart A) (PositivePart B)) (product_end u v)
  ups = top_times_top pv (positive_supremum pv top') (λ y b. b.not_negative) pu (positive_supremum pu top)

  downs : Supremum (Products (PositivePart (Mirrored A)) (PositivePart (Mirrored B))) (product_end l m)
  downs = top_times_top pm (positive_supremum pm bottom') (λ y b. b.not_negative) pl (positive_supremum pl bottom)

  not_negative_bound : (u v : End) → UpperPositive u → UpperPositive v → (w : Fraction) → AtMost w (product_end u v) → whole 0 ≼ w
  not_negative_bound (at p) (at q) (upper_number h) (upper_number k) w (at_most n) =
      le_trans (zero_le_product p q (lt_le h) (lt_le k)) n
  not_negative_bound (at p) unbounded h k w n = absurd (never_most n)
  not_negative_bound unbounded v h k w n = absurd (never_most n)

  bounds_both : (w : Fraction) → AtMost w (greater_end (product_end u v) (product_end l m)) → (x y : Fraction) → A x → B y → x ⊗ y ≼ w
  bounds_both w h x y a b = go (le_or_le (whole 0) x) (le_or_le (whole 0) y)
    where
      first : AtMost w (product_end u v)
      first = most_first w (product_end u v) (product_end l m) h

      second : AtMost w (product_end l m)
      second = most_second w (product_end u v) (product_end l m) h

      zero_under : whole 0 ≼ w
      zero_under = not_negative_bound u v pu pv w first

      go : (whole 0 ≼ x) ⊎ (x ≼ whole 0) → (whole 0 ≼ y) ⊎ (y ≼ whole 0) → x ⊗ y ≼ w
      go (inl i) (inl j) = at_members (ups.bounds w first) x y (record { in_a = a; not_negative = i }) (record { in_a = b; not_negative = j })
      go (inr i) (inr j) =
          le_trans (eq_ge (mul_neg_neg x y))
          (at_members (downs.bounds w second) (negated x) (negated y) (record { in_a = a; not_negative = neg_le i }) (record { in_a = b; not_negative = neg_le j }))
      go (inl i) (inr j) = le_trans (mul_left x i j) (le_trans (eq_le (mul_zero x)) zero_under)
      go (inr i) (inl j) = le_trans (mul_right y j i) (le_trans (eq_le (zero_times (whole 0) y (eq_refl (whole 0)))) zero_under)

  pub both_signs : Supremum (Products A B) (greater_end (product_end u v) (product_end l m))
  both_signs =
      record {
        bounds = λ w h. of_members (bounds_both w h);
        least = λ w h.
            greater_most w (product_end u v) (product_end l m)
            (ups.least w (of_members (λ x y a b. at_members h x y a.in_a b.in_a)))
            (downs.least w
            (of_members (λ x y a b. le_trans (eq_ge (mul_neg_neg x y)) (at_members h (negated x) (negated y) a.in_a b.in_a))));
      }

-- All products with zero are zero.
pub zero_product : {A B : Fraction → Type 0} → ((x : Fraction) → A x → x ≈ whole 0) → (a b : Fraction) → A a → B b → Supremum (Products A B) (at (whole 0))
zero_product {A} {B} zeros a b m n =
    attained (whole 0) (record { x = a; y = b; in_a = m; in_b = n; makes = eq_sym (zero_times a b (zeros a m)) })
    (of_members (λ x y k l. eq_le (zero_times x y (zeros x k))))

-- Factors exchanged, and both factors mirrored, make the same products.
pub exchanged : {A B : Fraction → Type 0} {u : End} → Supremum (Products A B) u → Supremum (Products B A) u
exchanged {A} {B} s = same_supremum (turn B A) (turn A B) s
  where
    turn : (A B : Fraction → Type 0) → Below (Products A B) (Products B A)
    turn A B r m =
        (r, record { x = m.y; y = m.x; in_a = m.in_b; in_b = m.in_a; makes = eq_trans m.makes (mul_comm m.x m.y) }, le_refl r)

pub mirrored_both : {A B : Fraction → Type 0} {u : End} → Supremum (Products (Mirrored A) (Mirrored B)) u → Supremum (Products A B) u
mirrored_both {A} {B} s = same_supremum (turn A B) (turn (Mirrored A) (Mirrored B)) s
  where
    turn : (A B : Fraction → Type 0) → Below (Products A B) (Products (Mirrored A) (Mirrored B))
    turn A B r m = (
      r,
      record { x = negated m.x; y = negated m.y; in_a = m.in_a; in_b = m.in_b; makes = eq_trans m.makes (eq_sym (mul_neg_neg m.x m.y)) },
      le_refl r,
    )
