-- One right answer of each operation that is no constant and not the first operand.
use mathlib.Core.Bool.{Bool, not}
use mathlib.Core.Path.{◌≡◌, ap, subst⁻¹}
use Prim.Native.Nat.{ℕ}
use borrow.Author.Tests.{eq-eqb}
use lib.Dec.{T, eqb, T_not}
use Rattle.patterns.specs.Format.{binary64, infinity, sign_bit}
use Rattle.patterns.specs.Value.{value, magnitude, plus, minus, opposite}
use Rattle.meaning.specs.Fraction.{Fraction, ◌⊕◌, ◌⊗◌, negated, whole}
use Rattle.meaning.specs.Sets.{End, at, Ordered, ordered, valid_span}
use Rattle.meaning.specs.Points.{Unary, neg, abs, ceil, floor, round, round_ties_even, sign, trunc, add, sub, mul, div, max, min}
use Rattle.meaning.specs.Results.{Operation, point, convex_hull, intersection, Result₁, Result₂}
use Rattle.meaning.specs.Pairs.{Pair, Proper, worth, both, minus_infinity, end_of, set_of}
use Rattle.meaning.specs.Statement.{HullOf}
use Rattle.meaning.proofs.PairLaws.{split, set_valid}
use Rattle.points.specs.Ends.{numbers, greater_second, lesser_first, lesser_second, greater_first, upper_nearer, upper_of_both, Bounds}
use Rattle.points.proofs.Extremes.{max_bounds, min_bounds}
use Rattle.points.proofs.Magnitudes.{abs_bounds}
use Rattle.points.proofs.Unions.{hull_bounds, intersection_bounds}
use Rattle.theorem3.specs.Ends.{reciprocal, greater}
use Rattle.theorem3.specs.Answer.{Arithmetic, adding, subtracting, multiplying, dividing, binary, between, TrueBounds, some_results}
use Rattle.theorem3.proofs.TrueBounds.{neg_bounds_right}
use Rattle.cases.specs.Table.{pair, only, minus_zero, one_half, one, one_and_half, two, three, four, minus_one, minus_two, minus_three, minus_six, eight, entire, emptiness}
use Rattle.cases.proofs.Tests.{proper_test, proper_tested, le_tested, answer_tested}
use Rattle.cases.proofs.RowTests.{arithmetic_test, arithmetic_hull, bare_tested, step_test, step_hull_tested}

-- The answer z, which is neither ENTIRE nor EMPTY nor x.
pub record Telling (x z : Pair) : Type 0 where
  pub not_entire : z ≡ entire → ⊥
  pub not_empty : z ≡ emptiness → ⊥
  pub not_first : z ≡ x → ⊥

pub record Example₁ (op : Unary) : Type 0 where
  pub x : Pair
  pub z : Pair
  pub proper : Proper binary64 x
  pub right : HullOf binary64 (Result₁ op (set_of binary64 x)) z
  pub telling : Telling x z

pub record Example₂ (op : Operation) : Type 0 where
  pub x : Pair
  pub y : Pair
  pub z : Pair
  pub proper : Proper binary64 x
  pub proper_too : Proper binary64 y
  pub right : HullOf binary64 (Result₂ op (set_of binary64 x) (set_of binary64 y)) z
  pub telling : Telling x z

true_bounds : {R : Fraction → Type 0} {u l : End} → Bounds R u l → TrueBounds R (between l u)
true_bounds b = some_results b.some.0 b.some.1 b.top b.bottom

differ : (a b : ℕ) → T (not (eqb a b)) → a ≡ b → ⊥
differ a b t e = T_not (eqb a b) t (subst⁻¹ T (eq-eqb a b e) tt)

-- The upper end is neither of the infinities, and not x's.
abbrev telling_test : Pair → Pair → Bool
telling_test x z =
    both (not (eqb z.upper entire.upper)) (both (not (eqb z.upper emptiness.upper)) (not (eqb z.upper x.upper)))

told : (x z : Pair) → T (telling_test x z) → Telling x z
told x z t =
    let second = not (eqb z.upper emptiness.upper) in
    let third = not (eqb z.upper x.upper) in
    let a = split (not (eqb z.upper entire.upper)) (both second third) t in
    let b = split second third a.1 in
    record {
      not_entire = λ e. differ z.upper entire.upper a.0 (ap (λ (p : Pair). p.upper) e);
      not_empty = λ e. differ z.upper emptiness.upper b.0 (ap (λ (p : Pair). p.upper) e);
      not_first = λ e. differ z.upper x.upper b.1 (ap (λ (p : Pair). p.upper) e);
    }

-- Examples of two operands, from a right answer and tests.
example₂_by : (op : Operation) (x y z : Pair) → HullOf binary64 (Result₂ op (set_of binary64 x) (set_of binary64 y)) z
    → T (both (proper_test binary64 x) (both (proper_test binary64 y) (telling_test x z))) → Example₂ op
example₂_by op x y z h t =
    let a = split (proper_test binary64 x) (both (proper_test binary64 y) (telling_test x z)) t in
    let b = split (proper_test binary64 y) (telling_test x z) a.1 in
    record {
      x = x;
      y = y;
      z = z;
      proper = proper_tested binary64 x a.0;
      proper_too = proper_tested binary64 y b.0;
      right = h;
      telling = told x z b.1;
    }

example₁_by : (op : Unary) (x z : Pair) → HullOf binary64 (Result₁ op (set_of binary64 x)) z
    → T (both (proper_test binary64 x) (telling_test x z)) → Example₁ op
example₁_by op x z h t =
    let a = split (proper_test binary64 x) (telling_test x z) t in
    record { x = x; z = z; proper = proper_tested binary64 x a.0; right = h; telling = told x z a.1 }

arithmetic_example : (op : Arithmetic) (x y z : Pair) → T (arithmetic_test binary64 op x y z)
    → T (both (proper_test binary64 x) (both (proper_test binary64 y) (telling_test x z))) → Example₂ (point (binary op))
arithmetic_example op x y z h t = example₂_by (point (binary op)) x y z (arithmetic_hull binary64 op x y z h).2 t

step_example : (op : Unary) (x z : Pair) → T (step_test binary64 op x z) → T (both (proper_test binary64 x) (telling_test x z)) → Example₁ op
step_example op x z h t = example₁_by op x z (step_hull_tested binary64 op x z h) t

pub example₁ : (op : Unary) → Example₁ op
unfolding infinity sign_bit value magnitude plus minus opposite ◌⊕◌ ◌⊗◌ minus_infinity end_of set_of
example₁ neg =
    example₁_by neg (pair one two) (pair minus_two minus_one)
    (answer_tested binary64 (pair minus_two minus_one) (neg_bounds_right (set_valid binary64 (pair one two) (bare_tested binary64 (pair one two) tt))) tt) tt
example₁ abs =
    example₁_by abs (pair minus_three minus_one) (pair one three)
    (answer_tested binary64 (pair one three)
    (true_bounds
    (abs_bounds (ordered (le_tested (worth binary64 minus_three) (worth binary64 minus_one) tt))
    (greater_first (numbers (le_tested (worth binary64 minus_one) (negated (worth binary64 minus_three)) tt)))
    (upper_nearer (le_tested (worth binary64 minus_one) (whole 0) tt)))) tt) tt
example₁ ceil = step_example ceil (only one_and_half) (only two) tt tt
example₁ floor = step_example floor (only one_and_half) (only one) tt tt
example₁ round = step_example round (pair one_half one_and_half) (pair one two) tt tt
example₁ round_ties_even = step_example round_ties_even (pair one_half one_and_half) (pair minus_zero two) tt tt
example₁ sign = step_example sign (only two) (only one) tt tt
example₁ trunc = step_example trunc (only one_and_half) (only one) tt tt

one_two : Ordered (at (worth binary64 one)) (at (worth binary64 two))
unfolding infinity sign_bit value magnitude plus minus
one_two = ordered (le_tested (worth binary64 one) (worth binary64 two) tt)

three_four : Ordered (at (worth binary64 three)) (at (worth binary64 four))
unfolding infinity sign_bit value magnitude plus minus
three_four = ordered (le_tested (worth binary64 three) (worth binary64 four) tt)

pub example₂ : (op : Operation) → Example₂ op
unfolding infinity sign_bit value magnitude plus minus opposite ◌⊕◌ ◌⊗◌ minus_infinity end_of set_of reciprocal greater
example₂ (point add) = arithmetic_example adding (only one) (only one) (only two) tt tt
example₂ (point sub) = arithmetic_example subtracting (only three) (only one) (only two) tt tt
example₂ (point mul) = arithmetic_example multiplying (pair minus_one two) (pair minus_three four) (pair minus_six eight) tt tt
example₂ (point div) = arithmetic_example dividing (only one) (only three) (pair 0x3FD5555555555555 0x3FD5555555555556) tt tt
example₂ (point max) =
    example₂_by (point max) (pair one two) (pair three four) (pair three four)
    (answer_tested binary64 (pair three four)
    (true_bounds
    (max_bounds one_two three_four (greater_second (numbers (le_tested (worth binary64 two) (worth binary64 four) tt)))
    (lesser_second (numbers (le_tested (negated (worth binary64 three)) (negated (worth binary64 one)) tt))))) tt) tt
example₂ (point min) =
    example₂_by (point min) (pair three four) (pair one two) (pair one two)
    (answer_tested binary64 (pair one two)
    (true_bounds
    (min_bounds three_four one_two (lesser_second (numbers (le_tested (worth binary64 two) (worth binary64 four) tt)))
    (greater_second (numbers (le_tested (negated (worth binary64 three)) (negated (worth binary64 one)) tt))))) tt) tt
example₂ convex_hull =
    example₂_by convex_hull (pair one two) (pair three four) (pair one four)
    (answer_tested binary64 (pair one four)
    (true_bounds
    (hull_bounds (valid_span one_two) (valid_span three_four)
    (upper_of_both (greater_second (numbers (le_tested (worth binary64 two) (worth binary64 four) tt))))
    (upper_of_both (greater_first (numbers (le_tested (negated (worth binary64 three)) (negated (worth binary64 one)) tt)))))) tt) tt
example₂ intersection =
    example₂_by intersection (pair one four) (pair one two) (pair one two)
    (answer_tested binary64 (pair one two)
    (true_bounds
    (intersection_bounds (ordered (le_tested (worth binary64 one) (worth binary64 four) tt)) one_two one_two
    (ordered (le_tested (worth binary64 one) (worth binary64 four) tt))
    (lesser_second (numbers (le_tested (worth binary64 two) (worth binary64 four) tt)))
    (lesser_first (numbers (le_tested (negated (worth binary64 one)) (negated (worth binary64 one)) tt))))) tt) tt
