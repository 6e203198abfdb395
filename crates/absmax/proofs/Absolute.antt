-- The hull of the absolute values of a set's members.
use mathlib.Core.Path.{◌≡◌, sym, subst⁻¹}
use Prim.Native.Nat.{ℕ, ◌<◌}
use native.Mathlib.Omega.{arith}
use Rattle.patterns.specs.Format.{Format, sign_bit}
use Rattle.patterns.specs.Value.{opposite}
use Rattle.patterns.proofs.SignLaws.{infinity_below, finite_positive}
use Rattle.patterns.proofs.UpLaws.{infinity_positive}
use Rattle.meaning.specs.Fraction.{Fraction, ◌≼◌, ◌≈◌, negated, whole}
use Rattle.meaning.specs.Sets.{End, unbounded, Set, Over, over, over_none, Under, under, under_none, Member, Valid, valid_span, mirror}
use Rattle.meaning.specs.Pairs.{Pair, worth, Bare, set_of}
use Rattle.meaning.specs.Classes.{LowerNegative, lower_number, lower_none, UpperPositive, upper_number, upper_none, ClassOf, class_m, is_m}
use Rattle.meaning.specs.Points.{abs}
use Rattle.meaning.specs.Results.{Result₁}
use Rattle.meaning.specs.Statement.{HullOf}
use Rattle.meaning.specs.Bytes.{Tidied}
use Rattle.meaning.specs.Supremum.{UpperEnd}
use Rattle.meaning.proofs.FractionLaws.{lt_le, lt_le_trans, lt_not_le, eq_refl, eq_sym, eq_le, neg_le}
use Rattle.meaning.proofs.SetLaws.{member_mirror, mirror_member}
use Rattle.meaning.proofs.PairLaws.{set_valid}
use Rattle.points.specs.Ends.{◌⊑◌, numbers, zero_between}
use Rattle.points.proofs.ZeroLaws.{abs_mirror, abs_above}
use Rattle.points.proofs.EndLaws.{greater_second_lem}
use Rattle.points.proofs.Magnitudes.{abs_bounds}
use Rattle.points.proofs.Exactly.{exact_number, exact_infinity}
use Rattle.points.proofs.Answers.{answer}
use Rattle.end_pairs.proofs.KeyLaws.{key_below, key_above, at_zero_lem}
use Rattle.end_pairs.proofs.Shapes.{UpperShape, upper_finite, upper_infinite, Shape, shape_empty, shape_span, shape}
use Rattle.end_pairs.specs.Mirror.{outward_pair, mirror_pair}
use Rattle.end_pairs.proofs.MirrorLaws.{mirror_set}
use Rattle.end_pairs.proofs.ExactHull.{member_same, exact_hull}
use Rattle.end_pairs.specs.Order.{GreaterOf}
use Rattle.set_op.proofs.EndOrder.{greater_upper}
use Rattle.set_op.proofs.TrueEnds.{SpanOf, span_of, lower_opposite, moved}

-- Members that are not negative are their own absolute values. z is the tidied operand.
pub kept_hull : (F : Format) (x z : Pair) → Tidied F x z → ((r : Fraction) → Member (set_of F x) r → whole 0 ≼ r)
    → HullOf F (Result₁ abs (set_of F x)) z
kept_hull F x z t positive =
    exact_hull F _ z t.canonical
    (λ r i. t.same.0 r (member_same (set_of F x) (eq_sym (i.makes.of_positive (positive i.x i.in_x))) i.in_x))
    (λ r n. let m = t.same.1 r n in record { x = r; in_x = m; makes = abs_above r (positive r m) })

-- The absolute values of members that are not positive are their negatives. z is the tidied mirror image.
pub turned_hull : (F : Format) (x z : Pair) → Bare F x → Tidied F (mirror_pair F x) z → ((r : Fraction) → Member (set_of F x) r → r ≼ whole 0)
    → HullOf F (Result₁ abs (set_of F x)) z
turned_hull F x z b t negative =
    exact_hull F _ z t.canonical (λ r i. t.same.0 r (moved (sym turned) r (into r i))) (λ r n. out r (moved turned r (t.same.1 r n)))
  where
    turned : set_of F (mirror_pair F x) ≡ mirror (set_of F x)
    turned = mirror_set F x b

    into : (r : Fraction) → Result₁ abs (set_of F x) r → Member (mirror (set_of F x)) r
    into r i =
        member_same (mirror (set_of F x)) (eq_sym (i.makes.of_negative (negative i.x i.in_x))) (member_mirror (set_of F x) i.x i.in_x)

    out : (r : Fraction) → Member (mirror (set_of F x)) r → Result₁ abs (set_of F x) r
    out r m =
        let n = mirror_member (set_of F x) r m in
        record { x = negated r; in_x = n; makes = abs_mirror (abs_above r (neg_le (negative (negated r) n))) }

zero_over : {e : End} → LowerNegative e → Over (whole 0) e
zero_over (lower_number h) = over (lt_le h)
zero_over lower_none = over_none

zero_under : {e : End} → UpperPositive e → Under (whole 0) e
zero_under (upper_number h) = under (lt_le h)
zero_under upper_none = under_none

module _ (F : Format) where
  sign_positive : 0 < sign_bit F
  sign_positive = omega (arith, infinity_below F)

  -- Both zeros are worth 0.
  plus_zero : worth F 0 ≈ whole 0
  plus_zero = at_zero_lem F (omega (arith, sign_positive)) (omega (arith, key_below F {b = 0} sign_positive))

  minus_zero : worth F (sign_bit F) ≈ whole 0
  minus_zero = at_zero_lem F (omega (arith, sign_positive)) (omega (arith, key_above F {b = sign_bit F} (omega arith)))

  -- An upper end above a positive one is no zero.
  not_minus_zero_lem : {r : ℕ} {b u : End} → UpperShape F r u → UpperPositive b → b ⊑ u → r ≡ sign_bit F → ⊥
  not_minus_zero_lem (upper_finite f) (upper_number h) (numbers k) e =
      lt_not_le (lt_le_trans h k) (eq_le (subst⁻¹ (λ (n : ℕ). worth F n ≈ whole 0) e minus_zero))
  not_minus_zero_lem (upper_infinite q) p k e = omega (arith, infinity_below F)
  not_minus_zero_lem {r = r} (upper_finite f) upper_none k e = elim k [ ]

  upper_exact_lem : {r : ℕ} {u : End} → UpperShape F r u → (r ≡ sign_bit F → ⊥) → UpperEnd F u r
  upper_exact_lem {r} (upper_finite f) n = exact_number F f n (eq_refl (worth F r))
  upper_exact_lem (upper_infinite q) n = subst⁻¹ (λ (m : ℕ). UpperEnd F unbounded m) q (exact_infinity F)

  -- Where 0 lies inside, the absolute values reach from 0 to the farther end.
  straddling : {x : Pair} {X : Set} {hi : ℕ} → SpanOf F x X → ClassOf X class_m → GreaterOf F (opposite F x.lower) x.upper hi
      → HullOf F (Result₁ abs X) (outward_pair F 0 hi)
  straddling (span_of o l u) (is_m negative positive) g =
      let (w, s, h) = greater_upper F (lower_opposite F l) u g in
      answer F _
      (abs_bounds o h (zero_between (record { low = zero_over negative; high = zero_under positive })))
      (upper_exact_lem s (not_minus_zero_lem s positive (greater_second_lem h)))
      (exact_number F (finite_positive F (infinity_positive F)) (λ e. omega (arith, sign_positive)) plus_zero)

  pub straddling_hull : (x : Pair) {hi : ℕ} → Bare F x → ClassOf (set_of F x) class_m → GreaterOf F (opposite F x.lower) x.upper hi
      → HullOf F (Result₁ abs (set_of F x)) (outward_pair F 0 hi)
  straddling_hull x b k = straddling (go (shape F x b) (set_valid F x b) k) k
    where
      go : {X : Set} → Shape F x X → Valid X → ClassOf X class_m → SpanOf F x X
      go (shape_span h l u) (valid_span o) c = span_of o l u
      go (shape_empty e) v c = elim c [ ]
