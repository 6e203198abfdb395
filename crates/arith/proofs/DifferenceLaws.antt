-- A difference is the sum with the second operand mirrored, and results that are the same have the same answer.
use mathlib.Core.Bool.{Bool}
use mathlib.Core.Path.{◌≡◌, ◌∙◌, ap, subst, subst⁻¹}
use native.Mathlib.Omega.{arith}
use Rattle.patterns.specs.Format.{Format}
use Rattle.meaning.specs.Fraction.{Fraction, ◌≈◌, ◌⊕◌, negated}
use Rattle.meaning.specs.Sets.{Set, Member, mirror}
use Rattle.meaning.specs.Pairs.{Pair, Bare, set_of}
use Rattle.meaning.specs.Points.{add, sub}
use Rattle.meaning.specs.Results.{Result₂, point}
use Rattle.meaning.specs.Statement.{HullOf}
use Rattle.meaning.specs.Supremum.{Supremum}
use Rattle.meaning.specs.Exactness.{ExactUpper, of_empty, true_bound, ExactHullOf}
use Rattle.meaning.proofs.SetLaws.{member_mirror, mirror_member}
use Rattle.truth.proofs.AnswerLaws.{answers_iff}
use Rattle.end_pairs.specs.Mirror.{mirror_pair}
use Rattle.end_pairs.proofs.MirrorLaws.{mirror_set}
use Rattle.arith.specs.ExactFor.{ExactFor}
use Rattle.arith.specs.declared.exact.Exactness.{Exactness}

-- Results that are the same have the same hull, and ends that are exact alike.
same_bound : {R S : Fraction → Type 0} → ((r : Fraction) → R r → S r) → ((r : Fraction) → S r → R r) → {Z : Set} → ExactUpper R Z → ExactUpper S Z
same_bound forth back of_empty = of_empty
same_bound {R} {S} forth back (true_bound {upper = u} s) = true_bound same
  where
    same : Supremum S u
    same = record { bounds = λ w k r m. s.bounds w k r (back r m); least = λ w b. s.least w (λ r m. b r (forth r m)) }

module _ (F : Format) {R S : Fraction → Type 0} (forth : (r : Fraction) → R r → S r) (back : (r : Fraction) → S r → R r) where
  same_hull : {z : Pair} → HullOf F R z → HullOf F S z
  same_hull h = record {
    canonical = h.canonical;
    hull = record {
      valid = h.hull.valid;
      of_format = h.hull.of_format;
      empty_if = (λ e r m. h.hull.empty_if.0 e r (back r m), λ none. h.hull.empty_if.1 (λ r m. none r (forth r m)));
      holds = λ r m. h.hull.holds r (back r m);
      narrowest = λ W f all. h.hull.narrowest W f (λ r m. all r (forth r m));
    };
  }

  same_exact : {z : Pair} {s t : Bool} → ExactHullOf F R (record { pair = z; lower_exact = s; upper_exact = t })
      → ExactHullOf F S (record { pair = z; lower_exact = s; upper_exact = t })
  same_exact e = record {
    answer = same_hull e.answer;
    lower = answers_iff (same_bound (λ r. forth (negated r)) (λ r. back (negated r))) (same_bound (λ r. back (negated r)) (λ r. forth (negated r))) e.lower;
    upper = answers_iff (same_bound forth back) (same_bound back forth) e.upper;
  }

add_negated : (x y : Fraction) {r : Fraction} → r ⊕ y ≈ x → r ≈ x ⊕ negated y
unfolding ◌⊕◌
add_negated x y h = record { eq = omega (arith, h.eq) }

take_negated : (x y : Fraction) {r : Fraction} → r ≈ x ⊕ y → r ⊕ negated y ≈ x
unfolding ◌⊕◌
take_negated x y h = record { eq = omega (arith, h.eq) }

-- A difference is the sum with the second operand mirrored, which is m.
module _ (F : Format) (x y : Pair) {m : Pair} (bare : Bare F y) (is_m : m ≡ mirror_pair F y) where
  mirror_is : set_of F m ≡ mirror (set_of F y)
  mirror_is = ap (set_of F) is_m ∙ mirror_set F y bare

  to_difference : (r : Fraction) → Result₂ (point add) (set_of F x) (set_of F m) r → Result₂ (point sub) (set_of F x) (set_of F y) r
  to_difference r s = record {
    x = s.x;
    y = negated s.y;
    in_x = s.in_x;
    in_y = mirror_member (set_of F y) s.y (subst (λ (Y : Set). Member Y s.y) mirror_is s.in_y);
    makes = take_negated s.x s.y s.makes;
  }

  to_sum : (r : Fraction) → Result₂ (point sub) (set_of F x) (set_of F y) r → Result₂ (point add) (set_of F x) (set_of F m) r
  to_sum r d = record {
    x = d.x;
    y = negated d.y;
    in_x = d.in_x;
    in_y = subst⁻¹ (λ (Y : Set). Member Y (negated d.y)) mirror_is (member_mirror (set_of F y) d.y d.in_y);
    makes = add_negated d.x d.y d.makes;
  }

  pub difference_hull : {z : Pair} → HullOf F (Result₂ (point add) (set_of F x) (set_of F m)) z → HullOf F (Result₂ (point sub) (set_of F x) (set_of F y)) z
  difference_hull = same_hull F to_difference to_sum

  pub difference_exact : {e : Exactness} → ExactFor F (Result₂ (point add) (set_of F x) (set_of F m)) e → ExactFor F (Result₂ (point sub) (set_of F x) (set_of F y)) e
  difference_exact f z h = same_exact F to_difference to_sum (f z (same_hull F to_sum to_difference h))
