-- The true bounds of negatives and of magnitudes.
use mathlib.Core.Logic.{⊎_elim}
use Rattle.meaning.specs.Fraction.{Fraction, negated, whole}
use Rattle.meaning.specs.Sets.{End, at, span, Under, under, Ordered, mirror_end}
use Rattle.meaning.specs.Points.{abs}
use Rattle.meaning.specs.Results.{Result₁}
use Rattle.meaning.specs.Supremum.{Mirrored}
use Rattle.meaning.proofs.FractionLaws.{le_refl, le_trans, le_or_le, eq_le, neg_le}
use Rattle.meaning.proofs.SetLaws.{under_trans, over_mirror, mirror_ordered, mirror_member, upper_member, lower_member}
use Rattle.points.specs.Ends.{Greater, LeastMagnitude, zero_between, lower_nearer, upper_nearer, Bounds}
use Rattle.points.proofs.ZeroLaws.{abs_mirror, abs_above, abs_total, abs_not_negative, abs_not_below}
use Rattle.points.proofs.Reached.{Reaches, reaches, Reached, reach_through, span_reached, reached_bounds}
use Rattle.points.proofs.EndLaws.{under_number, over_number, under_raise, greater_first_lem, greater_second_lem, greater_is}

-- The results of abs come up to b, and to -a.
module _ {a b : End} (h : Ordered a b) where
  reach_upper : Reaches (Result₁ abs (span a b)) b
  reach_upper =
      reach_through (λ x m. let (r, n) = abs_total x in (r, record { x = x; in_x = m; makes = n }, abs_not_below n)) (span_reached h).reach

  reach_mirror : Reaches (Result₁ abs (span a b)) (mirror_end a)
  reach_mirror =
      reach_through
      (λ y m. let (r, n) = abs_total y in (r, record { x = negated y; in_x = mirror_member (span a b) y m; makes = abs_mirror n }, abs_not_below n))
      (span_reached (mirror_ordered h)).reach

  abs_reached : {u : End} → Greater (mirror_end a) b u → Reached (Result₁ abs (span a b)) u
  abs_reached {u} g = record { bound = bound; reach = greater_is (Reaches (Result₁ abs (span a b))) g reach_mirror reach_upper }
    where
      bound : (r : Fraction) → Result₁ abs (span a b) r → Under r u
      bound r i =
          ⊎_elim
          (λ p. under_raise (greater_second_lem g) (under_trans b (eq_le (i.makes.of_positive p)) i.in_x.high))
          (λ n. under_raise (greater_first_lem g) (under_trans (mirror_end a) (eq_le (i.makes.of_negative n)) (over_mirror a i.in_x.low)))
          (le_or_le (whole 0) i.x)

-- No magnitude is below the least one, which is some member's.
least_reached : {a b : End} {m : Fraction} → Ordered a b → LeastMagnitude a b m → Reached (Mirrored (Result₁ abs (span a b))) (at (negated m))
least_reached h (zero_between z) = record {
  bound = λ r i. under (neg_le (abs_not_negative i.makes));
  reach = reaches (whole 0) (record { x = whole 0; in_x = z; makes = abs_above (whole 0) (le_refl (whole 0)) }) (le_refl (whole 0));
}
least_reached {b = b} h (lower_nearer {a} p) = record {
  bound = λ r i. under (neg_le (le_trans (over_number i.in_x.low) (abs_not_below i.makes)));
  reach = reaches (negated a) (record { x = a; in_x = lower_member h; makes = abs_above a p }) (le_refl (negated a));
}
least_reached {a = a} h (upper_nearer {b = b} p) = record {
  bound = λ r i. under (neg_le (le_trans (neg_le (under_number i.in_x.high)) (abs_not_below (abs_mirror i.makes))));
  reach = reaches b (record { x = b; in_x = upper_member h; makes = abs_mirror (abs_above (negated b) (neg_le p)) }) (le_refl b);
}

pub abs_bounds : {a b u : End} {m : Fraction} → Ordered a b → Greater (mirror_end a) b u → LeastMagnitude a b m
    → Bounds (Result₁ abs (span a b)) u (at (negated m))
abs_bounds h g l = reached_bounds (abs_reached h g) (least_reached h l)
