-- The true bounds of the results of a monotone operation.
use Rattle.meaning.specs.Fraction.{Fraction, ◌≺◌, negated, whole}
use Rattle.meaning.specs.Sets.{End, at, unbounded, Set, span, under, under_none, Ordered, mirror_end, mirror}
use Rattle.meaning.specs.Points.{Unary, sign, Makes₁}
use Rattle.meaning.specs.Results.{Image₁, Result₁}
use Rattle.meaning.specs.Supremum.{Mirrored}
use Rattle.meaning.proofs.FractionLaws.{le_refl, lt_le_trans}
use Rattle.meaning.proofs.SetLaws.{over_trans, upper_member, upper_beyond, mirror_ordered, member_mirror, mirror_member}
use Rattle.points.specs.Functions.{Monotone, Mirrors, Keeps}
use Rattle.points.specs.Ends.{EndMakes, of_number, of_none, sign_of_none, Bounds}
use Rattle.points.proofs.FloorLaws.{ceil_total}
use Rattle.points.proofs.ZeroLaws.{sign_above, sign_most}
use Rattle.points.proofs.PointLaws.{monotone, mirror_back, mirror_makes, whole_kept}
use Rattle.points.proofs.Reached.{reaches, exceeds, Reached, reached_same, reached_bounds}
use Rattle.points.proofs.EndLaws.{under_number}

-- A monotone function's results over a span come up to its result at the upper end.
image_reached : {M : Fraction → Fraction → Type 0} {a : End} {b s : Fraction}
    → Monotone M → Ordered a (at b) → M b s → Reached (Image₁ M (span a (at b))) (at s)
image_reached {b = b} {s} rising h m = record {
  bound = λ r i. under (rising.rises i.makes m (under_number i.in_x.high));
  reach = reaches s (record { x = b; in_x = upper_member h; makes = m }) (le_refl s);
}

-- A span with no upper end has a whole member above any number.
whole_beyond : {op : Unary} → Keeps op → (a : End) (q : Fraction) → (r : Fraction) × Result₁ op (span a unbounded) r × (q ≺ r)
whole_beyond k a q =
    let (x, m, h) = upper_beyond a q in
    let (n, c) = ceil_total x in (
      n,
      record { x = n; in_x = record { low = over_trans a c.not_below m.low; high = under_none }; makes = whole_kept k n c.is_whole },
      lt_le_trans h c.not_below,
    )

sign_reached : (a : End) → Reached (Result₁ sign (span a unbounded)) (at (whole 1))
sign_reached a =
    let (x, m, h) = upper_beyond a (whole 0) in
    record {
      bound = λ r i. under (sign_most i.makes);
      reach = reaches (whole 1) (record { x = x; in_x = m; makes = sign_above h }) (le_refl (whole 1));
    }

rising_reached : {op other : Unary} {a b u : End} → Mirrors op other → Ordered a b → EndMakes op b u → Reached (Result₁ op (span a b)) u
rising_reached k h (of_number m) = image_reached (monotone k) h m
rising_reached {a = a} k h (of_none p) = record { bound = λ r i. under_none; reach = exceeds (whole_beyond p a) }
rising_reached {a = a} k h sign_of_none = sign_reached a

-- The negatives of an operation's results are the mirror operation's results of the negatives.
module _ {op other : Unary} (k : Mirrors op other) (X : Set) where
  to_mirror : (r : Fraction) → Mirrored (Result₁ op X) r → Result₁ other (mirror X) r
  to_mirror r i = record { x = negated i.x; in_x = member_mirror X i.x i.in_x; makes = mirror_makes k i.x (negated r) i.makes }

  from_mirror : (r : Fraction) → Result₁ other (mirror X) r → Mirrored (Result₁ op X) r
  from_mirror r i = record { x = negated i.x; in_x = mirror_member X i.x i.in_x; makes = mirror_makes (mirror_back k) i.x r i.makes }

-- The mirror of what an operation makes of a lower end that is a number.
pub lower_made : {op other : Unary} → Mirrors op other → (a s : Fraction) → Makes₁ op a s → EndMakes other (mirror_end (at a)) (at (negated s))
lower_made k a s m = of_number (mirror_makes k a s m)

pub rising_bounds : {op other : Unary} {a b u l : End} → Mirrors op other → Ordered a b
    → EndMakes op b u → EndMakes other (mirror_end a) l → Bounds (Result₁ op (span a b)) u l
rising_bounds {a = a} {b} k h m n =
    reached_bounds (rising_reached k h m)
    (reached_same (from_mirror k (span a b)) (to_mirror k (span a b)) (rising_reached (mirror_back k) (mirror_ordered h) n))
