-- The true bounds of the results of max and min.
use mathlib.Core.Logic.{◌⊎◌, inl, inr, ⊎_elim}
use Rattle.meaning.specs.Fraction.{Fraction, ◌≼◌, negated}
use Rattle.meaning.specs.Sets.{End, Set, span, Under, Member, Ordered, mirror_end, mirror}
use Rattle.meaning.specs.Points.{max, min, Max, Min}
use Rattle.meaning.specs.Results.{Image₂, point, Result₂}
use Rattle.meaning.specs.Supremum.{Mirrored}
use Rattle.meaning.proofs.FractionLaws.{eq_le, eq_ge}
use Rattle.meaning.proofs.SetLaws.{some_member, under_trans, mirror_ordered, member_mirror, mirror_member}
use Rattle.points.specs.Ends.{Greater, Lesser, Bounds}
use Rattle.points.proofs.BinaryLaws.{max_min, min_max, max_total, min_total}
use Rattle.points.proofs.Reached.{Reaches, Reached, reach_through, reach_lower, reach_both, span_reached, reached_same, reached_bounds}
use Rattle.points.proofs.EndLaws.{under_raise, greater_first_lem, greater_second_lem, greater_is, lesser_first_lem, lesser_second_lem, lesser_is}

module _ {a b c d : End} (h : Ordered a b) (k : Ordered c d) where
  max_reached : {u : End} → Greater b d u → Reached (Image₂ Max (span a b) (span c d)) u
  max_reached {u} g = record { bound = bound; reach = greater_is (Reaches (Image₂ Max (span a b) (span c d))) g first second }
    where
      bound : (r : Fraction) → Image₂ Max (span a b) (span c d) r → Under r u
      bound r i =
          ⊎_elim
          (λ e. under_trans u (eq_le e) (under_raise (greater_first_lem g) i.in_x.high))
          (λ e. under_trans u (eq_le e) (under_raise (greater_second_lem g) i.in_y.high))
          i.makes.is_one

      first : Reaches (Image₂ Max (span a b) (span c d)) b
      first =
          let (y, n) = some_member k in
          reach_through (λ x m. let (r, o) = max_total x y in (r, record { x = x; y = y; in_x = m; in_y = n; makes = o }, o.first))
          (span_reached h).reach

      second : Reaches (Image₂ Max (span a b) (span c d)) d
      second =
          let (x, m) = some_member h in
          reach_through (λ y n. let (r, o) = max_total x y in (r, record { x = x; y = y; in_x = m; in_y = n; makes = o }, o.second))
          (span_reached k).reach

  min_reached : {u : End} → Lesser b d u → Reached (Image₂ Min (span a b) (span c d)) u
  min_reached {u} g = record {
    bound = λ r i. lesser_is (Under r) g (under_trans b i.makes.first i.in_x.high) (under_trans d i.makes.second i.in_y.high);
    reach = reach_both least (reach_lower (lesser_first_lem g) (span_reached h).reach) (reach_lower (lesser_second_lem g) (span_reached k).reach);
  }
    where
      least : (x y : Fraction) → Member (span a b) x → Member (span c d) y
          → (r : Fraction) × Image₂ Min (span a b) (span c d) r × ((x ≼ r) ⊎ (y ≼ r))
      least x y m n =
          let (r, o) = min_total x y in
          (r, record { x = x; y = y; in_x = m; in_y = n; makes = o }, ⊎_elim (λ e. inl (eq_ge e)) (λ e. inr (eq_ge e)) o.is_one)

-- The negatives of a function's results are its mirror function's results of the negatives.
module _ {M N : Fraction → Fraction → Fraction → Type 0} (X Y : Set)
    (turn : (x y r : Fraction) → M x y r → N (negated x) (negated y) (negated r))
    (back : (x y r : Fraction) → N x y r → M (negated x) (negated y) (negated r)) {l : End} where
  mirror_reached : Reached (Image₂ N (mirror X) (mirror Y)) l → Reached (Mirrored (Image₂ M X Y)) l
  mirror_reached =
      reached_same
      (λ r i. record {
        x = negated i.x;
        y = negated i.y;
        in_x = mirror_member X i.x i.in_x;
        in_y = mirror_member Y i.y i.in_y;
        makes = back i.x i.y r i.makes;
      })
      (λ r i. record {
        x = negated i.x;
        y = negated i.y;
        in_x = member_mirror X i.x i.in_x;
        in_y = member_mirror Y i.y i.in_y;
        makes = turn i.x i.y (negated r) i.makes;
      })

pub max_bounds : {a b c d u l : End} → Ordered a b → Ordered c d → Greater b d u → Lesser (mirror_end a) (mirror_end c) l
    → Bounds (Result₂ (point max) (span a b) (span c d)) u l
max_bounds {a} {b} {c} {d} h k g s =
    reached_bounds (max_reached h k g)
    (mirror_reached (span a b) (span c d) (λ x y r m. max_min m) (λ x y r m. min_max m) (min_reached (mirror_ordered h) (mirror_ordered k) s))

pub min_bounds : {a b c d u l : End} → Ordered a b → Ordered c d → Lesser b d u → Greater (mirror_end a) (mirror_end c) l
    → Bounds (Result₂ (point min) (span a b) (span c d)) u l
min_bounds {a} {b} {c} {d} h k s g =
    reached_bounds (min_reached h k s)
    (mirror_reached (span a b) (span c d) (λ x y r m. min_max m) (λ x y r m. max_min m) (max_reached (mirror_ordered h) (mirror_ordered k) g))
