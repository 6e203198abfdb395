-- The chosen ends are the true bounds of the greater, and of the lesser, of two members.
use Rattle.patterns.specs.Format.{Format}
use Rattle.meaning.specs.Sets.{Set}
use Rattle.meaning.specs.Pairs.{Pair}
use Rattle.meaning.specs.Points.{max, min}
use Rattle.meaning.specs.Results.{Result₂, point}
use Rattle.points.proofs.Extremes.{max_bounds, min_bounds}
use Rattle.end_pairs.specs.Order.{LesserOf, GreaterOf}
use Rattle.set_op.proofs.EndOrder.{greater_upper, lesser_upper, lesser_lower, greater_lower}
use Rattle.set_op.proofs.TrueEnds.{Exact, SpanOf, span_of}

module _ (F : Format) {x y p : Pair} where
  pub max_exact : {X Y : Set} → SpanOf F x X → SpanOf F y Y
      → GreaterOf F x.lower y.lower p.lower → GreaterOf F x.upper y.upper p.upper
      → Exact F (Result₂ (point max) X Y) p
  max_exact (span_of h a b) (span_of k c d) low high =
      let (l, s, g) = greater_lower F a c low in
      let (u, t, f) = greater_upper F b d high in
      record { lower = l; upper = u; is_lower = s; is_upper = t; bounds = max_bounds h k f g }

  pub min_exact : {X Y : Set} → SpanOf F x X → SpanOf F y Y
      → LesserOf F x.lower y.lower p.lower → LesserOf F x.upper y.upper p.upper
      → Exact F (Result₂ (point min) X Y) p
  min_exact (span_of h a b) (span_of k c d) low high =
      let (l, s, g) = lesser_lower F a c low in
      let (u, t, f) = lesser_upper F b d high in
      record { lower = l; upper = u; is_lower = s; is_upper = t; bounds = min_bounds h k f g }
