-- The chosen ends are the true bounds of the members of either operand, and of both.
use mathlib.Core.Logic.{◌⊎◌, inl, inr, ⊎_elim}
use Prim.Native.Nat.{ℕ}
use Rattle.patterns.specs.Format.{Format}
use Rattle.meaning.specs.Fraction.{Fraction, ◌≼◌}
use Rattle.meaning.specs.Sets.{Set, valid_span}
use Rattle.meaning.specs.Pairs.{Pair, worth, EmptyPair, empty_pair, set_of}
use Rattle.meaning.specs.Results.{Result₂, convex_hull, intersection}
use Rattle.meaning.specs.Statement.{HullOf}
use Rattle.meaning.specs.Bytes.{Tidied}
use Rattle.meaning.proofs.FractionLaws.{le_trans}
use Rattle.meaning.proofs.PairLaws.{set_empty}
use Rattle.meaning.proofs.PatternHull.{hull_of_none}
use Rattle.points.specs.Ends.{upper_of_both}
use Rattle.points.proofs.Unions.{hull_bounds, intersection_bounds, intersection_meets}
use Rattle.end_pairs.proofs.ExactHull.{exact_hull}
use Rattle.end_pairs.specs.Order.{LesserOf, GreaterOf}
use Rattle.set_op.proofs.EndOrder.{ends_ordered, patterns_ordered, greater_upper, lesser_upper, lesser_lower, greater_lower, greater_above, lesser_below, greater_one, lesser_one}
use Rattle.set_op.proofs.TrueEnds.{Exact, SpanOf, span_of, moved}

-- EMPTY adds nothing to the other operand, of which z is the tidied form.
module _ (F : Format) (x y : Pair) {z : Pair} where
  pub hull_second : EmptyPair F x → Tidied F y z → HullOf F (Result₂ convex_hull (set_of F x) (set_of F y)) z
  hull_second e t =
      exact_hull F _ z t.canonical (λ r. ⊎_elim (λ m. absurd (moved (set_empty F x e) r m)) (t.same.0 r)) (λ r m. inr (t.same.1 r m))

  pub hull_first : EmptyPair F y → Tidied F x z → HullOf F (Result₂ convex_hull (set_of F x) (set_of F y)) z
  hull_first e t =
      exact_hull F _ z t.canonical (λ r. ⊎_elim (t.same.0 r) (λ m. absurd (moved (set_empty F y e) r m))) (λ r m. inl (t.same.1 r m))

module _ (F : Format) (x y : Pair) where
  -- Nothing is common to EMPTY and another.
  pub intersection_empty : EmptyPair F x ⊎ EmptyPair F y → HullOf F (Result₂ intersection (set_of F x) (set_of F y)) (empty_pair F)
  intersection_empty e =
      hull_of_none F (Result₂ intersection (set_of F x) (set_of F y))
      (λ r m. ⊎_elim (λ d. moved (set_empty F x d) r m.0) (λ d. moved (set_empty F y d) r m.1) e)

module _ (F : Format) {x y p : Pair} where
  pub hull_exact : {X Y : Set} → SpanOf F x X → SpanOf F y Y
      → LesserOf F x.lower y.lower p.lower → GreaterOf F x.upper y.upper p.upper
      → Exact F (Result₂ convex_hull X Y) p
  hull_exact (span_of h a b) (span_of k c d) low high =
      let (l, s, g) = lesser_lower F a c low in
      let (u, t, f) = greater_upper F b d high in
      record { lower = l; upper = u; is_lower = s; is_upper = t; bounds = hull_bounds (valid_span h) (valid_span k) (upper_of_both f) (upper_of_both g) }

  module _ (greater : GreaterOf F x.lower y.lower p.lower) (lesser : LesserOf F x.upper y.upper p.upper) where
    pub intersection_exact : {X Y : Set} → SpanOf F x X → SpanOf F y Y → worth F p.lower ≼ worth F p.upper
        → Exact F (Result₂ intersection X Y) p
    intersection_exact (span_of h a b) (span_of k c d) in_order =
        let (l, s, g) = greater_lower F a c greater in
        let (u, t, f) = lesser_upper F b d lesser in
        let above = greater_above F greater in
        let below = lesser_below F lesser in
        record {
          lower = l;
          upper = u;
          is_lower = s;
          is_upper = t;
          bounds =
              intersection_bounds h k
              (ends_ordered F a d (le_trans above.0 (le_trans in_order below.1)))
              (ends_ordered F c b (le_trans above.1 (le_trans in_order below.0))) f g;
        }

    -- A common member puts each chosen lower end below each chosen upper end.
    pub intersection_none : {X Y : Set} → SpanOf F x X → SpanOf F y Y → (worth F p.lower ≼ worth F p.upper → ⊥)
        → (r : Fraction) → Result₂ intersection X Y r → ⊥
    intersection_none (span_of h a b) (span_of k c d) apart r m =
        let (ad, cb) = intersection_meets m in
        let under : ℕ → Type 0 = λ n. worth F p.lower ≼ worth F n in
        apart
        (lesser_one F under lesser
        (greater_one F (λ n. worth F n ≼ worth F x.upper) greater (patterns_ordered F a b h) (patterns_ordered F c b cb))
        (greater_one F (λ n. worth F n ≼ worth F y.upper) greater (patterns_ordered F a d ad) (patterns_ordered F c d k)))
