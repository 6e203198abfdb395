-- The true bounds of the members of either set and of both.
use mathlib.Core.Logic.{inl, inr, ⊎_elim}
use Rattle.meaning.specs.Fraction.{Fraction, negated}
use Rattle.meaning.specs.Sets.{End, at, unbounded, Set, span, Under, under, under_none, Over, over, over_none, Ordered, ordered, no_lower, no_upper, Valid, valid_empty, valid_span, mirror_end, mirror}
use Rattle.meaning.specs.Results.{convex_hull, intersection, Result₂}
use Rattle.meaning.proofs.FractionLaws.{le_refl, le_trans, lt_le, lt_le_trans}
use Rattle.meaning.proofs.SetLaws.{over_trans, mirror_ordered, member_mirror, mirror_member, upper_member, upper_beyond}
use Rattle.points.specs.Ends.{Greater, Lesser, EitherUpper, upper_of_both, upper_of_first, upper_of_second, Bounds}
use Rattle.points.proofs.Reached.{Reaches, reaches, exceeds, Reached, reach_through, span_reached, reached_same, reached_bounds}
use Rattle.points.proofs.EndLaws.{under_raise, greater_first_lem, greater_second_lem, greater_is, lesser_first_lem, lesser_second_lem, lesser_is}

either_reached : {a b c d u : End} → Ordered a b → Ordered c d → Greater b d u → Reached (Result₂ convex_hull (span a b) (span c d)) u
either_reached {a} {b} {c} {d} h k g = record {
  bound = λ r. ⊎_elim (λ m. under_raise (greater_first_lem g) m.high) (λ m. under_raise (greater_second_lem g) m.high);
  reach =
      greater_is (Reaches (Result₂ convex_hull (span a b) (span c d))) g
      (reach_through (λ r m. (r, inl m, le_refl r)) (span_reached h).reach)
      (reach_through (λ r m. (r, inr m, le_refl r)) (span_reached k).reach);
}

hull_reached : {X Y : Set} {u : End} → Valid X → Valid Y → EitherUpper X Y u → Reached (Result₂ convex_hull X Y) u
hull_reached (valid_span h) (valid_span k) (upper_of_both g) = either_reached h k g
hull_reached (valid_span h) valid_empty upper_of_first = reached_same (λ r m. inl m) (λ r. ⊎_elim (λ m. m) absurd) (span_reached h)
hull_reached valid_empty (valid_span k) upper_of_second = reached_same (λ r m. inr m) (λ r. ⊎_elim absurd (λ m. m)) (span_reached k)
hull_reached valid_empty valid_empty h = elim h [ ]

mirror_valid : {X : Set} → Valid X → Valid (mirror X)
mirror_valid valid_empty = valid_empty
mirror_valid (valid_span h) = valid_span (mirror_ordered h)

pub hull_bounds : {X Y : Set} {u l : End} → Valid X → Valid Y → EitherUpper X Y u → EitherUpper (mirror X) (mirror Y) l
    → Bounds (Result₂ convex_hull X Y) u l
hull_bounds {X} {Y} v w e f =
    reached_bounds (hull_reached v w e)
    (reached_same
    (λ r. ⊎_elim (λ m. inl (mirror_member X r m)) (λ m. inr (mirror_member Y r m)))
    (λ r. ⊎_elim (λ m. inl (member_mirror X (negated r) m)) (λ m. inr (member_mirror Y (negated r) m)))
    (hull_reached (mirror_valid v) (mirror_valid w) f))

-- Numbers not below two lower ends come up to an upper end that neither is above.
above_both : (a c u : End) → Ordered a u → Ordered c u → Reaches (λ r. Over r a × Over r c × Under r u) u
above_both a c (at q) h k = reaches q ((upper_member h).low, (upper_member k).low, under (le_refl q)) (le_refl q)
above_both a c unbounded h k =
    exceeds
    (λ q.
    let (x, m, l) = upper_beyond a q in
    let (y, n, o) = upper_beyond c x in (y, (over_trans a (lt_le o) m.low, n.low, under_none), lt_le_trans l (lt_le o)))

both_reached : {a b c d u : End} → Ordered a b → Ordered c d → Ordered a d → Ordered c b → Lesser b d u
    → Reached (Result₂ intersection (span a b) (span c d)) u
both_reached {a} {b} {c} {d} {u} h k p q g = record {
  bound = λ r m. lesser_is (Under r) g m.0.high m.1.high;
  reach =
      reach_through
      (λ r m. (r, (record { low = m.0; high = under_raise (lesser_first_lem g) m.2 }, record { low = m.1; high = under_raise (lesser_second_lem g) m.2 }), le_refl r))
      (above_both a c u (lesser_is (Ordered a) g h p) (lesser_is (Ordered c) g q k));
}

-- Two valid spans have common members if neither begins above the other's end.
pub intersection_bounds : {a b c d u l : End} → Ordered a b → Ordered c d → Ordered a d → Ordered c b
    → Lesser b d u → Lesser (mirror_end a) (mirror_end c) l
    → Bounds (Result₂ intersection (span a b) (span c d)) u l
intersection_bounds {a} {b} {c} {d} h k p q g s =
    reached_bounds (both_reached h k p q g)
    (reached_same
    (λ r m. (mirror_member (span a b) r m.0, mirror_member (span c d) r m.1))
    (λ r m. (member_mirror (span a b) (negated r) m.0, member_mirror (span c d) (negated r) m.1))
    (both_reached (mirror_ordered h) (mirror_ordered k) (mirror_ordered q) (mirror_ordered p) s))

through : {a d : End} {r : Fraction} → Over r a → Under r d → Ordered a d
through (over h) (under k) = ordered (le_trans h k)
through (over h) under_none = no_upper
through over_none k = no_lower

-- They have none otherwise.
pub intersection_meets : {a b c d : End} {r : Fraction} → Result₂ intersection (span a b) (span c d) r → Ordered a d × Ordered c b
intersection_meets m = (through m.0.low m.1.high, through m.1.low m.0.high)
