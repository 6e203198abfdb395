-- The quantifiers over the members of two valid spans come to an order of their ends, once for `≼` and `≺`.
use Rattle.meaning.specs.Fraction.{Fraction, ◌≼◌}
use Rattle.meaning.specs.Sets.{End, at, unbounded, span, Under, under, Over, over, Ordered}
use Rattle.meaning.specs.Comparisons.{EachSome, EachEach}
use Rattle.meaning.proofs.FractionLaws.{le_trans, lt_not_le}
use Rattle.meaning.proofs.SetLaws.{upper_member, lower_member, upper_beyond, lower_beyond, some_member}
use Rattle.comparison_laws.specs.Ends.{Ascending, Reaches, reaches, reaches_all, Before, before}

below : {x q : Fraction} → Under x (at q) → x ≼ q
below (under h) = h

above : {x q : Fraction} → Over x (at q) → q ≼ x
above (over h) = h

module _ {R : Fraction → Fraction → Type 0} (order : Ascending R) where
  -- Each member has another's in order exactly if the upper ends are in order.
  pub each_some : {a b c d : End} → Ordered c d → Reaches R b d → EachSome R (span a b) (span c d)
  each_some {b = at p} {d = at q} k (reaches r) =
      λ x m. record { member = q; inside = upper_member k; holds = order.from_below (below m.high) r }
  each_some {c = c} {d = unbounded} k reaches_all =
      λ x m. let (y, n, h) = upper_beyond c x in record { member = y; inside = n; holds = order.of_less h }
  each_some {b = unbounded} {d = at q} k h = elim h [ ]

  pub each_some_only : {a b c d : End} → Ordered a b → EachSome R (span a b) (span c d) → Reaches R b d
  each_some_only {b = at p} {d = at q} h s =
      let y = s p (upper_member h) in reaches (order.to_above y.holds (below y.inside.high))
  each_some_only {b = at p} {d = unbounded} h s = reaches_all
  each_some_only {b = unbounded} {d = unbounded} h s = reaches_all
  each_some_only {a} {b = unbounded} {d = at q} h s =
      let (x, m, l) = upper_beyond a q in
      let y = s x m in
      absurd (lt_not_le l (le_trans (order.at_most_lem y.holds) (below y.inside.high)))

  -- All members are in order exactly if the upper end is in order with the other's lower end.
  pub each_each : {a b c d : End} → Before R b c → EachEach R (span a b) (span c d)
  each_each {b = at p} {c = at q} (before r) =
      λ x y m n. order.to_above (order.from_below (below m.high) r) (above n.low)
  each_each {b = at p} {c = unbounded} h = elim h [ ]
  each_each {b = unbounded} h = elim h [ ]

  pub each_each_only : {a b c d : End} → Ordered a b → Ordered c d → EachEach R (span a b) (span c d) → Before R b c
  each_each_only {b = at p} {c = at q} h k s = before (s p q (upper_member h) (lower_member k))
  each_each_only {b = at p} {c = unbounded} {d} h k s =
      let (y, n, l) = lower_beyond d p in
      absurd (lt_not_le l (order.at_most_lem (s p y (upper_member h) n)))
  each_each_only {a} {b = unbounded} h k s =
      let (y, n) = some_member k in
      let (x, m, l) = upper_beyond a y in
      absurd (lt_not_le l (order.at_most_lem (s x y m n)))
