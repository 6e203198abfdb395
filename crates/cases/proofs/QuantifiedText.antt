-- The quantified text of Meets holds of [1, 2] and [2, 2] too, whose state is FinishedBy: "The endpoint conditions decide, not the
-- quantified ones."
use mathlib.Core.Path.{◌≡◌, sym, subst₂}
use Prim.Native.Nat.{ℕ}
use native.Mathlib.Omega.{arith}
use Rattle.patterns.specs.Format.{binary64, infinity, sign_bit}
use Rattle.patterns.specs.Value.{value, magnitude, plus, minus, opposite}
use Rattle.meaning.specs.Fraction.{Fraction, ◌≼◌, ◌≺◌}
use Rattle.meaning.specs.Sets.{at, empty, span, Under, under, Over, over, Member}
use Rattle.meaning.specs.Pairs.{worth, minus_infinity, end_of, set_of}
use Rattle.meaning.proofs.FractionLaws.{le_refl, le_trans, lt_le, lt_le_trans, eq_refl}
use Rattle.cases.specs.Quantified.{QuantifiedMeets}
use Rattle.cases.specs.Table.{pair, only, one, two}
use Rattle.cases.proofs.Tests.{lt_tested}
use Rattle.cases.proofs.StateTests.{bounded_set}

-- [a, b] and [b, b], with a less than b.
module _ (a b : Fraction) (less : a ≺ b) where
  at_most_lem : (x : Fraction) → Member (span (at a) (at b)) x → x ≼ b
  at_most_lem x m = go m.high
    where
      go : Under x (at b) → x ≼ b
      go (under h) = h

  at_least : (y : Fraction) → Member (span (at b) (at b)) y → b ≼ y
  at_least y m = go m.low
    where
      go : Over y (at b) → b ≼ y
      go (over h) = h

  spans_not_empty : (u v : Fraction) → span (at u) (at v) ≡ empty → ⊥
  spans_not_empty u v e = let none : ◌≡◌ {A = ℕ} 0 1 = cc in omega arith

  text_holds : QuantifiedMeets (span (at a) (at b)) (span (at b) (at b))
  text_holds =
      record {
        nonempty = (spans_not_empty a b, spans_not_empty b b);
        in_order = λ x y m n. le_trans (at_most_lem x m) (at_least y n);
        below =
            (a, record { low = over (le_refl a); high = under (lt_le less) }, λ y n. lt_le_trans less (at_least y n));
        touching = (
          b,
          b,
          record { low = over (lt_le less); high = under (le_refl b) },
          record { low = over (le_refl b); high = under (le_refl b) },
          eq_refl b,
        );
      }

pub meets_text_holds : QuantifiedMeets (set_of binary64 (pair one two)) (set_of binary64 (only two))
unfolding infinity sign_bit value magnitude plus minus opposite minus_infinity end_of set_of
meets_text_holds =
    subst₂ QuantifiedMeets (sym (bounded_set binary64 (pair one two) tt).1) (sym (bounded_set binary64 (only two) tt).1)
    (text_holds (worth binary64 one) (worth binary64 two) (lt_tested (worth binary64 one) (worth binary64 two) tt))
