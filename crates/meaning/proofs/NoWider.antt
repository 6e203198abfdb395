-- What both flags together say: the answer is the hull of all results in exact fractions.
use mathlib.Core.Bool.{true}
use mathlib.Core.Path.{◌≡◌, subst}
use mathlib.Core.Logic.{◌↔◌}
use Rattle.truth.proofs.AnswerLaws.{said_yes}
use Rattle.patterns.specs.Format.{Format}
use Rattle.meaning.specs.Fraction.{Fraction, ◌≼◌, negated}
use Rattle.meaning.specs.Sets.{End, at, unbounded, Set, empty, span, Member, Inside, Under, under, under_none, Over, mirror_end}
use Rattle.meaning.specs.Pairs.{set_of}
use Rattle.meaning.specs.Supremum.{AtMost, at_most, Supremum, Mirrored}
use Rattle.meaning.specs.Exactness.{ExactUpper, ExactLower, ExactPair, ExactHullOf, ExactHull}
use Rattle.meaning.proofs.FractionLaws.{le_trans}
use Rattle.meaning.proofs.SetLaws.{over_mirror, under_mirror, mirror_end_twice}
use Rattle.meaning.proofs.ExactLaws.{true_bound_lem}

-- Between true bounds lies no more than between any ends that hold all results.
module _ {R : Fraction → Type 0} {x : Fraction} where
  high_in : {b d : End} → Supremum R b → ((r : Fraction) → R r → Under r d) → Under x b → Under x d
  high_in {b} {d = at w} s h m = within (s.least w (λ r i. bound (h r i))) m
    where
      bound : {r : Fraction} → Under r (at w) → r ≼ w
      bound (under k) = k

      within : {b : End} → AtMost w b → Under x b → Under x (at w)
      within (at_most k) (under l) = under (le_trans l k)
  high_in {b} {d = unbounded} s h m = under_none

low_in : {R : Fraction → Type 0} {x : Fraction} {a c : End} → Supremum (Mirrored R) (mirror_end a) → ((r : Fraction) → R r → Over r c) → Over x a → Over x c
low_in {R} {x} {a} {c} s h m =
    subst (Over x) (mirror_end_twice c)
    (under_mirror (mirror_end c) (high_in {R = Mirrored R} s (λ r i. over_mirror c (h (negated r) i)) (over_mirror a m)))

exact_inside : {R : Fraction → Type 0} (Z : Set) → ExactLower R Z → ExactUpper R Z → (Z ≡ empty) ↔ ((r : Fraction) → R r → ⊥)
    → (W : Set) → ((r : Fraction) → R r → Member W r) → Inside Z W
exact_inside empty l u e W h x m = absurd m
exact_inside (span a b) l u e empty h x m = subst (λ (Z : Set). Member Z x) (e.1 h) m
exact_inside (span a b) l u e (span c d) h x m =
    record { low = low_in (true_bound_lem l) (λ r i. (h r i).low) m.low; high = high_in (true_bound_lem u) (λ r i. (h r i).high) m.high }

-- If both flags are set, the answer is the hull in exact fractions, no wider.
pub no_wider : (F : Format) (R : Fraction → Type 0) (z : ExactPair) → ExactHullOf F R z → z.lower_exact ≡ true → z.upper_exact ≡ true
    → ExactHull R (set_of F z.pair)
no_wider F R z h l u =
    let hull = h.answer.hull in
    record { holds = hull.holds; narrowest = exact_inside (set_of F z.pair) (said_yes h.lower l) (said_yes h.upper u) hull.empty_if }
