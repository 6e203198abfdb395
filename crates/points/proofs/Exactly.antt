-- An end that is a number of the format already, or that is no number, rounds to itself.
use mathlib.Core.Path.{◌≡◌, refl}
use mathlib.Core.Logic.{inl, inr}
use Prim.Native.Nat.{ℕ}
use native.Mathlib.Omega.{arith}
use Rattle.patterns.specs.Format.{Format, infinity, sign_bit}
use Rattle.patterns.specs.Value.{Finite}
use Rattle.patterns.proofs.SignLaws.{infinity_below}
use Rattle.meaning.specs.Fraction.{Fraction, ◌≼◌, ◌≈◌}
use Rattle.meaning.specs.Sets.{at, unbounded}
use Rattle.meaning.specs.Pairs.{worth}
use Rattle.meaning.specs.Supremum.{AtMost, at_most, UpperEnd}
use Rattle.meaning.proofs.FractionLaws.{le_trans, eq_le, eq_ge}
use Rattle.meaning.proofs.PairLaws.{infinity_not_finite}

-- A finite pattern other than -0.0 is the upper end that it is worth.
pub exact_number : (F : Format) {r : ℕ} {s : Fraction} → Finite F r → (r ≡ sign_bit F → ⊥) → worth F r ≈ s → UpperEnd F (at s) r
exact_number F {r} {s} f n e = record {
  upper = record { number = inl f; not_minus_zero = n };
  above = λ g. at_most (eq_ge e);
  least = λ c g k. (f, le_trans (eq_le e) (most k));
}
  where
    most : {w : Fraction} → AtMost w (at s) → s ≼ w
    most (at_most h) = h

-- +inf is the upper end of what has no bound.
pub exact_infinity : (F : Format) → UpperEnd F unbounded (infinity F)
exact_infinity F = record {
  upper = record { number = inr refl; not_minus_zero = λ e. omega (arith, infinity_below F) };
  above = λ f. absurd (infinity_not_finite F f);
  least = λ c f k. absurd (never k);
}
  where
    never : {w : Fraction} → AtMost w unbounded → ⊥
    never k = elim k [ ]
