-- The one notion of a right answer: the narrowest interval of the format that holds all results.
use Rattle.std.specs.Prelude.{◌≡◌, ◌↔◌, ℕ}
use Rattle.patterns.specs.Format.{Format}
use Rattle.patterns.specs.Value.{Finite}
use Rattle.meaning.specs.Fraction.{Fraction, ◌≈◌}
use Rattle.meaning.specs.Sets.{End, at, unbounded, Set, empty, span, Member, Inside, Valid}
use Rattle.meaning.specs.Pairs.{worth}

-- A number of the format: what some finite pattern is worth.
pub record OfFormat (F : Format) (q : Fraction) : Type 0 where
  pub pattern : ℕ
  pub is_finite : Finite F pattern
  pub is : q ≈ worth F pattern

-- "double or infinite ends".
pub data EndOfFormat (F : Format) : End → Type 0 where
  format_number : {q : Fraction} → OfFormat F q → EndOfFormat F (at q)
  format_infinite : EndOfFormat F unbounded

pub data SetOfFormat (F : Format) : Set → Type 0 where
  format_empty : SetOfFormat F empty
  format_span : {lower upper : End} → EndOfFormat F lower → EndOfFormat F upper → SetOfFormat F (span lower upper)

-- Z is the hull of the results R: "the answer is empty exactly if there is none; else it holds them all,
-- and every interval with double or infinite ends that holds them all contains it".
pub record Hull (F : Format) (R : Fraction → Type 0) (Z : Set) : Type 0 where
  pub valid : Valid Z
  pub of_format : SetOfFormat F Z
  pub empty_if : (Z ≡ empty) ↔ ((r : Fraction) → R r → ⊥)
  pub holds : (r : Fraction) → R r → Member Z r
  pub narrowest : (W : Set) → SetOfFormat F W → ((r : Fraction) → R r → Member W r) → Inside Z W
