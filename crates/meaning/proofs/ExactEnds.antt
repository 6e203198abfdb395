-- Ends that round to themselves: those of the format.
use mathlib.Core.Bool.{Bool}
use mathlib.Core.Path.{◌∙◌, ap, subst, subst⁻¹}
use mathlib.Core.Logic.{⊎_elim}
use Prim.Native.Nat.{ℕ}
use Rattle.truth.specs.Answers.{Answers}
use Rattle.truth.proofs.AnswerLaws.{answers_iff}
use Rattle.patterns.specs.Format.{Format}
use Rattle.patterns.specs.Value.{Finite}
use Rattle.patterns.specs.Rounding.{UpperPattern}
use Rattle.meaning.specs.Sets.{End, at, unbounded, SameEnd, same_number, same_none}
use Rattle.meaning.specs.Pairs.{worth, end_of}
use Rattle.meaning.specs.Hull.{EndOfFormat, format_number, format_infinite}
use Rattle.meaning.specs.Supremum.{at_most, UpperEnd}
use Rattle.meaning.proofs.FractionLaws.{le_trans, eq_le, eq_ge, antisymm}
use Rattle.meaning.proofs.SupremumLaws.{at_most_lem, never_most}
use Rattle.meaning.proofs.PairLaws.{end_finite, end_infinity}

-- The pattern r is the upper end u rounded upward, and `exact` says whether it is u itself: the same number, or no bound.
pub record UpperEndTold (F : Format) (u : End) (r : ℕ) (exact : Bool) : Type 0 where
  pub rounded : UpperEnd F u r
  pub told : Answers (SameEnd u (end_of F r)) exact

-- An end rounds to itself exactly if it is an end of the format.
module _ (F : Format) {r : ℕ} where
  format_same : {u : End} → UpperEnd F u r → EndOfFormat F u → SameEnd u (end_of F r)
  format_same up (format_number {q} h) =
      let (finite, le) = up.least h.pattern h.is_finite (at_most (eq_le h.is)) in
      subst⁻¹ (SameEnd (at q)) (end_finite F finite) (same_number (antisymm (at_most_lem (up.above finite)) (le_trans le (eq_ge h.is))))
  format_same up format_infinite =
      ⊎_elim (λ f. absurd (never_most (up.above f))) (λ e. subst⁻¹ (SameEnd unbounded) (ap (end_of F) e ∙ end_infinity F) same_none) up.upper.number

  same_format : {u : End} → UpperPattern F r → SameEnd u (end_of F r) → EndOfFormat F u
  same_format upper same =
      ⊎_elim (λ f. number f (subst (SameEnd _) (end_finite F f) same)) (λ e. none (subst (SameEnd _) (ap (end_of F) e ∙ end_infinity F) same)) upper.number
    where
      number : {u : End} → Finite F r → SameEnd u (at (worth F r)) → EndOfFormat F u
      number f (same_number e) = format_number (record { pattern = r; is_finite = f; is = e })

      none : {u : End} → SameEnd u unbounded → EndOfFormat F u
      none same_none = format_infinite

  pub told_end : {u : End} {x : Bool} → UpperEnd F u r → Answers (EndOfFormat F u) x → UpperEndTold F u r x
  told_end up told = record { rounded = up; told = answers_iff (format_same up) (same_format up.upper) told }

  pub end_told : {u : End} {x : Bool} → UpperEndTold F u r x → Answers (EndOfFormat F u) x
  end_told h = answers_iff (same_format h.rounded.upper) (format_same h.rounded) h.told
