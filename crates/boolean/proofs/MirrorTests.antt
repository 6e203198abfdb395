-- What is asked of mirrored ends is asked of what is below.
use mathlib.Core.Bool.{Bool}
use mathlib.Core.Path.{◌≡◌, ◌∙◌, ap, subst⁻¹, subst₂}
use Rattle.truth.specs.Answers.{Answers}
use Rattle.truth.proofs.AnswerLaws.{answers_iff}
use Rattle.patterns.specs.Format.{Format}
use Rattle.meaning.specs.Fraction.{Fraction}
use Rattle.meaning.specs.Sets.{Set}
use Rattle.meaning.specs.Pairs.{Pair, Bare, set_of}
use Rattle.meaning.specs.Comparisons.{EachSome}
use Rattle.end_pairs.specs.Mirror.{mirror_pair}
use Rattle.end_pairs.proofs.MirrorLaws.{mirror_bare, mirror_set}
use Rattle.comparison_laws.specs.Ends.{Ascending}
use Rattle.comparison_laws.proofs.MemberSets.{from_mirror, to_mirror}

pub mirror_bares : (F : Format) {x y p q : Pair} → Bare F x × Bare F y → p ≡ mirror_pair F x → q ≡ mirror_pair F y → Bare F p × Bare F q
mirror_bares F {x} {y} bares isX isY = (subst⁻¹ (Bare F) isX (mirror_bare F x bares.0), subst⁻¹ (Bare F) isY (mirror_bare F y bares.1))

pub answers_below : (F : Format) {R : Fraction → Fraction → Type 0} → Ascending R → {x y p q : Pair} → Bare F x × Bare F y → p ≡ mirror_pair F x → q ≡ mirror_pair F y
    → {t : Bool} → Answers (EachSome R (set_of F p) (set_of F q)) t → Answers (EachSome (λ a b. R b a) (set_of F x) (set_of F y)) t
answers_below F {R} order {x} {y} bares isX isY {t} a =
    answers_iff (from_mirror order (set_of F x) (set_of F y)) (to_mirror order (set_of F x) (set_of F y))
    (subst₂ (λ (X Y : Set). Answers (EachSome R X Y) t) (ap (set_of F) isX ∙ mirror_set F x bares.0) (ap (set_of F) isY ∙ mirror_set F y bares.1) a)
