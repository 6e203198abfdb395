-- The flags of a hull, by its results' true bounds.
use mathlib.Core.Bool.{Bool, true}
use mathlib.Core.Path.{subst}
use Rattle.truth.specs.Answers.{Answers}
use Rattle.patterns.specs.Format.{Format}
use Rattle.meaning.specs.Fraction.{Fraction}
use Rattle.meaning.specs.Sets.{End}
use Rattle.meaning.specs.Pairs.{Pair, empty_pair}
use Rattle.meaning.specs.Hull.{EndOfFormat}
use Rattle.meaning.specs.Statement.{HullOf}
use Rattle.meaning.specs.Exactness.{ExactHullOf}
use Rattle.meaning.proofs.PatternHull.{pair_by, hull_of_none}
use Rattle.meaning.proofs.Unique.{hull_once}
use Rattle.meaning.proofs.ExactEnds.{told_end}
use Rattle.meaning.proofs.ExactLaws.{exact_of_ends, exact_of_none}
use Rattle.theorem3.specs.Answer.{nothing, between, TrueBounds, no_results, some_results}
use Rattle.theorem3.proofs.Rounding.{rounded}

-- The flags of any hull, by whether the true bounds are ends of the format.
pub exact_between : (F : Format) {R : Fraction → Type 0} {l u : End} {s t : Bool} {z : Pair} → TrueBounds R (between l u)
    → Answers (EndOfFormat F l) s → Answers (EndOfFormat F u) t → HullOf F R z → ExactHullOf F R (record { pair = z; lower_exact = s; upper_exact = t })
exact_between F {R} {l} {u} {s} {t} {z} (some_results r m top bottom) down up hull =
    let exact = exact_of_ends F R top bottom (told_end F (rounded F u).1 up) (told_end F (rounded F l).1 down) r m in
    subst (λ (p : Pair). ExactHullOf F R (record { pair = p; lower_exact = s; upper_exact = t })) (hull_once F R (pair_by F (rounded F l).0 (rounded F u).0) z exact.answer hull) exact

pub exact_nothing : (F : Format) {R : Fraction → Type 0} {z : Pair} → TrueBounds R nothing → HullOf F R z
    → ExactHullOf F R (record { pair = z; lower_exact = true; upper_exact = true })
exact_nothing F {R} {z} (no_results none) hull =
    subst (λ (p : Pair). ExactHullOf F R (record { pair = p; lower_exact = true; upper_exact = true })) (hull_once F R (empty_pair F) z (hull_of_none F R none) hull)
    (exact_of_none F R (hull_of_none F R none))
