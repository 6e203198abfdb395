-- The ends of a negation are those of the operand, exchanged and negated, and so are exact.
use mathlib.Core.Bool.{true}
use Rattle.truth.specs.Answers.{affirmed}
use Rattle.patterns.specs.Format.{Format}
use Rattle.meaning.specs.Sets.{End, Set, empty, span, mirror_end}
use Rattle.meaning.specs.Pairs.{Pair, Bare, set_of}
use Rattle.meaning.specs.Points.{neg}
use Rattle.meaning.specs.Results.{Result₁}
use Rattle.meaning.specs.Hull.{EndOfFormat, format_number, format_infinite, SetOfFormat, format_empty, format_span}
use Rattle.meaning.specs.Statement.{HullOf}
use Rattle.meaning.specs.Exactness.{ExactHullOf}
use Rattle.meaning.proofs.HullLaws.{negated_of_format}
use Rattle.meaning.proofs.PairLaws.{set_valid}
use Rattle.theorem3.specs.Answer.{TrueBounds, bounds_of_neg}
use Rattle.theorem3.proofs.TrueBounds.{neg_bounds_right}
use Rattle.theorem3.proofs.ExactBounds.{exact_between, exact_nothing}
use Rattle.end_pairs.proofs.ExactHull.{set_of_format}

mirrored_format : (F : Format) {e : End} → EndOfFormat F e → EndOfFormat F (mirror_end e)
mirrored_format F (format_number q) = format_number (negated_of_format F q)
mirrored_format F format_infinite = format_infinite

on_sets : (F : Format) {z : Pair} (X : Set) → SetOfFormat F X → TrueBounds (Result₁ neg X) (bounds_of_neg X) → HullOf F (Result₁ neg X) z
    → ExactHullOf F (Result₁ neg X) (record { pair = z; lower_exact = true; upper_exact = true })
on_sets F empty format_empty bounds hull = exact_nothing F bounds hull
on_sets F (span a b) (format_span l u) bounds hull = exact_between F bounds (affirmed u) (affirmed (mirrored_format F l)) hull

pub negation_exact : (F : Format) (x : Pair) {z : Pair} → Bare F x → HullOf F (Result₁ neg (set_of F x)) z
    → ExactHullOf F (Result₁ neg (set_of F x)) (record { pair = z; lower_exact = true; upper_exact = true })
negation_exact F x h hull = on_sets F (set_of F x) (set_of_format F x h) (neg_bounds_right (set_valid F x h)) hull
