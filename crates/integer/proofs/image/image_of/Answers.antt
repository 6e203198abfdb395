-- `image::image_of` meets its contract: the ends of a rising function's results are what it makes of the ends.
use mathlib.Core.Path.{subst⁻¹}
use Rattle.patterns.specs.Format.{binary64, infinity, sign_bit}
use Rattle.meaning.specs.Pairs.{minus_infinity}
use Rattle.truth.proofs.AnswerLaws.{said_yes, said_no}
use Rattle.end_pairs.proofs.EmptyLaws.{not_empty_lem, empty_hull₁}
use Rattle.end_pairs.proofs.MirrorLaws.{mirror_proper}
use Rattle.wholes.specs.Made.{operation}
use Rattle.integer.specs.Rising.{Upper}
use Rattle.integer.proofs.RisingLaws.{image_hull}
use Rattle.integer.proofs.image.image_of.Goals as goal

pub returns-then-is_empty_pair : goal.returns-then-is_empty_pair
unfolding infinity minus_infinity sign_bit
returns-then-is_empty_pair c = empty_hull₁ binary64 (operation c.args.f) _ (said_yes c.is_empty_pair.ensures c.if-is_empty_pair.true)

pub upper_end-requires : goal.upper_end-requires
upper_end-requires c =
    let h = not_empty_lem binary64 c.requires (said_no c.is_empty_pair.ensures c.if-is_empty_pair.false) in
    subst⁻¹ (Upper binary64) c.opposite.ensures (mirror_proper binary64 _ h).upper_end

pub returns : goal.returns
returns c =
    let h = not_empty_lem binary64 c.requires (said_no c.is_empty_pair.ensures c.if-is_empty_pair.false) in
    image_hull binary64 c.mirrored.ensures h
    c.opposite.ensures c.upper_end.ensures c.upper_end-2.ensures
    c.outward.ensures
