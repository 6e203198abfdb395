-- `read` of bare intervals meets its contract: the ends that were read are answered if they are canonical.
use mathlib.Core.Path.{◌∙◌, subst, subst⁻¹}
use lib.Dec.{lit≤}
use Rattle.patterns.specs.Format.{binary64}
use Rattle.meaning.specs.Pairs.{Canonical}
use Rattle.meaning.specs.Statement.{first₁, right₁}
use Rattle.meaning.specs.Bytes.{bytes_five, bytes_good}
use Rattle.truth.proofs.AnswerLaws.{said_yes, said_no}
use Rattle.ends_in_bytes.specs.ByteOrderMeaning.{order_of}
use Rattle.lent_intervals.proofs.SliceLaws.{read_part}
use Rattle.lent_intervals.proofs.in_bytes.IntervalInBytes.read.Goals as goal

pub returns-then-not-is_canonical : goal.returns-then-not-is_canonical
returns-then-not-is_canonical c =
    let a = c.args in
    let read = read_part (order_of a.order) 8 a.start a.s.now (lit≤ tt) c.requires c.read_ends-ends.ensures in
    first₁ (bytes_five (λ p. said_no c.is_canonical.ensures c.if-not-is_canonical.true (subst⁻¹ (Canonical binary64) read p)))

pub returns : goal.returns
returns c =
    let a = c.args in
    let read = read_part (order_of a.order) 8 a.start a.s.now (lit≤ tt) c.requires c.read_ends-ends.ensures in
    right₁ (bytes_good (subst (Canonical binary64) read (said_yes c.is_canonical.ensures c.if-not-is_canonical.false)))
    (c.from_ends.ensures ∙ read)
