-- `exact::greater_is_exact` meets its contract: the greater pattern is the greater end's, and on a tie an exact end is the greater.
use mathlib.Core.Logic.{⊎_elim}
use mathlib.Core.Path.{sym}
use Rattle.patterns.specs.Format.{binary64}
use Rattle.meaning.proofs.FractionLaws.{le_or_le}
use Rattle.meaning.proofs.ExactEnds.{told_end, end_told}
use Rattle.truth.proofs.AnswerLaws.{said_yes, said_no}
use Rattle.arith_ends.proofs.GreaterLaws.{greater_of, exchanged, greatest, tied_inexact, tied_exact}
use Rattle.arith_ends.proofs.exact.greater_is_exact.Goals as goal

pub returns-then-first : goal.returns-then-first
returns-then-first c =
    let first = told_end binary64 c.product_end-lowers.ensures c.product_is_exact-first.ensures in
    let second = told_end binary64 c.product_end-uppers.ensures c.product_is_exact-second.ensures in
    end_told binary64 (tied_exact binary64 first second (greater_of _ _) c.if-lowers-uppers.true c.if-first.true)

pub returns-else-first : goal.returns-else-first
returns-else-first c =
    let first = told_end binary64 c.product_end-lowers.ensures c.product_is_exact-first.ensures in
    let second = told_end binary64 c.product_end-uppers.ensures c.product_is_exact-second.ensures in
    end_told binary64 (tied_inexact binary64 first second (greater_of _ _) c.if-lowers-uppers.true c.if-first.false)

pub returns-then-less_or_equal : goal.returns-then-less_or_equal
returns-then-less_or_equal c =
    let first = told_end binary64 c.product_end-lowers.ensures c.product_is_exact-first.ensures in
    let second = told_end binary64 c.product_end-uppers.ensures c.product_is_exact-second.ensures in
    end_told binary64 (greatest binary64 first second (greater_of _ _) (said_yes c.less_or_equal.ensures c.if-less_or_equal.true) c.if-lowers-uppers.false)

pub returns-else-less_or_equal : goal.returns-else-less_or_equal
returns-else-less_or_equal c =
    let first = told_end binary64 c.product_end-lowers.ensures c.product_is_exact-first.ensures in
    let second = told_end binary64 c.product_end-uppers.ensures c.product_is_exact-second.ensures in
    end_told binary64
    (greatest binary64 second first (exchanged (greater_of _ _))
    (⊎_elim (λ h. absurd (said_no c.less_or_equal.ensures c.if-less_or_equal.false h)) (λ h. h) (le_or_le _ _)) (λ e. c.if-lowers-uppers.false (sym e)))
