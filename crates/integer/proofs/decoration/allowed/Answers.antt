-- `decoration::allowed` meets its contract: each test picks its case.
use Rattle.patterns.specs.Format.{binary64}
use Rattle.meaning.specs.Decorations.{of_empty, of_many, of_jump, of_point}
use Rattle.meaning.proofs.PairLaws.{set_empty}
use Rattle.truth.proofs.AnswerLaws.{said_yes, said_no}
use Rattle.wholes.specs.Made.{operation}
use Rattle.integer.proofs.JumpLaws.{allows, operand_proper, result_proper, proper_some}
use Rattle.integer.proofs.decoration.allowed.Goals as goal

pub returns-then-is_empty_pair : goal.returns-then-is_empty_pair
returns-then-is_empty_pair c =
    let a = c.args in
    allows a.f _ _ (of_empty (set_empty binary64 _ (said_yes c.is_empty_pair.ensures c.if-is_empty_pair.true)))

pub returns-then-not-is_point : goal.returns-then-not-is_point
returns-then-not-is_point c =
    let a = c.args in
    let (b, h) = c.requires in
    let n = said_no c.is_empty_pair.ensures c.if-is_empty_pair.false in
    allows a.f _ _
    (of_many (proper_some binary64 (result_proper binary64 (operation a.f) b h n)) (said_no c.is_point.ensures c.if-not-is_point.true))

pub jumps-requires : goal.jumps-requires
jumps-requires c =
    let a = c.args in
    let (b, h) = c.requires in
    let n = said_no c.is_empty_pair.ensures c.if-is_empty_pair.false in
    (operand_proper binary64 (operation a.f) b h n, result_proper binary64 (operation a.f) b h n)

pub returns-then-jumps : goal.returns-then-jumps
returns-then-jumps c =
    allows c.args.f _ _
    (of_jump (said_yes c.is_point.ensures c.if-not-is_point.false) (said_yes c.jumps.ensures c.if-jumps.true))

pub returns : goal.returns
returns c =
    allows c.args.f _ _
    (of_point (said_yes c.is_point.ensures c.if-not-is_point.false) (said_no c.jumps.ensures c.if-jumps.false))
