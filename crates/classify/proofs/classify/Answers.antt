-- `classify::classify` meets its contract: the comparisons of the keys of the ends are the signs of their values.
use native.Mathlib.Omega.{arith}
use Rattle.patterns.specs.Format.{binary64, sign_bit}
use Rattle.truth.proofs.AnswerLaws.{said_yes, said_no}
use Rattle.end_pairs.proofs.Shapes.{shape, answers_nothing}
use Rattle.classify.proofs.ClassLaws.{class_empty, class_p1_lem, class_n1_lem, class_n0_lem, class_m_lem, class_z_lem, class_p0_lem}
use Rattle.classify.proofs.CompareLaws.{less_so, equal_so, greater_so}
use Rattle.classify.proofs.classify.Goals as goal

pub returns-then-is_empty_pair : goal.returns-then-is_empty_pair
returns-then-is_empty_pair c = class_empty (said_yes (answers_nothing binary64 _ c.requires c.is_empty_pair.ensures) c.if-is_empty_pair.true)

pub returns-in-Greater-default : goal.returns-in-Greater-default
unfolding sign_bit
returns-in-Greater-default c =
    let a = greater_so c.key.result _ c.in-Greater-default.ensures in
    class_p1_lem binary64 (said_no c.is_empty_pair.ensures c.if-is_empty_pair.false) (shape binary64 _ c.requires) (omega (arith, c.key.ensures))

pub returns-in-Less-Equal : goal.returns-in-Less-Equal
unfolding sign_bit
returns-in-Less-Equal c =
    let a = less_so c.key.result _ c.in-Less-Equal.ensures in
    let b = equal_so c.key-2.result _ c.in-Less-Equal.ensures' in
    class_n0_lem binary64 (said_no c.is_empty_pair.ensures c.if-is_empty_pair.false) (shape binary64 _ c.requires) (omega (arith, c.key.ensures)) (omega (arith, c.key-2.ensures))

pub returns-in-Less-Greater : goal.returns-in-Less-Greater
unfolding sign_bit
returns-in-Less-Greater c =
    let a = less_so c.key.result _ c.in-Less-Greater.ensures in
    let b = greater_so c.key-2.result _ c.in-Less-Greater.ensures' in
    class_m_lem binary64 (said_no c.is_empty_pair.ensures c.if-is_empty_pair.false) (shape binary64 _ c.requires) (omega (arith, c.key.ensures)) (omega (arith, c.key-2.ensures))

pub returns-in-Equal-Equal : goal.returns-in-Equal-Equal
unfolding sign_bit
returns-in-Equal-Equal c =
    let a = equal_so c.key.result _ c.in-Equal-Equal.ensures in
    let b = equal_so c.key-2.result _ c.in-Equal-Equal.ensures' in
    class_z_lem binary64 (said_no c.is_empty_pair.ensures c.if-is_empty_pair.false) (shape binary64 _ c.requires) (omega (arith, c.key.ensures)) (omega (arith, c.key-2.ensures))

pub returns-in-Equal-Greater : goal.returns-in-Equal-Greater
unfolding sign_bit
returns-in-Equal-Greater c =
    let a = equal_so c.key.result _ c.in-Equal-Greater.ensures in
    let b = greater_so c.key-2.result _ c.in-Equal-Greater.ensures' in
    class_p0_lem binary64 (said_no c.is_empty_pair.ensures c.if-is_empty_pair.false) (shape binary64 _ c.requires) (omega (arith, c.key.ensures)) (omega (arith, c.key-2.ensures))

pub returns-in-Less-Less : goal.returns-in-Less-Less
unfolding sign_bit
returns-in-Less-Less c =
    let b = less_so c.key-2.result _ c.in-Less-Less.ensures' in
    class_n1_lem binary64 (said_no c.is_empty_pair.ensures c.if-is_empty_pair.false) (shape binary64 _ c.requires) (omega (arith, c.key-2.ensures))

pub returns-in-Equal-Less : goal.returns-in-Equal-Less
unfolding sign_bit
returns-in-Equal-Less c =
    let b = less_so c.key-2.result _ c.in-Equal-Less.ensures' in
    class_n1_lem binary64 (said_no c.is_empty_pair.ensures c.if-is_empty_pair.false) (shape binary64 _ c.requires) (omega (arith, c.key-2.ensures))
