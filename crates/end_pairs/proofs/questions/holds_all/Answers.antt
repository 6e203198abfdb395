-- `questions::holds_all` meets its contract: both ends are compared.
use Rattle.patterns.specs.Format.{binary64, infinity, sign_bit}
use Rattle.meaning.specs.Pairs.{minus_infinity}
use Rattle.truth.proofs.AnswerLaws.{answers_iff}
use Rattle.end_pairs.proofs.Shapes.{shape, all_when, all_only}
use Rattle.end_pairs.proofs.TestLaws.{answers_both}
use Rattle.end_pairs.proofs.questions.holds_all.Goals as goal

pub returns : goal.returns
unfolding infinity sign_bit minus_infinity
returns c =
    let s = shape binary64 _ c.requires in
    rw c.eq.ensures (answers_iff (λ e. all_when binary64 s e.0 e.1) (all_only binary64 s) (answers_both c.args.x.a c.args.x.b _ _))
