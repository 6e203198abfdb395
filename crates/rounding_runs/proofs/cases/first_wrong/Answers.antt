-- `rounding_runs::cases::first_wrong` meets its contract: the place is that of the first of the cases by themselves that is not right.
use borrow.Author.Rules.{rules}
use Rattle.std.proofs.lemmas.Iterator.{IsFirst-from_position, YieldsList-from_slice}
use Rattle.rounding_runs.proofs.FirstLaws.{IsRight, IsWrong, first_found, turned_true, turned_false}
use Rattle.rounding_runs.proofs.cases.first_wrong.Goals as goal

pub returns : goal.returns
returns c =
    let s = c.args.s.now in
    let cases = c.as_chunks.result.0.now in
    let found =
    IsFirst-from_position _ _ c.position.result IsWrong IsRight c.position.ensures.ran (YieldsList-from_slice cases cc)
    (λ x q k. turned_true (search rules))
    (λ x q k. (search rules, turned_false (search rules))) in
    rw c.unwrap_or.ensures (first_found s cases c.as_chunks.ensures.front c.position.result c.as_chunks.ensures.front_len found)
