-- `zeros::with_zero` meets its contract: each branch is one case of the choice.
use borrow.Author.Tests.{eq-eqb, ne_eqb}
use Rattle.end_pairs.proofs.zeros.with_zero.Goals as goal

pub returns-then-b-opposite : goal.returns-then-b-opposite
returns-then-b-opposite c =
    rw (← c.opposite.ensures) (simp (eq-eqb _ _ c.if-b-opposite.true))

pub returns-else-b-opposite : goal.returns-else-b-opposite
returns-else-b-opposite c =
    rw (← c.opposite.ensures) (simp (ne_eqb _ _ c.if-b-opposite.false))
