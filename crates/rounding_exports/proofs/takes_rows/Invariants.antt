-- What holds at each turn: the answer is right for the rows before k.
use Prim.Native.Nat.{ℕ, ◌<◌}
use lib.ListN.{get_or}
use Rattle.truth.specs.Answers.{Answers}
use Rattle.rounding_runs.specs.Operations.{Takes}
use Rattle.rounding_exports.proofs.takes_rows.Given as goal

abbrev pub invariant-loop-k : goal.invariant-loop-k
invariant-loop-k l = Answers ((j : ℕ) → j < l.k → Takes l.o (get_or l.a j 0) (get_or l.b j 0)) l.all
