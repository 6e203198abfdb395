-- What holds at each turn: the rows before k have their answers.
use mathlib.Core.Path.{◌≡◌}
use Prim.Native.Nat.{ℕ, ◌<◌}
use lib.ListN.{length, get_or}
use Rattle.patterns.specs.Format.{binary64}
use Rattle.patterns.specs.Rounding.{Up}
use Rattle.rounding_runs.specs.Operations.{exact_of}
use Rattle.rounding_exports.proofs.fill.Given as goal

abbrev pub invariant-loop-k : goal.invariant-loop-k
invariant-loop-k l =
    (length l.out ≡ length l.a) × ((j : ℕ) → j < l.k → Up binary64 (exact_of l.o (get_or l.a j 0) (get_or l.b j 0)) (get_or l.out j 0))
