-- What holds at each turn: the cases before this one are counted.
use Rattle.std.proofs.Common.{◌*◌}
use Rattle.rounding_runs.specs.Cases.{Counted, RightCase, WrongCase}
use Rattle.rounding_runs.proofs.cases.count.Given as goal

abbrev pub invariant-loop-case : goal.invariant-loop-case
invariant-loop-case l =
    Counted (λ k. RightCase l.fn.s l.o (k * 25)) l.case-index l.right × Counted (λ k. WrongCase l.fn.s l.o (k * 25)) l.case-index l.wrong
