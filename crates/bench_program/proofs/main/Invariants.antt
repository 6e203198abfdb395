-- What holds at each turn of `main`, and what falls: the bytes that are left to take.
use Rattle.bench_program.specs.Runs.{Ready, bytes_left}
use Rattle.bench_program.proofs.main.Given as goal

abbrev pub invariant-loop-next : goal.invariant-loop-next
invariant-loop-next l = Ready l.run.held l.run.answered l.input l.output

abbrev pub decreases-loop-next : goal.decreases-loop-next
decreases-loop-next l = bytes_left l.run.held l.run.answered
