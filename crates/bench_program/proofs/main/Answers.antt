-- `main` meets its contract: where the run goes on, what a turn needs holds again, and fewer bytes are left to take.
use native.Mathlib.Omega.{arith}
use Rattle.bench_program.proofs.main.Goals as goal

pub loop-next-smaller : goal.loop-next-smaller
loop-next-smaller c =
    let on = c.in-Ok-Continue in
    let onward = on.ensures on.next on.field-0-is in onward.falls

pub loop-next-preserved : goal.loop-next-preserved
loop-next-preserved c =
    let on = c.in-Ok-Continue in
    let onward = on.ensures on.next on.field-0-is in
    record {
      few = onward.few;
      short = onward.short;
      full = onward.full;
      input_room = omega arith;
      output_room = omega arith;
    }
