-- `answer_some` meets its contract: only what the turn left is written, and where the run goes on, a byte was taken and what was held
-- stayed as it was.
use Prim.Native.Nat.{◌≤◌}
use native.Mathlib.Omega.{arith}
use lib.ListN.{length}
use Rattle.std.proofs.lemmas.Slice.{take-put_mid_below}
use Rattle.bench_program.proofs.OnwardLaws.{onward, written_fits, left_by_turn}
use Rattle.bench_program.proofs.answer_some.Goals as goal

pub slice_bounds-write_left-end : goal.slice_bounds-write_left-end
slice_bounds-write_left-end c = omega (arith, written_fits c.turn-end.ensures)

pub write_left-requires : goal.write_left-requires
write_left-requires c = left_by_turn c.turn-end.ensures

pub returns : goal.returns
returns c =
    let args = c.args in
    let within : args.run.held ≤ length args.input.now = omega arith in
    λ next goes.
    onward c.turn-end.ensures (take-put_mid_below args.run.held _ args.input.now _ args.run.held (omega arith) within) (omega arith) (omega arith) goes
