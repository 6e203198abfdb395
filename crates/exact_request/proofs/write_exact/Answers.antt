-- `write_exact` meets its contract: the ends are written first, and the two flags behind them.
use mathlib.Core.Path.{◌∙◌, ap₂}
use mathlib.Core.List.{[], ◌∷◌, ◌++◌}
use Prim.Native.Nat.{ℕ}
use lib.ListN.{length-set}
use Rattle.std.proofs.Common.{rules}
use Rattle.meaning.specs.Bytes.{big_endian, write_pair}
use Rattle.exact_operations.specs.ExactIntervals.{exact_pair_of}
use Rattle.ends_in_bytes.proofs.EightByteLaws.{length_pair}
use Rattle.exact_request.proofs.FlagByteLaws.{room_for_two, last_two_bytes}
use Rattle.exact_request.proofs.write_exact.Goals as goal

pub bounds-output-17 : goal.bounds-output-17
bounds-output-17 c =
    let z = exact_pair_of c.args.z in
    simp length-set (room_for_two 16 (write_pair big_endian z.pair) c.args.output.now (length_pair big_endian z.pair) c.requires c.write_ends.ensures)

pub returns : goal.returns
returns c =
    let z = exact_pair_of c.args.z in
    last_two_bytes 16 (write_pair big_endian z.pair) c.args.output.now c.from.result c.from-2.result
    (length_pair big_endian z.pair) c.requires c.write_ends.ensures
    ∙ ap₂ (λ (s t : ℕ). write_pair big_endian z.pair ++ s ∷ t ∷ []) (search rules) (search rules)
