-- `packing::format::Format::pattern` meets its contract: neither the shift nor the sum wraps.
use mathlib.Core.Path.{ap}
use Prim.Native.Nat.{ℕ, ◌+◌}
use native.Mathlib.Nat.{lt_trans}
use native.Mathlib.Omega.{arith}
use Rattle.packing.proofs.WordLaws.{field_shifts, field_below, significand_below}
use Rattle.packing.proofs.format.Format.pattern.Goals as goal

pub overflow_add-result : goal.overflow_add-result
overflow_add-result c =
    let narrow = c.args.self.narrow in
    let coded = lt_trans c.requires.0 c.args.self.coded in
    record { fits = omega (arith, field_shifts narrow coded, field_below narrow coded, significand_below narrow c.requires.1) }

pub returns : goal.returns
returns c = ap (λ (k : ℕ). k + c.args.significand) (field_shifts c.args.self.narrow (lt_trans c.requires.0 c.args.self.coded))
