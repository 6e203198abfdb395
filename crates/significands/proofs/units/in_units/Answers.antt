-- `significands::units::in_units` meets its contract, by the sign of the exponent.
use mathlib.Core.Path.{◌≡◌}
use Prim.Native.Nat.{◌+◌, ◌*◌, ◌^◌}
use native.Mathlib.Omega.{arith}
use Rattle.std.proofs.lemmas.Grind.{common_steps}
use Rattle.significands.proofs.Proportion.{moved, unmoved}
use Rattle.significands.proofs.units.in_units.Goals as goal

pub returns-then-exponent-lt0-clause-brackets : goal.returns-then-exponent-lt0-clause-brackets
returns-then-exponent-lt0-clause-brackets c n d h l some is b =
    let size = c.unsigned_abs-size.result in
    let apart : l + 0 ≡ size + h = grind (arith, common_steps, is) in
    unmoved n (moved n c.cut-c.result.exponent size 0 0 some (omega (arith, c.cut-c.ensures.cuts.1)) (c.cut-c.ensures.brackets (n * 2 ^ size) d some (moved n h l 0 size some apart b)))

pub returns-clause-brackets : goal.returns-clause-brackets
returns-clause-brackets c n d h l some is b =
    let size = c.unsigned_abs-size.result in
    let apart : l + size ≡ 0 + h = grind (arith, common_steps, is) in
    unmoved n (moved n h l size 0 some apart b)
