-- `packing::format::Format::normalised` meets its contract: the significand is shifted as far as the exponent is lowered.
use mathlib.Core.Path.{sym, subst}
use Prim.Native.Nat.{ℕ, ◌-◌}
use borrow.Author.Rules.{rules}
use Rattle.packing.specs.Magnitude.{Normalised}
use Rattle.packing.proofs.NormalLaws.{stays}
use Rattle.packing.proofs.format.Format.normalised.Goals as goal

pub returns : goal.returns
returns c =
    let start = c.args in
    let raised = c.distance-shift.ensures in
    subst (λ (m : ℕ). Normalised start.self.frac start.u.significand start.u.exponent m (start.u.exponent - c.distance-shift.result)) (sym (stays c.args.self.narrow (search rules) raised))
    raised.normalised
