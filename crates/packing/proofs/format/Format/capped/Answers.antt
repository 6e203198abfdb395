-- `packing::format::Format::capped` meets its contract: an exponent as great as infinity's field is too great.
use Prim.Native.Nat.{◌^◌}
use native.Mathlib.Nat.{mul-le-mul_right}
use native.Mathlib.Omega.{arith}
use Rattle.packing.proofs.format.Format.capped.Goals as goal

pub returns-then-self-exponent : goal.returns-then-self-exponent
returns-then-self-exponent c = omega (arith, mul-le-mul_right (2 ^ c.args.self.frac) c.if-self-exponent.true)
