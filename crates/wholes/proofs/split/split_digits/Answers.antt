-- `split::split_digits` meets its contract: the significand is cut at the digit that is worth 1.
use mathlib.Core.Path.{◌≡◌, ◌∙◌}
use Prim.Native.Nat.{ℕ, ◌-◌, ◌*◌, ◌/◌, ◌%◌, ◌^◌}
use native.Mathlib.Omega.{arith}
use lib.Pow.{shl_exact}
use Rattle.std.proofs.lemmas.Cmp.{ranked}
use Rattle.patterns.specs.Format.{binary64}
use Rattle.wholes.specs.Enclosure.{HasDigits}
use Rattle.wholes.proofs.SplitLaws.{unit_inside, digits_whole, digits_between}
use Rattle.wholes.proofs.split.split_digits.Goals as goal

module _ {b : ℕ} (d : HasDigits binary64 b) where
  -- The unit as the shift makes it.
  unit : ℕ
  unit = (1 * 2 ^ (1075 - b / 2 ^ 52)) % 2 ^ 64

  unit-is : unit ≡ 2 ^ (1075 - b / 2 ^ 52)
  unfolding unit
  unit-is = shl_exact {a = 1} 1 (1075 - b / 2 ^ 52) 64 (omega arith) (omega (arith, unit_inside binary64 d)) ∙ omega arith

pub returns-then-rest-eq0 : goal.returns-then-rest-eq0
unfolding unit
returns-then-rest-eq0 c = digits_whole binary64 c.requires (unit-is c.requires) c.if-rest-eq0.true

pub returns : goal.returns
unfolding unit
returns c =
    let d = c.requires in
    digits_between binary64 d (unit-is d) _ c.if-rest-eq0.false (ranked _ _ _ c.cmp.ensures)
