-- `packing::format::Format::unpack` meets its contract: below the exponent field stands the fraction.
use mathlib.Core.Path.{◌≡◌, sym, ◌∙◌, ap, subst}
use Prim.Native.Nat.{ℕ, ◌+◌, ◌*◌, ◌-◌, ◌/◌, ◌%◌, ◌^◌, ◌<◌, ◌≤◌}
use native.Mathlib.Omega.{arith}
use lib.Pow.{split}
use Rattle.packing.specs.Magnitude.{Unpacks}
use Rattle.packing.proofs.UnpackLaws.{unpacks_subnormal, unpacks_normal}
use Rattle.packing.proofs.WordLaws.{field_shifts, one_shifts}
use Rattle.packing.proofs.format.Format.unpack.Goals as goal

module _ (frac b : ℕ) (narrow : frac ≤ 52) (coded : b / 2 ^ frac < 2 ^ 11) where
  -- The pattern with nothing but its exponent field, as the machine shifts it, and what is left.
  abbrev coarse : ℕ
  coarse = (b / 2 ^ frac * 2 ^ frac) % 2 ^ 64

  shifts : coarse ≡ b / 2 ^ frac * 2 ^ frac
  shifts = field_shifts narrow coded

  within : coarse ≤ b
  within = omega (arith, shifts, split b frac)

  subnormal : b / 2 ^ frac ≡ 0 → Unpacks frac b (b - coarse) 0
  subnormal none =
      let high : b / 2 ^ frac * 2 ^ frac ≡ 0 = ap (λ (e : ℕ). e * 2 ^ frac) none ∙ omega arith in
      subst (λ (m : ℕ). Unpacks frac b m 0) (omega (arith, shifts)) (unpacks_subnormal frac b none)

  normal : (b / 2 ^ frac ≡ 0 → ⊥) → Unpacks frac b ((1 * 2 ^ frac) % 2 ^ 64 + (b - coarse)) (b / 2 ^ frac - 1)
  normal some =
      subst (λ (k : ℕ). Unpacks frac b (k + (b - coarse)) (b / 2 ^ frac - 1)) (sym (one_shifts narrow))
      (unpacks_normal frac b (b - coarse) (b / 2 ^ frac - 1) (omega arith) (omega (arith, shifts, within)))

pub returns-then-field-eq0 : goal.returns-then-field-eq0
returns-then-field-eq0 c = subnormal c.args.self.frac c.args.b c.args.self.narrow c.requires c.if-field-eq0.true

pub returns : goal.returns
returns c = normal c.args.self.frac c.args.b c.args.self.narrow c.requires c.if-field-eq0.false
