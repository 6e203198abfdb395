-- Sums, products and quotients of ends. Each is an upper end, so an unbounded result has no upper bound.
use Rattle.std.specs.Prelude.{Bool, true, false, ℕ, suc, ◌+◌, ◌-◌, ◌*◌, leb}
use Rattle.std.proofs.Common.{zero-lt-suc}
use Rattle.meaning.specs.Fraction.{Fraction, ◌⊕◌, ◌⊗◌, whole}
use Rattle.meaning.specs.Sets.{End, at, unbounded}

-- The fraction n / (m + 1), or its negative.
abbrev pub signed_over : Bool → ℕ → ℕ → Fraction
signed_over true n m = record { up = n; down = 0; over = suc m; positive = zero-lt-suc m }
signed_over false n m = record { up = 0; down = n; over = suc m; positive = zero-lt-suc m }

-- 1 / y for y not 0. What it is at 0 is never asked.
unfoldable pub reciprocal : Fraction → Fraction
reciprocal y = signed_over (leb y.down y.up) y.over ((y.up - y.down) + (y.down - y.up) - 1)

-- 1 / y for an end that is not 0. There is nothing beyond an infinite end, and its reciprocals come down to 0.
abbrev pub recip_end : End → End
recip_end (at y) = at (reciprocal y)
recip_end unbounded = at (whole 0)

abbrev pub sum_end : End → End → End
sum_end (at x) (at y) = at (x ⊕ y)
sum_end (at x) unbounded = unbounded
sum_end unbounded y = unbounded

-- A product of two ends that are both positive or both negative where either is infinite.
abbrev pub product_end : End → End → End
product_end (at x) (at y) = at (x ⊗ y)
product_end (at x) unbounded = unbounded
product_end unbounded y = unbounded

-- A quotient by an end that is not 0. An infinite divisor gives 0.
abbrev pub quotient_end : End → End → End
quotient_end (at x) (at y) = at (x ⊗ reciprocal y)
quotient_end (at x) unbounded = at (whole 0)
quotient_end unbounded y = unbounded

abbrev pub pick_fraction : Bool → Fraction → Fraction → Fraction
pick_fraction true x y = x
pick_fraction false x y = y

-- The greater of two fractions.
unfoldable pub greater : Fraction → Fraction → Fraction
greater x y = pick_fraction (leb (x.up * y.over + y.down * x.over) (y.up * x.over + x.down * y.over)) y x

-- The greater of two upper ends.
abbrev pub greater_end : End → End → End
greater_end (at x) (at y) = at (greater x y)
greater_end (at x) unbounded = unbounded
greater_end unbounded y = unbounded
