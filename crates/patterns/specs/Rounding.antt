-- Upward rounding, by document 01: "the least double, or +inf, that isn't below the exact value".
use Rattle.std.specs.Prelude.{Bool, true, false, ◌≡◌, ◌⊎◌, ℕ, ◌+◌, ◌*◌, ◌^◌, ◌<◌, ◌≤◌, ltb}
use Rattle.truth.specs.Answers.{Answers}
use Rattle.patterns.specs.Format.{Format, infinity, sign_bit}
use Rattle.patterns.specs.Value.{value, magnitude, plus, minus, Finite}

-- An exact value, (positive - negative) / over, in units of the format's smallest positive number.
pub record Exact : Type 0 where
  pub positive : ℕ
  pub negative : ℕ
  pub over : ℕ

-- The exact value is not above what the finite pattern b is worth.
pub record NotAbove (F : Format) (e : Exact) (b : ℕ) : Type 0 where
  pub le : e.positive + minus F b * e.over ≤ e.negative + plus F b * e.over

-- A pattern that an upper end may have: a finite number and not -0.0, or +inf.
pub record UpperPattern (F : Format) (r : ℕ) : Type 0 where
  pub number : Finite F r ⊎ (r ≡ infinity F)
  pub not_minus_zero : r ≡ sign_bit F → ⊥

-- The least pattern that is not below the exact value; +inf where no finite number is.
pub record Up (F : Format) (e : Exact) (r : ℕ) : Type 0 where
  pub upper : UpperPattern F r
  pub above : Finite F r → NotAbove F e r
  pub least : (c : ℕ) → Finite F c → NotAbove F e c → Finite F r × (plus F r + minus F c ≤ plus F c + minus F r)

-- The finite pattern b is worth the exact value itself.
pub record Equals (F : Format) (e : Exact) (b : ℕ) : Type 0 where
  pub finite : Finite F b
  pub eq : e.positive + minus F b * e.over ≡ e.negative + plus F b * e.over

-- Some finite pattern is.
pub record Reached (F : Format) (e : Exact) : Type 0 where
  pub pattern : ℕ
  pub equals : Equals F e pattern

-- Ticket 2: upward rounding that "also tells whether its result equals the exact one".
pub record UpTold (F : Format) (e : Exact) (r : ℕ) (exact : Bool) : Type 0 where
  pub up : Up F e r
  pub told : Answers (Equals F e r) exact

-- The exact sum of two finite patterns.
unfoldable pub sum_of : Format → ℕ → ℕ → Exact
sum_of F a b = record { positive = plus F a + plus F b; negative = minus F a + minus F b; over = 1 }

-- The exact product of two finite patterns.
unfoldable pub product_of : Format → ℕ → ℕ → Exact
product_of F a b = record {
  positive = plus F a * plus F b + minus F a * minus F b;
  negative = plus F a * minus F b + minus F a * plus F b;
  over = 2 ^ F.point;
}

abbrev pub divided : Bool → ℕ → ℕ → ℕ → Exact
divided true p n d = record { positive = p; negative = n; over = d }
divided false p n d = record { positive = n; negative = p; over = d }

-- The exact quotient of two finite patterns, the second not worth 0. A negative divisor changes the sign.
unfoldable pub quotient_of : Format → ℕ → ℕ → Exact
quotient_of F a b = divided (ltb b (sign_bit F)) (plus F a * 2 ^ F.point) (minus F a * 2 ^ F.point) (value F.frac (magnitude F b))

-- Rounding of magnitudes. The exact value is n / d.
-- `b` is the least magnitude pattern, up to +inf's, that is not below n / d.
pub record RoundsUp (F : Format) (n d b : ℕ) : Type 0 where
  pub within : b ≤ infinity F
  pub above : b < infinity F → n ≤ value F.frac b * d
  pub least : (c : ℕ) → c < b → value F.frac c * d < n

-- `b` is the greatest finite magnitude pattern that is not above n / d.
pub record RoundsDown (F : Format) (n d b : ℕ) : Type 0 where
  pub within : b < infinity F
  pub below : value F.frac b * d ≤ n
  pub greatest : (c : ℕ) → b < c → c < infinity F → n < value F.frac c * d

-- n / d is the worth of some finite magnitude pattern.
pub record Representable (F : Format) (n d : ℕ) : Type 0 where
  pub pattern : ℕ
  pub finite : pattern < infinity F
  pub eq : value F.frac pattern * d ≡ n
