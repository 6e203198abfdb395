-- Pairs of bit patterns as intervals: which pairs are valid, and the set that each stands for.
use Rattle.std.specs.Prelude.{Bool, true, false, ◌≡◌, ◌⊎◌, ℕ, ◌+◌, ◌*◌, ◌^◌, ◌<◌, eqb, ltb}
use Rattle.std.proofs.Common.{pow_pos}
use Rattle.patterns.specs.Format.{Format, infinity, sign_bit, quiet_nan}
use Rattle.patterns.specs.Value.{Finite, magnitude, plus, minus}
use Rattle.meaning.specs.Fraction.{Fraction, ◌≼◌}
use Rattle.meaning.specs.Sets.{End, at, unbounded, Set, empty, span}

-- The lower and the upper end of an interval as bit patterns.
pub record Pair : Type 0 where
  pub lower : ℕ
  pub upper : ℕ

-- What a finite pattern is worth. Document 01: "has the value s / 2^1074 .. with its sign".
abbrev pub worth : Format → ℕ → Fraction
worth F b = record { up = plus F b; down = minus F b; over = 2 ^ F.point; positive = pow_pos F.point }

-- The pattern of -inf.
unfoldable pub minus_infinity : Format → ℕ
minus_infinity F = sign_bit F + infinity F

-- A pattern that is no number and no infinity.
pub record NaN (F : Format) (b : ℕ) : Type 0 where
  pub pattern : b < 2 * sign_bit F
  pub beyond : infinity F < magnitude F b

-- "[a, b] with a ≤ b, a not +inf, b not -inf": the order is that of the values.
pub record Proper (F : Format) (p : Pair) : Type 0 where
  pub lower_end : Finite F p.lower ⊎ (p.lower ≡ minus_infinity F)
  pub upper_end : Finite F p.upper ⊎ (p.upper ≡ infinity F)
  pub in_order : Finite F p.lower → Finite F p.upper → worth F p.lower ≼ worth F p.upper

-- "EMPTY is (+inf, -inf)."
pub record EmptyPair (F : Format) (p : Pair) : Type 0 where
  pub lower_is : p.lower ≡ infinity F
  pub upper_is : p.upper ≡ minus_infinity F

abbrev pub empty_pair : Format → Pair
empty_pair F = record { lower = infinity F; upper = minus_infinity F }

-- "A bare interval is EMPTY, or [a, b]".
abbrev pub Bare : Format → Pair → Type 0
Bare F p = Proper F p ⊎ EmptyPair F p

-- "A zero lower end is written -0.0 and a zero upper end +0.0".
pub record Canonical (F : Format) (p : Pair) : Type 0 where
  pub bare : Bare F p
  pub lower_zero : p.lower ≡ 0 → ⊥
  pub upper_zero : p.upper ≡ sign_bit F → ⊥

-- The ends of NaI. Ticket 4: "only 7FF8000000000000 in both ends is two NaNs".
pub record NaNs (F : Format) (p : Pair) : Type 0 where
  pub lower_is : p.lower ≡ quiet_nan F
  pub upper_is : p.upper ≡ quiet_nan F

-- "Infinity lacks a scaled value: the definitions treat it apart." An infinite pattern bounds nothing.
abbrev pub end_by : Bool → Fraction → End
end_by true q = at q
end_by false q = unbounded

unfoldable pub end_of : Format → ℕ → End
end_of F b = end_by (ltb (magnitude F b) (infinity F)) (worth F b)

abbrev pub both : Bool → Bool → Bool
both true b = b
both false b = false

abbrev pub set_by : Bool → Set → Set
set_by true Z = empty
set_by false Z = Z

-- The set that a valid pair stands for.
unfoldable pub set_of : Format → Pair → Set
set_of F p =
    set_by (both (eqb p.lower (infinity F)) (eqb p.upper (minus_infinity F)))
    (span (end_of F p.lower) (end_of F p.upper))
