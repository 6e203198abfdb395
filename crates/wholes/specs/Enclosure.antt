-- A magnitude between two whole numbers.
use Rattle.std.specs.Prelude.{ℕ, ◌+◌, ◌-◌, ◌*◌, ◌^◌, ◌<◌, ◌≤◌, Option, MatchOption}
use Rattle.std.specs.declared.cmp.Ordering.{Ordering}
use Rattle.std.specs.Ordering.{MatchOrdering}
use Rattle.patterns.specs.Format.{Format, infinity}
use Rattle.meaning.specs.Fraction.{Fraction, ◌≺◌, ◌≈◌, ◌⊕◌, whole, half, Whole, Even}
use Rattle.meaning.specs.Pairs.{worth}
use Rattle.truth.specs.Answers.{Answers}
use Rattle.wholes.specs.declared.split.Neighbours.{Neighbours}

-- How x compares with one half more than l.
abbrev pub OnSide : Fraction → Fraction → Ordering → Type 0
OnSide x l z = MatchOrdering z (x ≺ l ⊕ half) (x ≈ l ⊕ half) (l ⊕ half ≺ x)

-- x lies between l and u, which are the whole numbers n and n + 1.
pub record Straddles (l u x : Fraction) : Type 0 where
  pub number : ℕ
  pub lower : l ≈ whole number
  pub upper : u ≈ whole (number + 1)
  pub above : l ≺ x
  pub below : x ≺ u

-- The magnitude b lies between the two neighbours, which are finite magnitudes.
pub record Encloses (F : Format) (b : ℕ) (x : Neighbours) : Type 0 where
  pub low_finite : x.low < infinity F
  pub high_finite : x.high < infinity F
  pub between : Straddles (worth F x.low) (worth F x.high) (worth F b)
  pub on_side : OnSide (worth F b) (worth F x.low) x.side
  pub parity : Answers (Even (worth F x.low)) x.even

-- The magnitude b is a whole number, or lies between two.
abbrev pub SplitOf : Format → ℕ → Option Neighbours → Type 0
SplitOf F b o = MatchOption o (Whole (worth F b)) (Encloses F b)

-- A magnitude from 1 on whose last digit is worth less than 1.
pub record HasDigits (F : Format) (b : ℕ) : Type 0 where
  pub from_one : (F.point - F.frac + 1) * 2 ^ F.frac ≤ b
  pub below : b < (F.point + 1) * 2 ^ F.frac
