-- What packing promises, for any format of a given width of fraction and a given exponent field of infinity.
use Rattle.std.specs.Prelude.{Bool, ◌≡◌, ℕ, ◌+◌, ◌^◌, ◌<◌, ◌≤◌}
use Rattle.truth.specs.Answers.{Answers}
use Rattle.patterns.specs.Format.{Format}
use Rattle.patterns.specs.Rounding.{RoundsUp, RoundsDown, Representable}
use Rattle.packing.specs.Bracket.{Brackets, Rebrackets, FineEnough}

-- The widths of formats, and the exponents that fit the machine's words.
pub record Packable (frac codes significand exponent : ℕ) : Type 0 where
  pub some : 0 < frac
  pub narrow : frac ≤ 52
  pub ranged : 2 ≤ codes
  pub coded : codes < 2 ^ 11
  pub near : exponent < 2 ^ 13
  pub fine : FineEnough frac significand exponent

-- r is what every value in the bracket rounds to, upward or downward.
abbrev pub PacksUp : (frac codes significand exponent : ℕ) (exact : Bool) (r : ℕ) → Type 0
PacksUp frac codes significand exponent exact r =
    (F : Format) → F.frac ≡ frac → F.codes ≡ codes
    → (n d : ℕ) → 0 < d → Brackets n d significand exponent exact → RoundsUp F n d r

abbrev pub PacksDown : (frac codes significand exponent : ℕ) (exact : Bool) (r : ℕ) → Type 0
PacksDown frac codes significand exponent exact r =
    (F : Format) → F.frac ≡ frac → F.codes ≡ codes
    → (n d : ℕ) → 0 < d → Brackets n d significand exponent exact → RoundsDown F n d r

-- `told` says of every value in the bracket whether it is the worth of some finite pattern.
abbrev pub TellsRepresentable : (frac codes significand exponent : ℕ) (exact told : Bool) → Type 0
TellsRepresentable frac codes significand exponent exact told =
    (F : Format) → F.frac ≡ frac → F.codes ≡ codes
    → (n d : ℕ) → 0 < d → Brackets n d significand exponent exact → Answers (Representable F n d) told

-- The second bracket holds what the first does, in at most frac + 1 digits.
pub record Fitted (frac m e : ℕ) (x : Bool) (m' e' : ℕ) (x' : Bool) : Type 0 where
  pub brackets : Rebrackets m e x m' e' x'
  pub short : m' < 2 ^ (frac + 1)
  pub fine : FineEnough frac m' e'
