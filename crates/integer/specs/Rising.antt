-- The upper end of a rising function's results.
use Rattle.std.specs.Prelude.{◌≡◌, ◌⊎◌, ℕ}
use Rattle.patterns.specs.Format.{Format, infinity}
use Rattle.patterns.specs.Value.{Finite}
use Rattle.meaning.specs.Sets.{End}
use Rattle.meaning.specs.Points.{Unary}
use Rattle.meaning.specs.Pairs.{end_of}
use Rattle.meaning.specs.Supremum.{UpperEnd}
use Rattle.points.specs.Ends.{EndMakes}

-- A pattern that an upper end may have.
abbrev pub Upper : Format → ℕ → Type 0
Upper F b = Finite F b ⊎ (b ≡ infinity F)

-- The pattern r is the upper end of the results where b is that of the operand.
pub record UpperMade (F : Format) (op : Unary) (b r : ℕ) : Type 0 where
  pub end : End
  pub makes : EndMakes op (end_of F b) end
  pub rounded : UpperEnd F end r
