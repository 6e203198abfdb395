-- Sound decorated operands.
use Rattle.std.specs.Prelude.{◌≡◌, Option, Some, None}
use Rattle.patterns.specs.Format.{Format}
use Rattle.meaning.specs.Pairs.{Pair, set_of}
use Rattle.meaning.specs.Decorations as meant
use Rattle.meaning.specs.Decorations.{Ill, lower_of, settled}
use Rattle.meaning.specs.Statement.{DecPair}
use Rattle.decorations.specs.DecorationMeaning.{decoration_of}
use Rattle.decorations.specs.declared.types.Decoration.{Decoration}

-- `IsNaI`: an operand is NaI. `Bares`: every operand is an interval. `lowest`: the lower of their decorations.
pub record AreIntervals (IsNaI Bares : Type 0) (lowest : meant.Decoration) (d : Decoration) : Type 0 where
  pub not_nai : IsNaI → ⊥
  pub bares : Bares
  pub not_ill : lowest ≡ Ill → ⊥
  pub is : decoration_of d ≡ lowest

-- No decoration if an operand is NaI, and else the lower of theirs.
pub data Sorted (IsNaI Bares : Type 0) (lowest : meant.Decoration) : Option Decoration → Type 0 where
  sorted_nai : IsNaI → Sorted IsNaI Bares lowest None
  sorted_intervals : {d : Decoration} → AreIntervals IsNaI Bares lowest d → Sorted IsNaI Bares lowest (Some d)

-- The pair z with the lower of what the operation allows and the operands' own decoration, "through `set_dec`".
pub record DecoratedBy (F : Format) (z : Pair) (allowed operands : meant.Decoration) (r : DecPair) : Type 0 where
  pub same : r.pair ≡ z
  pub is : r.decoration ≡ settled (set_of F z) (lower_of allowed operands)
