-- What is said of the ends of an answer that is not at hand.
use Rattle.patterns.specs.Format.{Format}
use Rattle.meaning.specs.Fraction.{Fraction}
use Rattle.meaning.specs.Pairs.{Pair}
use Rattle.meaning.specs.Statement.{HullOf}
use Rattle.meaning.specs.Exactness.{ExactHullOf}
use Rattle.arith.specs.declared.exact.Exactness.{Exactness}

-- The flags are right for the hull of R, whichever interval that is.
abbrev pub ExactFor : Format → (Fraction → Type 0) → Exactness → Type 0
ExactFor F R e = (z : Pair) → HullOf F R z → ExactHullOf F R (record { pair = z; lower_exact = e.lower; upper_exact = e.upper })
