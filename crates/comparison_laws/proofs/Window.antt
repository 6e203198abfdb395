-- The window test: an answer is a subset of a window with double or infinite ends exactly if all results lie in the window. So nothing
-- is released for what was rounded, and nothing held back.
use mathlib.Core.Logic.{◌↔◌}
use Rattle.patterns.specs.Format.{Format}
use Rattle.meaning.specs.Fraction.{Fraction}
use Rattle.meaning.specs.Sets.{Set, Member}
use Rattle.meaning.specs.Pairs.{Pair, set_of}
use Rattle.meaning.specs.Hull.{SetOfFormat}
use Rattle.meaning.specs.Statement.{HullOf}
use Rattle.meaning.specs.Comparisons.{subset, Compares}
use Rattle.comparison_laws.proofs.Consequences.{subset_inside}

pub in_window : {F : Format} {R : Fraction → Type 0} {z : Pair} {W : Set} → HullOf F R z → SetOfFormat F W
    → Compares subset (set_of F z) W ↔ ((r : Fraction) → R r → Member W r)
in_window {F} {z = z} {W} answer window =
    let inside = subset_inside (set_of F z) W in
    (λ s r m. inside.0 s r (answer.hull.holds r m), λ all. inside.1 (answer.hull.narrowest W window all))
