-- The right answer from true bounds and the patterns that they round upward to.
use Prim.Native.Nat.{ℕ}
use Rattle.patterns.specs.Format.{Format}
use Rattle.meaning.specs.Fraction.{Fraction}
use Rattle.meaning.specs.Sets.{End}
use Rattle.meaning.specs.Statement.{HullOf}
use Rattle.meaning.specs.Supremum.{UpperEnd}
use Rattle.meaning.proofs.PatternHull.{pair_by, hull_of_ends}
use Rattle.points.specs.Ends.{Bounds}

pub answer : (F : Format) (R : Fraction → Type 0) {u l : End} {lo hi : ℕ}
    → Bounds R u l → UpperEnd F u hi → UpperEnd F l lo → HullOf F R (pair_by F lo hi)
answer F R b up down = hull_of_ends F R b.top b.bottom up down b.some.0 b.some.1
