-- What follows from the quantifiers: what ticket 3 says of EMPTY and ENTIRE, and how comparisons stand to each other.
use mathlib.Core.Logic.{◌↔◌, inl}
use Rattle.meaning.specs.Sets.{unbounded, Set, empty, span, Inside, SameSet}
use Rattle.meaning.specs.Comparisons.{equal, subset, interior, disjoint, less, strict_less, precedes, strict_precedes, Compares}
use Rattle.meaning.proofs.FractionLaws.{lt_le, eq_refl, eq_le, eq_ge}
use Rattle.meaning.proofs.SetLaws.{upper_beyond, lower_beyond}
use Rattle.comparison_laws.proofs.MemberSets.{between, weaken, subset_halves, differ_before}

-- "EMPTY is a subset of everything."
pub empty_subset : (Y : Set) → Compares subset empty Y
empty_subset Y x m = absurd m

abbrev entire : Set
entire = span unbounded unbounded

-- "ENTIRE is interior to itself, because an infinite end does not count as touching."
pub entire_interior : Compares interior entire entire
entire_interior = (
  λ x m. let (y, n, h) = upper_beyond unbounded x in record { member = y; inside = n; holds = h },
  λ x m. let (y, n, h) = lower_beyond unbounded x in record { member = y; inside = n; holds = h },
)

-- "equal exactly if subset both ways"
pub equal_both : (X Y : Set) → Compares equal X Y ↔ (Compares subset X Y × Compares subset Y X)
equal_both X Y = (λ h. h, λ h. h)

-- A subset is inside, and equal sets have the same members.
pub subset_inside : (X Y : Set) → Compares subset X Y ↔ Inside X Y
subset_inside X Y = (
  λ s x m. let y = s x m in between Y y.inside y.inside (eq_ge y.holds) (eq_le y.holds),
  λ s x m. record { member = x; inside = s x m; holds = eq_refl x },
)

pub equal_same : (X Y : Set) → Compares equal X Y ↔ SameSet X Y
equal_same X Y =
    let there = subset_inside X Y in
    let back = subset_inside Y X in
    (λ h. (there.0 h.0, back.0 h.1), λ s. (there.1 s.0, back.1 s.1))

-- The strict comparisons imply the others.
module _ (X Y : Set) where
  pub interior_subset : Compares interior X Y → Compares subset X Y
  interior_subset h = (subset_halves X Y).0 (weaken X Y (λ x y. lt_le) h.0, weaken X Y (λ x y. lt_le) h.1)

  pub strict_less_less : Compares strict_less X Y → Compares less X Y
  strict_less_less h = (weaken X Y (λ x y. lt_le) h.0, weaken Y X (λ x y. lt_le) h.1)

  pub strict_precedes_precedes : Compares strict_precedes X Y → Compares precedes X Y
  strict_precedes_precedes h x y m n = lt_le (h x y m n)

  pub strict_precedes_disjoint : Compares strict_precedes X Y → Compares disjoint X Y
  strict_precedes_disjoint h = differ_before X Y (inl h)
