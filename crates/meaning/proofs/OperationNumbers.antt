-- Each operation has its own number, from 1 to 25.
use mathlib.Core.Bool.{Bool, true}
use mathlib.Core.Logic.{◌↔◌}
use mathlib.Core.Path.{◌≡◌, refl, sym, ◌∙◌, ap, subst}
use mathlib.Core.List.{List, [], ◌∷◌}
use Prim.Native.Nat.{ℕ, zero, suc, ◌+◌, ◌<◌, ◌≤◌}
use native.Mathlib.Omega.{arith}
use lib.Dec.{T, eqb, eqb→eq}
use lib.ListN.{length, get_or, get_or-eq_default}
use Rattle.meaning.specs.Points.{neg, abs, ceil, floor, round, round_ties_even, sign, trunc, add, sub, mul, div, max, min}
use Rattle.meaning.specs.Results.{point, convex_hull, intersection}
use Rattle.meaning.specs.Pairs.{both}
use Rattle.meaning.specs.Comparisons.{equal, subset, interior, disjoint, less, strict_less, precedes, strict_precedes}
use Rattle.meaning.proofs.PairLaws.{split}
use Rattle.meaning.specs.Requests.{Asked, unary, binary, overlap, comparison, operation_number, Asks}

-- The operations from number 1 on.
abbrev operations : List Asked
operations =
    unary neg
    ∷ binary (point add)
    ∷ binary (point sub)
    ∷ binary (point mul)
    ∷ binary (point div)
    ∷ binary convex_hull
    ∷ binary intersection
    ∷ binary (point max)
    ∷ binary (point min)
    ∷ unary abs
    ∷ unary ceil
    ∷ unary floor
    ∷ unary round
    ∷ unary round_ties_even
    ∷ unary sign
    ∷ unary trunc
    ∷ overlap
    ∷ comparison equal
    ∷ comparison subset
    ∷ comparison interior
    ∷ comparison disjoint
    ∷ comparison less
    ∷ comparison strict_less
    ∷ comparison precedes
    ∷ comparison strict_precedes
    ∷ []

-- The operation with a number; overlap for any other number.
abbrev numbered : ℕ → Asked
numbered n = get_or (overlap ∷ operations) n overlap

found : (q : Asked) → numbered (operation_number q) ≡ q
found (unary neg) = refl
found (unary abs) = refl
found (unary ceil) = refl
found (unary floor) = refl
found (unary round) = refl
found (unary round_ties_even) = refl
found (unary sign) = refl
found (unary trunc) = refl
found (binary (point add)) = refl
found (binary (point sub)) = refl
found (binary (point mul)) = refl
found (binary (point div)) = refl
found (binary (point max)) = refl
found (binary (point min)) = refl
found (binary convex_hull) = refl
found (binary intersection) = refl
found overlap = refl
found (comparison equal) = refl
found (comparison subset) = refl
found (comparison interior) = refl
found (comparison disjoint) = refl
found (comparison less) = refl
found (comparison strict_less) = refl
found (comparison precedes) = refl
found (comparison strict_precedes) = refl

pub number_injective : (q r : Asked) → operation_number q ≡ operation_number r → q ≡ r
number_injective q r e = sym (found q) ∙ ap numbered e ∙ found r

-- A request asks for one operation.
pub asks_once : {input : List ℕ} {q r : Asked} → Asks input q → Asks input r → q ≡ r
asks_once {q = q} {r = r} h k = number_injective q r (sym h.is ∙ k.is)

-- A number that stands for overlap alone is 17.
only_overlap : (q : Asked) → numbered (operation_number q) ≡ overlap → operation_number q ≡ 17
only_overlap q e = ap operation_number (sym (found q) ∙ e)

pub not_zero_lem : (q : Asked) → operation_number q ≡ 0 → ⊥
not_zero_lem q e = omega (arith, only_overlap q (ap numbered e))

pub not_large : (q : Asked) → 26 ≤ operation_number q → ⊥
not_large q h = omega (arith, only_overlap q (get_or-eq_default (overlap ∷ operations) overlap h))

-- The operations of a list have the numbers from k on.
abbrev counts : ℕ → List Asked → Bool
counts k [] = true
counts k (q ∷ qs) = both (eqb (operation_number q) k) (counts (suc k) qs)

counted : (k : ℕ) (qs : List Asked) → T (counts k qs) → (i : ℕ) → i < length qs → operation_number (get_or qs i overlap) ≡ k + i
counted k [] t i h = absurd (omega arith)
counted k (q ∷ qs) t zero h =
    eqb→eq (operation_number q) k (split (eqb (operation_number q) k) (counts (suc k) qs) t).0 ∙ omega arith
counted k (q ∷ qs) t (suc i) h =
    counted (suc k) qs (split (eqb (operation_number q) k) (counts (suc k) qs) t).1 i (omega arith) ∙ omega arith

-- Each number from 1 to 25 is an operation's, and no other number is.
pub numbers_range : (n : ℕ) → ((q : Asked) × (n ≡ operation_number q)) ↔ ((1 ≤ n) × (n ≤ 25))
numbers_range n = (within, asked n)
  where
    within : (q : Asked) × (n ≡ operation_number q) → (1 ≤ n) × (n ≤ 25)
    within (q, e) =
        let above : n ≡ 0 → ⊥ = λ z. not_zero_lem q (sym e ∙ z) in
        let below : 26 ≤ n → ⊥ = λ l. not_large q (subst (λ (m : ℕ). 26 ≤ m) e l) in
        (omega arith, omega arith)

    asked : (n : ℕ) → (1 ≤ n) × (n ≤ 25) → (q : Asked) × (n ≡ operation_number q)
    asked zero h = absurd (omega (arith, h.0))
    asked (suc i) h = (get_or operations i overlap, sym (counted 1 operations tt i (omega (arith, h.1)) ∙ omega arith))
