-- Wrong versions of the operations that report exactness: none of them meets its statement.
use mathlib.Core.Bool.{Bool, true, false, false≢true}
use mathlib.Core.Path.{◌≡◌, sym, ◌∙◌}
use Rattle.patterns.specs.Format.{binary64, infinity, sign_bit}
use Rattle.patterns.specs.Value.{value, magnitude, plus, minus, opposite}
use Rattle.meaning.specs.Fraction.{◌⊕◌, ◌⊗◌}
use Rattle.meaning.specs.Points.{Unary, add}
use Rattle.meaning.specs.Results.{Operation, point}
use Rattle.meaning.specs.Pairs.{Pair, minus_infinity, end_of, set_of}
use Rattle.meaning.specs.Statement.{Outcome, given}
use Rattle.meaning.specs.Exactness.{ExactPair, Exact₁, Exact₂}
use Rattle.meaning.proofs.ExactLaws.{bare_outcome, exact₁_bare, exact₂_bare, exact₂_once}
use Rattle.theorem3.specs.Answer.{adding}
use Rattle.cases.specs.Table.{pair, only, minus_zero, one, two, tiny, largest, plus_inf}
use Rattle.cases.specs.ExactTable.{flagged}
use Rattle.cases.proofs.ExactTests.{exact_tested}
use Rattle.cases.proofs.WrongVersions.{Wrong, no_wrong₁, no_wrong₂}

-- One that is wrong without its flags: it refuses, or it gives ENTIRE, EMPTY or its first operand.
pub no_wrong_exact₁ : (op : Unary) (f : Pair → Outcome ExactPair) → ((x : Pair) → Wrong x (bare_outcome (f x))) → ((x : Pair) → Exact₁ binary64 op x (f x)) → ⊥
no_wrong_exact₁ op f bad all = no_wrong₁ op (λ x. bare_outcome (f x)) bad (λ x. exact₁_bare binary64 op x (all x))

pub no_wrong_exact₂ : (op : Operation) (f : Pair → Pair → Outcome ExactPair) → ((x y : Pair) → Wrong x (bare_outcome (f x y)))
    → ((x y : Pair) → Exact₂ binary64 op x y (f x y)) → ⊥
no_wrong_exact₂ op f bad all = no_wrong₂ op (λ x y. bare_outcome (f x y)) bad (λ x y. exact₂_bare binary64 op x y (all x y))

-- [1, 2] + [0, 2^-60]: the lower end alone is exact. [M, M] + [M, M]: neither is.
half_exact : Exact₂ binary64 (point add) (pair one two) (pair minus_zero tiny) (given (flagged (pair one 0x4000000000000001) true false))
unfolding infinity sign_bit value magnitude plus minus opposite ◌⊕◌ ◌⊗◌ minus_infinity end_of set_of
half_exact = exact_tested binary64 adding (pair one two) (pair minus_zero tiny) (flagged (pair one 0x4000000000000001) true false) tt

overflow : Exact₂ binary64 (point add) (only largest) (only largest) (given (flagged (pair largest plus_inf) false false))
unfolding infinity sign_bit value magnitude plus minus opposite ◌⊕◌ ◌⊗◌ minus_infinity end_of set_of
overflow = exact_tested binary64 adding (only largest) (only largest) (flagged (pair largest plus_inf) false false) tt

-- A version whose flags are those of another answer z, whatever they are worked out from.
flags : {z : ExactPair} {w : ExactPair} → ◌≡◌ {A = Outcome ExactPair} (given z) (given w) → (z.lower_exact ≡ w.lower_exact) × (z.upper_exact ≡ w.upper_exact)
flags e = (cc, cc)

-- One flag for both ends, and so one that is always set or never, is wrong.
pub no_single_flag : (f : Pair → Pair → ExactPair) → ((x y : Pair) → (f x y).lower_exact ≡ (f x y).upper_exact) → ((x y : Pair) → Exact₂ binary64 (point add) x y (given (f x y))) → ⊥
no_single_flag f same all =
    let (lower, upper) = flags (exact₂_once binary64 (point add) (pair one two) (pair minus_zero tiny) (all (pair one two) (pair minus_zero tiny)) half_exact) in
    false≢true (sym upper ∙ sym (same (pair one two) (pair minus_zero tiny)) ∙ lower)

-- So is a lower flag that is always set, or never, and one that calls an overflow exact.
pub no_constant_flag : (t : Bool) (f : Pair → Pair → ExactPair) → ((x y : Pair) → (f x y).lower_exact ≡ t) → ((x y : Pair) → Exact₂ binary64 (point add) x y (given (f x y))) → ⊥
no_constant_flag t f constant all =
    let (lower, _) = flags (exact₂_once binary64 (point add) (pair one two) (pair minus_zero tiny) (all (pair one two) (pair minus_zero tiny)) half_exact) in
    let (none, _) = flags (exact₂_once binary64 (point add) (only largest) (only largest) (all (only largest) (only largest)) overflow) in
    false≢true (sym none ∙ constant (only largest) (only largest) ∙ sym (constant (pair one two) (pair minus_zero tiny)) ∙ lower)
