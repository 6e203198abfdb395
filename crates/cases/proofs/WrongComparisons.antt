-- Wrong versions of the comparisons: one that always says yes, or always no, or refuses, meets the statement of none of the eight.
use mathlib.Core.Bool.{Bool, true, false, not}
use mathlib.Core.Logic.{◌↔◌}
use mathlib.Core.Path.{◌≡◌, refl}
use Prim.Native.Nat.{ℕ}
use native.Mathlib.Omega.{arith}
use Rattle.meaning.specs.Refusals.{Refusal}
use Rattle.truth.specs.Answers.{Answers}
use Rattle.truth.proofs.AnswerLaws.{said_yes, said_no}
use Rattle.patterns.specs.Format.{binary64, infinity, sign_bit}
use Rattle.patterns.specs.Value.{value, magnitude, plus, minus, opposite}
use Rattle.meaning.specs.Sets.{Set}
use Rattle.meaning.specs.Pairs.{Pair, Bare, minus_infinity, end_of, set_of}
use Rattle.meaning.specs.Statement.{Outcome, refused, given, right₂, bare_good, DecPair}
use Rattle.meaning.specs.Comparisons.{Comparison, equal, subset, interior, disjoint, less, strict_less, precedes, strict_precedes, Compares, BareComparison, DecComparison}
use Rattle.comparison_laws.proofs.NaIComparisons.{bares_compared}
use Rattle.comparison_laws.proofs.OneComparison.{bare_comparison_once, dec_comparison_once}
use Rattle.cases.specs.Quantified.{StrictLessText}
use Rattle.cases.specs.Table.{pair, one, two, three, four}
use Rattle.cases.proofs.ComparisonTests.{pairs_compared}
use Rattle.cases.proofs.WrongVersions.{trivially, sound_trivially}

-- A version that refuses, or says t.
pub data Says (t : Bool) : Outcome Bool → Type 0 where
  refuses : (r : Refusal) → Says t (refused r)
  says : Says t (given t)

-- Intervals with members of which the comparison holds, and of which it does not though a weaker one does, where there is one.
abbrev first : Comparison → Bool → Pair
first equal t = pair one two
first subset true = pair one two
first subset false = pair one three
first interior true = pair two three
first interior false = pair one two
first disjoint t = pair one two
first less true = pair one two
first less false = pair two three
first strict_less t = pair one two
first precedes true = pair one two
first precedes false = pair two three
first strict_precedes t = pair one two

abbrev second : Comparison → Bool → Pair
second equal true = pair one two
second equal false = pair one three
second subset true = pair one three
second subset false = pair one two
second interior true = pair one four
second interior false = pair one two
second disjoint true = pair three four
second disjoint false = pair two three
second less true = pair one three
second less false = pair one two
second strict_less true = pair two three
second strict_less false = pair one three
second precedes true = pair two three
second precedes false = pair one two
second strict_precedes true = pair three four
second strict_precedes false = pair two three

abbrev Shown : Comparison → Bool → Type 0
Shown c t =
    Bare binary64 (first c t) × Bare binary64 (second c t) × Answers (Compares c (set_of binary64 (first c t)) (set_of binary64 (second c t))) t

shown : (c : Comparison) (t : Bool) → Shown c t
unfolding infinity sign_bit value magnitude plus minus opposite minus_infinity end_of set_of
shown equal true = pairs_compared binary64 equal (pair one two) (pair one two) true tt
shown equal false = pairs_compared binary64 equal (pair one two) (pair one three) false tt
shown subset true = pairs_compared binary64 subset (pair one two) (pair one three) true tt
shown subset false = pairs_compared binary64 subset (pair one three) (pair one two) false tt
shown interior true = pairs_compared binary64 interior (pair two three) (pair one four) true tt
shown interior false = pairs_compared binary64 interior (pair one two) (pair one two) false tt
shown disjoint true = pairs_compared binary64 disjoint (pair one two) (pair three four) true tt
shown disjoint false = pairs_compared binary64 disjoint (pair one two) (pair two three) false tt
shown less true = pairs_compared binary64 less (pair one two) (pair one three) true tt
shown less false = pairs_compared binary64 less (pair two three) (pair one two) false tt
shown strict_less true = pairs_compared binary64 strict_less (pair one two) (pair two three) true tt
shown strict_less false = pairs_compared binary64 strict_less (pair one two) (pair one three) false tt
shown precedes true = pairs_compared binary64 precedes (pair one two) (pair two three) true tt
shown precedes false = pairs_compared binary64 precedes (pair two three) (pair one two) false tt
shown strict_precedes true = pairs_compared binary64 strict_precedes (pair one two) (pair three four) true tt
shown strict_precedes false = pairs_compared binary64 strict_precedes (pair one two) (pair two three) false tt

not_other : (t : Bool) {o : Outcome Bool} → Says t o → o ≡ given (not t) → ⊥
not_other true (refuses r) e = let z : ◌≡◌ {A = ℕ} 0 1 = cc in omega arith
not_other false (refuses r) e = let z : ◌≡◌ {A = ℕ} 0 1 = cc in omega arith
not_other true says e = let z : ◌≡◌ {A = ℕ} 0 1 = cc in omega arith
not_other false says e = let z : ◌≡◌ {A = ℕ} 0 1 = cc in omega arith

pub no_constant_comparison : (c : Comparison) (t : Bool) (f : Pair → Pair → Outcome Bool) → ((x y : Pair) → Says t (f x y))
    → ((x y : Pair) → BareComparison binary64 c x y (f x y)) → ⊥
no_constant_comparison c t f constant all =
    let x = first c (not t) in
    let y = second c (not t) in
    let (h, k, answer) = shown c (not t) in
    not_other t (constant x y) (bare_comparison_once binary64 c x y (all x y) (right₂ (bare_good h) (bare_good k) answer))

-- The same with decorations.
pub no_constant_dec_comparison : (c : Comparison) (t : Bool) (f : DecPair → DecPair → Outcome Bool) → ((x y : DecPair) → Says t (f x y))
    → ((x y : DecPair) → DecComparison binary64 c x y (f x y)) → ⊥
no_constant_dec_comparison c t f constant all =
    let x = trivially (first c (not t)) in
    let y = trivially (second c (not t)) in
    let (h, k, answer) = shown c (not t) in
    not_other t (constant x y)
    (dec_comparison_once binary64 c x y (all x y) (right₂ (sound_trivially h) (sound_trivially k) (bares_compared binary64 c (h, k) answer)))

-- The crate's text of strict_less does not say what strict_less is: of [1, 2] and [2, 3] it does not hold.
not_interior : Answers (Compares interior (set_of binary64 (pair one two)) (set_of binary64 (pair two three))) false
unfolding infinity sign_bit value magnitude plus minus opposite minus_infinity end_of set_of
not_interior = (pairs_compared binary64 interior (pair one two) (pair two three) false tt).2

pub not_strict_less_text : ((X Y : Set) → Compares strict_less X Y ↔ StrictLessText X Y) → ⊥
not_strict_less_text same =
    said_no not_interior refl
    ((same (set_of binary64 (pair one two)) (set_of binary64 (pair two three))).0 (said_yes (shown strict_less true).2 refl))
