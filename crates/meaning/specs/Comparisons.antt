-- Comparisons of two intervals, by quantifiers over their members: IEEE 1788-2015, 10.5.10, where ∀a means "for all a in A", and so on.
use Rattle.std.specs.Prelude.{Bool, ◌⊎◌}
use Rattle.truth.specs.Answers.{Answers}
use Rattle.patterns.specs.Format.{Format}
use Rattle.meaning.specs.Fraction.{Fraction, ◌≼◌, ◌≺◌, ◌≈◌}
use Rattle.meaning.specs.Sets.{Set, Member}
use Rattle.meaning.specs.Pairs.{Pair, NaNs, set_of}
use Rattle.meaning.specs.Statement.{DecPair, Outcome, Answered₂, JudgedBare, JudgedDecorated}

-- "equal, subset, interior, disjoint, less, strictLess, precedes, strictPrecedes"
pub data Comparison : Type 0 where
  equal subset interior disjoint less strict_less precedes strict_precedes : Comparison

-- "∃b": some member of B has the property P.
pub record Some (B : Set) (P : Fraction → Type 0) : Type 0 where
  pub member : Fraction
  pub inside : Member B member
  pub holds : P member

-- "∀a ∃b": each member of A is related to some member of B.
abbrev pub EachSome : (R : Fraction → Fraction → Type 0) → Set → Set → Type 0
EachSome R A B = (a : Fraction) → Member A a → Some B (R a)

-- "∀a ∀b": each member of A is related to each member of B.
abbrev pub EachEach : (R : Fraction → Fraction → Type 0) → Set → Set → Type 0
EachEach R A B = (a b : Fraction) → Member A a → Member B b → R a b

-- a is at least b, a is more than b, and a is not b.
abbrev pub AtLeast : Fraction → Fraction → Type 0
AtLeast a b = b ≼ a

abbrev pub More : Fraction → Fraction → Type 0
More a b = b ≺ a

abbrev pub Differs : Fraction → Fraction → Type 0
Differs a b = a ≈ b → ⊥

-- equal: "∀a ∃b a = b ∧ ∀b ∃a b = a"; subset: "∀a ∃b a = b"; interior: "∀a ∃b a < b ∧ ∀a ∃b b < a"; disjoint: "∀a ∀b a ≠ b";
-- less: "∀a ∃b a ≤ b ∧ ∀b ∃a a ≤ b"; strictLess: "∀a ∃b a < b ∧ ∀b ∃a a < b"; precedes: "∀a ∀b a ≤ b"; strictPrecedes: "∀a ∀b a < b".
abbrev pub Compares : Comparison → Set → Set → Type 0
Compares equal A B = EachSome ◌≈◌ A B × EachSome ◌≈◌ B A
Compares subset A B = EachSome ◌≈◌ A B
Compares interior A B = EachSome ◌≺◌ A B × EachSome More A B
Compares disjoint A B = EachEach Differs A B
Compares less A B = EachSome ◌≼◌ A B × EachSome AtLeast B A
Compares strict_less A B = EachSome ◌≺◌ A B × EachSome More B A
Compares precedes A B = EachEach ◌≼◌ A B
Compares strict_precedes A B = EachEach ◌≺◌ A B

-- "NaI answers no to all": two pairs compare if neither is NaI's, and their sets do.
pub record PairsCompare (F : Format) (c : Comparison) (x y : Pair) : Type 0 where
  pub not_nai : NaNs F x ⊎ NaNs F y → ⊥
  pub holds : Compares c (set_of F x) (set_of F y)

-- "Yes holds exactly when the quantified statement over fractions does."
abbrev pub BareComparison : Format → Comparison → Pair → Pair → Outcome Bool → Type 0
BareComparison F c x y o = Answered₂ (JudgedBare F) (λ x y. Answers (Compares c (set_of F x) (set_of F y))) x y o

abbrev pub DecComparison : Format → Comparison → DecPair → DecPair → Outcome Bool → Type 0
DecComparison F c x y o = Answered₂ (JudgedDecorated F) (λ x y. Answers (PairsCompare F c x.pair y.pair)) x y o
