-- A test of each comparison by the ends of two sets, which the checker computes, and that it answers for valid ones.
use mathlib.Core.Bool.{Bool, true, false, ◌&&◌, ◌||◌}
use mathlib.Core.Path.{subst⁻¹}
use lib.Dec.{T}
use native.Mathlib.Omega.{arith}
use Rattle.truth.specs.Answers.{Answers, affirmed, denied}
use Rattle.truth.proofs.AnswerLaws.{answers_le, answers_lt, answers_iff, answers_and, answers_or}
use Rattle.patterns.specs.Format.{Format}
use Rattle.meaning.specs.Fraction.{Fraction, ◌≼◌, ◌≺◌}
use Rattle.meaning.specs.Sets.{End, at, unbounded, Set, empty, span, Valid, valid_empty, valid_span, mirror}
use Rattle.meaning.specs.Pairs.{Pair, both, Bare, set_of}
use Rattle.meaning.specs.Statement.{given, right₂, bare_good}
use Rattle.meaning.specs.Comparisons.{Comparison, equal, subset, interior, disjoint, less, strict_less, precedes, strict_precedes, EachSome, EachEach, Compares, BareComparison}
use Rattle.meaning.proofs.PairLaws.{split, set_valid}
use Rattle.meaning.proofs.SetLaws.{some_member, mirror_ordered}
use Rattle.comparison_laws.specs.Ends.{Ascending, Reaches, reaches, reaches_all, Before, before}
use Rattle.comparison_laws.proofs.AscendingLaws.{weak, strict}
use Rattle.comparison_laws.proofs.MemberEnds.{each_some, each_some_only, each_each, each_each_only}
use Rattle.comparison_laws.proofs.MemberSets.{from_mirror, to_mirror, subset_halves, disjoint_either}
use Rattle.cases.proofs.Tests.{le_test, lt_test}
use Rattle.cases.proofs.RowTests.{bare_test, bare_tested}
use Rattle.cases.proofs.ExactTests.{agrees, agreed}

-- A truth value for each two fractions.
abbrev Test : Type 0
Test = Fraction → Fraction → Bool

abbrev reach_test : Test → (b d : End) → Bool
reach_test t (at p) (at q) = t p q
reach_test t unbounded (at q) = false
reach_test t (at p) unbounded = true
reach_test t unbounded unbounded = true

abbrev before_test : Test → (b c : End) → Bool
before_test t (at p) (at q) = t p q
before_test t unbounded (at q) = false
before_test t (at p) unbounded = false
before_test t unbounded unbounded = false

abbrev some_test : Test → Set → Set → Bool
some_test t empty Y = true
some_test t (span a b) empty = false
some_test t (span a b) (span c d) = reach_test t b d

abbrev each_test : Test → Set → Set → Bool
each_test t empty Y = true
each_test t (span a b) empty = true
each_test t (span a b) (span c d) = before_test t b c

-- What is below is above in the mirror.
abbrev down_test : Test → Set → Set → Bool
down_test t X Y = some_test t (mirror X) (mirror Y)

abbrev subset_test : Set → Set → Bool
subset_test X Y = some_test le_test X Y && down_test le_test X Y

abbrev pub comparison_test : Comparison → Set → Set → Bool
comparison_test equal X Y = subset_test X Y && subset_test Y X
comparison_test subset X Y = subset_test X Y
comparison_test interior X Y = some_test lt_test X Y && down_test lt_test X Y
comparison_test disjoint X Y = each_test lt_test X Y || each_test lt_test Y X
comparison_test less X Y = some_test le_test X Y && down_test le_test Y X
comparison_test strict_less X Y = some_test lt_test X Y && down_test lt_test Y X
comparison_test precedes X Y = each_test le_test X Y
comparison_test strict_precedes X Y = each_test lt_test X Y

-- A test of fractions that answers R makes tests of sets that answer its quantifiers.
abbrev Tells : (R : Fraction → Fraction → Type 0) → Test → Type 0
Tells R t = (p q : Fraction) → Answers (R p q) (t p q)

le_tells : Tells ◌≼◌ le_test
le_tells p q = answers_le _ _ (λ h. record { le = h }) (λ l h. omega (arith, l, h.le))

lt_tells : Tells ◌≺◌ lt_test
lt_tells p q = answers_lt _ _ (λ h. record { lt = h }) (λ l h. omega (arith, l, h.lt))

valid_mirror : {X : Set} → Valid X → Valid (mirror X)
valid_mirror valid_empty = valid_empty
valid_mirror (valid_span h) = valid_span (mirror_ordered h)

module _ {R : Fraction → Fraction → Type 0} {t : Test} (order : Ascending R) (tells : Tells R t) where
  reach_tells : (b d : End) → Answers (Reaches R b d) (reach_test t b d)
  reach_tells (at p) (at q) = answers_iff reaches number (tells p q)
    where
      number : Reaches R (at p) (at q) → R p q
      number (reaches r) = r
  reach_tells unbounded (at q) = denied (λ h. elim h [ ])
  reach_tells (at p) unbounded = affirmed reaches_all
  reach_tells unbounded unbounded = affirmed reaches_all

  before_tells : (b c : End) → Answers (Before R b c) (before_test t b c)
  before_tells (at p) (at q) = answers_iff before number (tells p q)
    where
      number : Before R (at p) (at q) → R p q
      number (before r) = r
  before_tells unbounded (at q) = denied (λ h. elim h [ ])
  before_tells (at p) unbounded = denied (λ h. elim h [ ])
  before_tells unbounded unbounded = denied (λ h. elim h [ ])

  some_tells : {X Y : Set} → Valid X → Valid Y → Answers (EachSome R X Y) (some_test t X Y)
  some_tells valid_empty k = affirmed (λ x m. absurd m)
  some_tells (valid_span h) valid_empty = denied (λ s. let (x, m) = some_member h in (s x m).inside)
  some_tells (valid_span {upper = b} h) (valid_span {upper = d} k) = answers_iff (each_some order k) (each_some_only order h) (reach_tells b d)

  each_tells : {X Y : Set} → Valid X → Valid Y → Answers (EachEach R X Y) (each_test t X Y)
  each_tells valid_empty k = affirmed (λ x y m n. absurd m)
  each_tells (valid_span h) valid_empty = affirmed (λ x y m n. absurd n)
  each_tells (valid_span {upper = b} h) (valid_span {lower = c} k) = answers_iff (each_each order) (each_each_only order h k) (before_tells b c)

  down_tells : {X Y : Set} → Valid X → Valid Y → Answers (EachSome (λ x y. R y x) X Y) (down_test t X Y)
  down_tells {X} {Y} h k = answers_iff (from_mirror order X Y) (to_mirror order X Y) (some_tells (valid_mirror h) (valid_mirror k))

subset_tells : {X Y : Set} → Valid X → Valid Y → Answers (Compares subset X Y) (subset_test X Y)
subset_tells {X} {Y} h k =
    let halves = subset_halves X Y in
    answers_iff halves.0 halves.1 (answers_and (some_tells weak le_tells h k) (down_tells weak le_tells h k))

pub comparison_tells : (c : Comparison) {X Y : Set} → Valid X → Valid Y → Answers (Compares c X Y) (comparison_test c X Y)
comparison_tells equal h k = answers_and (subset_tells h k) (subset_tells k h)
comparison_tells subset h k = subset_tells h k
comparison_tells interior h k = answers_and (some_tells strict lt_tells h k) (down_tells strict lt_tells h k)
comparison_tells disjoint h k =
    let either = disjoint_either h k in
    answers_iff either.0 either.1 (answers_or (each_tells strict lt_tells h k) (each_tells strict lt_tells k h))
comparison_tells less h k = answers_and (some_tells weak le_tells h k) (down_tells weak le_tells k h)
comparison_tells strict_less h k = answers_and (some_tells strict lt_tells h k) (down_tells strict lt_tells k h)
comparison_tells precedes h k = each_tells weak le_tells h k
comparison_tells strict_precedes h k = each_tells strict lt_tells h k

-- The same for two pairs, and the answer of a row.
abbrev pub compared_test : Format → Comparison → (x y : Pair) → Bool → Bool
compared_test F c x y t = both (bare_test F x) (both (bare_test F y) (agrees t (comparison_test c (set_of F x) (set_of F y))))

pub pairs_compared : (F : Format) (c : Comparison) (x y : Pair) (t : Bool) → T (compared_test F c x y t)
    → Bare F x × Bare F y × Answers (Compares c (set_of F x) (set_of F y)) t
pairs_compared F c x y t p =
    let last = agrees t (comparison_test c (set_of F x) (set_of F y)) in
    let r = split (bare_test F x) (both (bare_test F y) last) p in
    let s = split (bare_test F y) last r.1 in
    let h = bare_tested F x r.0 in
    let k = bare_tested F y s.0 in (
      h,
      k,
      subst⁻¹ (Answers (Compares c (set_of F x) (set_of F y))) (agreed t (comparison_test c (set_of F x) (set_of F y)) s.1)
          (comparison_tells c (set_valid F x h) (set_valid F y k)),
    )

pub compared_tested : (F : Format) (c : Comparison) (x y : Pair) (t : Bool) → T (compared_test F c x y t) → BareComparison F c x y (given t)
compared_tested F c x y t p = let h = pairs_compared F c x y t p in right₂ (bare_good h.0) (bare_good h.1) h.2
