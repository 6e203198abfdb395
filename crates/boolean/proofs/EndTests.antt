-- The tests of ends answer the questions on members.
use mathlib.Core.Bool.{Bool}
use mathlib.Core.Logic.{◌⊎◌, inl, inr, ⊎_elim}
use mathlib.Core.Path.{◌≡◌}
use Prim.Native.Nat.{ℕ, ◌<◌, ◌≤◌}
use Rattle.truth.specs.Answers.{Answers, affirmed, denied}
use Rattle.truth.proofs.AnswerLaws.{answers_iff}
use Rattle.patterns.specs.Format.{Format, infinity}
use Rattle.meaning.specs.Fraction.{Fraction, ◌≼◌, ◌≺◌}
use Rattle.meaning.specs.Sets.{End, Set, Ordered, ordered, no_lower, no_upper}
use Rattle.meaning.specs.Pairs.{Pair, Proper, EmptyPair, Bare, set_of}
use Rattle.meaning.specs.Comparisons.{EachSome, EachEach}
use Rattle.meaning.proofs.SetLaws.{some_member}
use Rattle.end_pairs.specs.Keys.{key_of}
use Rattle.meaning.proofs.KindLaws.{proper_not_empty}
use Rattle.end_pairs.proofs.Shapes.{LowerShape, lower_finite, lower_infinite, UpperShape, upper_finite, upper_infinite, Shape, shape_empty, shape_span, shape}
use Rattle.comparison_laws.specs.Ends.{Ascending}
use Rattle.comparison_laws.proofs.AscendingLaws.{weak, strict}
use Rattle.comparison_laws.proofs.MemberEnds.{each_some, each_some_only, each_each, each_each_only}
use Rattle.boolean.proofs.EndsByKeys.{Keyed, weak_keys, strict_keys, reach, reach_infinite, reach_only, come_before, before_only, below_infinity}

shape_ordered : {F : Format} {p : Pair} {a b : End} → Proper F p → LowerShape F p.lower a → UpperShape F p.upper b → Ordered a b
shape_ordered h (lower_finite f) (upper_finite g) = ordered (h.in_order f g)
shape_ordered h (lower_finite f) (upper_infinite e) = no_upper
shape_ordered h (lower_infinite e) u = no_lower

module _ (F : Format) {x y : Pair} where
  -- One of them is EMPTY.
  module _ (R : Fraction → Fraction → Type 0) where
    some_empty : {X Y : Set} → Shape F x X → Shape F y Y → EmptyPair F x ⊎ EmptyPair F y → {t : Bool} → Answers (EmptyPair F x) t → Answers (EachSome R X Y) t
    some_empty (shape_empty e) s h (affirmed _) = affirmed (λ a m. absurd m)
    some_empty (shape_empty e) s h (denied n) = absurd (n e)
    some_empty (shape_span p l u) s h (affirmed e) = absurd (proper_not_empty F p e)
    some_empty (shape_span p l u) (shape_empty _) h (denied n) =
        let (a, m) = some_member (shape_ordered p l u) in
        denied (λ each. (each a m).inside)
    some_empty (shape_span p l u) (shape_span q _ _) h (denied n) = absurd (⊎_elim n (proper_not_empty F q) h)

    each_empty : {X Y : Set} → Shape F x X → Shape F y Y → EmptyPair F x ⊎ EmptyPair F y → EachEach R X Y
    each_empty (shape_empty e) s h = λ a b m n. absurd m
    each_empty (shape_span p l u) (shape_empty e) h = λ a b m n. absurd n
    each_empty (shape_span p l u) (shape_span q _ _) h = absurd (⊎_elim (proper_not_empty F p) (proper_not_empty F q) h)

  -- Neither is.
  module _ {R : Fraction → Fraction → Type 0} {K : ℕ → ℕ → Type 0} (order : Ascending R) (keyed : Keyed F R K) {t : Bool} where
    some_keys : {X Y : Set} → Shape F x X → Shape F y Y → (EmptyPair F x ⊎ EmptyPair F y → ⊥)
        → Answers (K (key_of F x.upper) (key_of F y.upper) ⊎ (y.upper ≡ infinity F)) t → Answers (EachSome R X Y) t
    some_keys (shape_empty e) s n = absurd (n (inl e))
    some_keys (shape_span p l u) (shape_empty e) n = absurd (n (inr e))
    some_keys (shape_span p l u) (shape_span q m v) n =
        answers_iff (λ k. each_some order (shape_ordered q m v) (⊎_elim (reach F keyed u v) (reach_infinite F v) k))
        (λ s. reach_only F keyed u v (each_some_only order (shape_ordered p l u) s))

    each_keys : {X Y : Set} → Shape F x X → Shape F y Y → (EmptyPair F x ⊎ EmptyPair F y → ⊥)
        → Answers (K (key_of F x.upper) (key_of F y.lower)) t → Answers (EachEach R X Y) t
    each_keys (shape_empty e) s n = absurd (n (inl e))
    each_keys (shape_span p l u) (shape_empty e) n = absurd (n (inr e))
    each_keys (shape_span p l u) (shape_span q m v) n =
        answers_iff (λ k. each_each order (come_before F keyed u m k))
        (λ s. before_only F keyed u m (each_each_only order (shape_ordered p l u) (shape_ordered q m v) s))

  upper_below_lem : {X : Set} → Shape F x X → (EmptyPair F x ⊎ EmptyPair F y → ⊥) → y.upper ≡ infinity F → key_of F x.upper ≤ key_of F y.upper
  upper_below_lem (shape_empty e) n = absurd (n (inl e))
  upper_below_lem (shape_span p l u) n = below_infinity F u

-- The same for two valid pairs.
module _ (F : Format) {x y : Pair} (bares : Bare F x × Bare F y) where
  pub answers_empty_lem : (R : Fraction → Fraction → Type 0) → EmptyPair F x ⊎ EmptyPair F y → {t : Bool} → Answers (EmptyPair F x) t
      → Answers (EachSome R (set_of F x) (set_of F y)) t
  answers_empty_lem R = some_empty F R (shape F x bares.0) (shape F y bares.1)

  pub all_empty : (R : Fraction → Fraction → Type 0) → EmptyPair F x ⊎ EmptyPair F y → EachEach R (set_of F x) (set_of F y)
  all_empty R = each_empty F R (shape F x bares.0) (shape F y bares.1)

  module _ (neither : EmptyPair F x ⊎ EmptyPair F y → ⊥) {t : Bool} where
    pub answers_reaches : Answers (key_of F x.upper ≤ key_of F y.upper) t → Answers (EachSome ◌≼◌ (set_of F x) (set_of F y)) t
    answers_reaches a =
        some_keys F weak (weak_keys F) (shape F x bares.0) (shape F y bares.1) neither
        (answers_iff inl (⊎_elim (λ k. k) (upper_below_lem F (shape F x bares.0) neither)) a)

    pub answers_passes : Answers ((key_of F x.upper < key_of F y.upper) ⊎ (y.upper ≡ infinity F)) t → Answers (EachSome ◌≺◌ (set_of F x) (set_of F y)) t
    answers_passes = some_keys F strict (strict_keys F) (shape F x bares.0) (shape F y bares.1) neither

    pub answers_precedes : Answers (key_of F x.upper ≤ key_of F y.lower) t → Answers (EachEach ◌≼◌ (set_of F x) (set_of F y)) t
    answers_precedes = each_keys F weak (weak_keys F) (shape F x bares.0) (shape F y bares.1) neither

    pub answers_strict_precedes : Answers (key_of F x.upper < key_of F y.lower) t → Answers (EachEach ◌≺◌ (set_of F x) (set_of F y)) t
    answers_strict_precedes = each_keys F strict (strict_keys F) (shape F x bares.0) (shape F y bares.1) neither
