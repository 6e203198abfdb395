-- A test of overlap's conditions between bounded operands.
use mathlib.Core.Bool.{Bool, false}
use mathlib.Core.Path.{◌≡◌, refl, sym, ◌∙◌, ap₂, subst₂}
use mathlib.Core.Logic.{inl}
use Prim.Native.Nat.{ℕ}
use lib.Dec.{T, eqb, eqb→eq}
use Rattle.patterns.specs.Format.{Format, binary64}
use Rattle.meaning.specs.Fraction.{Fraction}
use Rattle.meaning.specs.Sets.{at, Set, span}
use Rattle.meaning.specs.Pairs.{Pair, worth, both, set_of, Proper}
use Rattle.meaning.specs.Statement.{right₂, bare_good}
use Rattle.meaning.specs.Overlap.{State, both_empty, first_empty, second_empty, before, meets, overlaps, starts, contained_by, finishes, equals, finished_by, contains, started_by, overlapped_by, met_by, after, state_number, Conditions, number, Less, less_numbers, Same, same_numbers, OverlapOf}
use Rattle.meaning.proofs.PairLaws.{split, set_proper, end_finite}
use Rattle.uniqueness.specs.Order.{Keys}
use Rattle.uniqueness.proofs.KeyLaws.{by_keys, map_keys}
use Rattle.cases.specs.Rows.{RightState}
use Rattle.cases.proofs.Tests.{lt_test, eq_test, lt_tested, eq_tested, proper_test, proper_tested}
use Rattle.cases.proofs.RowTests.{bounded_test, bounded_tested}

abbrev conditions_test : State → (a b c d : Fraction) → Bool
conditions_test both_empty a b c d = false
conditions_test first_empty a b c d = false
conditions_test second_empty a b c d = false
conditions_test before a b c d = lt_test b c
conditions_test meets a b c d = both (lt_test a b) (both (eq_test b c) (lt_test c d))
conditions_test overlaps a b c d = both (lt_test a c) (both (lt_test c b) (lt_test b d))
conditions_test starts a b c d = both (eq_test a c) (lt_test b d)
conditions_test contained_by a b c d = both (lt_test c a) (lt_test b d)
conditions_test finishes a b c d = both (lt_test c a) (eq_test b d)
conditions_test equals a b c d = both (eq_test a c) (eq_test b d)
conditions_test finished_by a b c d = both (lt_test a c) (eq_test b d)
conditions_test contains a b c d = both (lt_test a c) (lt_test d b)
conditions_test started_by a b c d = both (eq_test a c) (lt_test d b)
conditions_test overlapped_by a b c d = both (lt_test c a) (both (lt_test a d) (lt_test d b))
conditions_test met_by a b c d = both (lt_test c d) (both (eq_test a d) (lt_test a b))
conditions_test after a b c d = lt_test d a

-- The conditions on tested fractions.
abbrev Tested : State → (a b c d : Fraction) → Type 0
Tested s a b c d = Conditions (λ x y. T (lt_test x y)) (λ x y. T (eq_test x y)) s a b c d

split₃ : (p q r : Bool) → T (both p (both q r)) → T p × T q × T r
split₃ p q r t = let s = split p (both q r) t in let k = split q r s.1 in (s.0, k.0, k.1)

conditions_tested : (s : State) (a b c d : Fraction) → T (conditions_test s a b c d) → Tested s a b c d
conditions_tested both_empty a b c d t = t
conditions_tested first_empty a b c d t = t
conditions_tested second_empty a b c d t = t
conditions_tested before a b c d t = t
conditions_tested meets a b c d t = split₃ (lt_test a b) (eq_test b c) (lt_test c d) t
conditions_tested overlaps a b c d t = split₃ (lt_test a c) (lt_test c b) (lt_test b d) t
conditions_tested starts a b c d t = split (eq_test a c) (lt_test b d) t
conditions_tested contained_by a b c d t = split (lt_test c a) (lt_test b d) t
conditions_tested finishes a b c d t = split (lt_test c a) (eq_test b d) t
conditions_tested equals a b c d t = split (eq_test a c) (eq_test b d) t
conditions_tested finished_by a b c d t = split (lt_test a c) (eq_test b d) t
conditions_tested contains a b c d t = split (lt_test a c) (lt_test d b) t
conditions_tested started_by a b c d t = split (eq_test a c) (lt_test d b) t
conditions_tested overlapped_by a b c d t = split₃ (lt_test c a) (lt_test a d) (lt_test d b) t
conditions_tested met_by a b c d t = split₃ (lt_test c d) (eq_test a d) (lt_test a b) t
conditions_tested after a b c d t = t

-- Tested fractions are ends in the order of extended numbers.
tested_keys : Keys (λ x y. T (lt_test x y)) (λ x y. T (eq_test x y)) Less Same (λ x e. number x ≡ e)
tested_keys = map_keys number (λ x y t. less_numbers (lt_tested x y t)) (λ x y t. same_numbers (eq_tested x y t))

abbrev pub state_test : Format → (x y : Pair) → State → ℕ → Bool
state_test F x y s n =
    both (both (proper_test F x) (bounded_test F x))
    (both (both (proper_test F y) (bounded_test F y))
    (both (conditions_test s (worth F x.lower) (worth F x.upper) (worth F y.lower) (worth F y.upper)) (eqb n (state_number s))))

pub bounded_set : (F : Format) (x : Pair) → T (both (proper_test F x) (bounded_test F x)) → Proper F x × (set_of F x ≡ span (at (worth F x.lower)) (at (worth F x.upper)))
bounded_set F x t =
    let s = split (proper_test F x) (bounded_test F x) t in
    let h = proper_tested F x s.0 in
    let f = bounded_tested F x s.1 in
    (h, set_proper F x h ∙ ap₂ span (end_finite F f.0) (end_finite F f.1))

pub state_tested : (x y : Pair) (s : State) (n : ℕ) → T (state_test binary64 x y s n) → RightState x y s n
state_tested x y s n t =
    let F = binary64 in
    let first = both (proper_test F x) (bounded_test F x) in
    let second = both (proper_test F y) (bounded_test F y) in
    let third = conditions_test s (worth F x.lower) (worth F x.upper) (worth F y.lower) (worth F y.upper) in
    let a = split first (both second (both third (eqb n (state_number s)))) t in
    let b = split second (both third (eqb n (state_number s))) a.1 in
    let c = split third (eqb n (state_number s)) b.1 in
    let h = bounded_set F x a.0 in
    let k = bounded_set F y b.0 in
    let holds : OverlapOf (set_of F x) (set_of F y) s =
    subst₂ (λ (X Y : Set). OverlapOf X Y s) (sym h.1) (sym k.1) (by_keys tested_keys refl refl refl refl s (conditions_tested s _ _ _ _ c.0)) in
    let numbered = eqb→eq n (state_number s) c.1 in
    record {
      holds = holds;
      numbered = numbered;
      answered =
          right₂ (bare_good (inl h.0)) (bare_good (inl k.0)) (record { state = s; holds = holds; is = numbered });
    }
