-- Exact ends: which flags are right beside true bounds, that they are the only ones, and what is left without them.
use mathlib.Core.Bool.{Bool, true}
use mathlib.Core.Path.{◌≡◌, refl, subst⁻¹}
use Prim.Native.Nat.{ℕ}
use Rattle.truth.specs.Answers.{Answers, affirmed}
use Rattle.truth.proofs.AnswerLaws.{answers_iff, answers_once}
use Rattle.patterns.specs.Format.{Format}
use Rattle.meaning.specs.Fraction.{Fraction}
use Rattle.meaning.specs.Sets.{End, Set, empty, span, SameEnd, mirror_end}
use Rattle.meaning.specs.Pairs.{Pair, empty_pair, end_of, set_of}
use Rattle.meaning.specs.Supremum.{Supremum, Mirrored}
use Rattle.meaning.specs.Points.{Unary}
use Rattle.meaning.specs.Results.{Operation, Result₁, Result₂}
use Rattle.meaning.specs.Statement.{Outcome, refused, given, first₁, right₁, first₂, second₂, right₂, HullOf, Bare₁, Bare₂}
use Rattle.meaning.specs.Exactness.{ExactUpper, of_empty, true_bound, ExactLower, ExactPair, ExactHullOf, Exact₁, Exact₂}
use Rattle.meaning.proofs.SetLaws.{mirror_end_twice}
use Rattle.meaning.proofs.ExactEnds.{UpperEndTold}
use Rattle.meaning.proofs.SupremumLaws.{sup_same, supremum_once}
use Rattle.meaning.proofs.PairLaws.{set_empty}
use Rattle.meaning.proofs.PatternHull.{pair_by, hull_of_ends, set_of_ends}
use Rattle.meaning.proofs.Unique.{judged_bare_once, hull_once, one_answer₁, one_answer₂}

pub true_bound_lem : {R : Fraction → Type 0} {lower upper : End} → ExactUpper R (span lower upper) → Supremum R upper
true_bound_lem (true_bound s) = s

-- Beside the true bound u, an end is exact exactly if it is the same.
upper_told : {R : Fraction → Type 0} {u e lower : End} {t : Bool} → Supremum R u → Answers (SameEnd u e) t → Answers (ExactUpper R (span lower e)) t
upper_told s = answers_iff (λ same. true_bound (sup_same same s)) (λ exact. supremum_once s (true_bound_lem exact))

-- True bounds of results, of which there are some, rounded outward as patterns with their flags are the right answer.
module _ (F : Format) (R : Fraction → Type 0) {u l : End} {lo hi : ℕ} {s t : Bool}
    (top : Supremum R u) (bottom : Supremum (Mirrored R) l) (up : UpperEndTold F u hi t) (down : UpperEndTold F l lo s) (r : Fraction) (some : R r) where
  is : set_of F (pair_by F lo hi) ≡ span (mirror_end (end_of F lo)) (end_of F hi)
  is = set_of_ends F R top bottom up.rounded down.rounded r some

  pub exact_of_ends : ExactHullOf F R (record { pair = pair_by F lo hi; lower_exact = s; upper_exact = t })
  exact_of_ends =
      record {
        answer = hull_of_ends F R top bottom up.rounded down.rounded r some;
        lower =
            subst⁻¹ (λ (Z : Set). Answers (ExactLower R Z) s) is
            (upper_told bottom (subst⁻¹ (λ (e : End). Answers (SameEnd l e) s) (mirror_end_twice (end_of F lo)) down.told));
        upper = subst⁻¹ (λ (Z : Set). Answers (ExactUpper R Z) t) is (upper_told top up.told);
      }

-- Where EMPTY is the hull, it is the right answer with both flags.
abbrev pub exact_empty : Format → ExactPair
exact_empty F = record { pair = empty_pair F; lower_exact = true; upper_exact = true }

pub exact_of_none : (F : Format) (R : Fraction → Type 0) → HullOf F R (empty_pair F) → ExactHullOf F R (exact_empty F)
exact_of_none F R hull =
    record {
      answer = hull;
      lower = affirmed (subst⁻¹ (ExactLower R) is of_empty);
      upper = affirmed (subst⁻¹ (ExactUpper R) is of_empty);
    }
  where
    is : set_of F (empty_pair F) ≡ empty
    is = set_empty F (empty_pair F) (record { lower_is = refl; upper_is = refl })

-- One right answer with its flags.
pub exact_once : (F : Format) (R : Fraction → Type 0) (z w : ExactPair) → ExactHullOf F R z → ExactHullOf F R w → z ≡ w
exact_once F R z w h k =
    let same : z.pair ≡ w.pair = hull_once F R z.pair w.pair h.answer k.answer in
    record_of same
    (answers_once (ExactLower R (set_of F z.pair)) z.lower_exact w.lower_exact h.lower (subst⁻¹ (λ (p : Pair). Answers (ExactLower R (set_of F p)) w.lower_exact) same k.lower))
    (answers_once (ExactUpper R (set_of F z.pair)) z.upper_exact w.upper_exact h.upper (subst⁻¹ (λ (p : Pair). Answers (ExactUpper R (set_of F p)) w.upper_exact) same k.upper))
  where
    record_of : {p q : Pair} {a b c d : Bool} → p ≡ q → a ≡ c → b ≡ d
        → ◌≡◌ {A = ExactPair} (record { pair = p; lower_exact = a; upper_exact = b }) (record { pair = q; lower_exact = c; upper_exact = d })
    record_of e f g = λ i. record { pair = e i; lower_exact = f i; upper_exact = g i }

pub exact₁_once : (F : Format) (op : Unary) (x : Pair) {o p : Outcome ExactPair} → Exact₁ F op x o → Exact₁ F op x p → o ≡ p
exact₁_once F op x = one_answer₁ (judged_bare_once F x) (exact_once F (Result₁ op (set_of F x)))

pub exact₂_once : (F : Format) (op : Operation) (x y : Pair) {o p : Outcome ExactPair} → Exact₂ F op x y o → Exact₂ F op x y p → o ≡ p
exact₂_once F op x y = one_answer₂ (judged_bare_once F) (exact_once F (Result₂ op (set_of F x) (set_of F y)))

-- Without its flags the outcome is that of the operation that reports none.
abbrev pub bare_outcome : Outcome ExactPair → Outcome Pair
bare_outcome (refused r) = refused r
bare_outcome (given z) = given z.pair

pub exact₁_bare : (F : Format) (op : Unary) (x : Pair) {o : Outcome ExactPair} → Exact₁ F op x o → Bare₁ F op x (bare_outcome o)
exact₁_bare F op x (first₁ j) = first₁ j
exact₁_bare F op x (right₁ j r) = right₁ j r.answer

pub exact₂_bare : (F : Format) (op : Operation) (x y : Pair) {o : Outcome ExactPair} → Exact₂ F op x y o → Bare₂ F op x y (bare_outcome o)
exact₂_bare F op x y (first₂ j) = first₂ j
exact₂_bare F op x y (second₂ j k) = second₂ j k
exact₂_bare F op x y (right₂ j k r) = right₂ j k r.answer
