-- Demand 3 with the exactness of each end, for any format: the answer of theorem 3, and its flags, are the only ones.
use mathlib.Core.Bool.{Bool, true}
use mathlib.Core.Path.{◌≡◌}
use Prim.Native.Nat.{◌+◌, ◌*◌}
use Rattle.truth.specs.Answers.{Answers, affirmed, denied}
use Rattle.truth.proofs.AnswerLaws.{answers_eq}
use Rattle.patterns.specs.Format.{Format}
use Rattle.meaning.specs.Fraction.{Fraction}
use Rattle.meaning.specs.Sets.{End, at, unbounded, SameEnd, same_number, same_none}
use Rattle.meaning.specs.Pairs.{Pair, Bare, end_of, set_of}
use Rattle.meaning.specs.Points.{neg}
use Rattle.meaning.specs.Results.{point}
use Rattle.meaning.specs.Statement.{Outcome, given, right₁, right₂, bare_good}
use Rattle.meaning.specs.Exactness.{ExactPair, ExactHullOf, Exact₁, Exact₂}
use Rattle.meaning.proofs.PairLaws.{set_valid}
use Rattle.meaning.proofs.PatternHull.{hull_of_none}
use Rattle.meaning.proofs.ExactEnds.{UpperEndTold}
use Rattle.meaning.proofs.ExactLaws.{exact_of_ends, exact_of_none, exact₁_once, exact₂_once}
use Rattle.theorem3.specs.Answer.{Arithmetic, binary, Bounds, nothing, between, TrueBounds, no_results, some_results, bounds_of, bounds_of_neg}
use Rattle.theorem3.specs.Told.{same_by}
use Rattle.theorem3.proofs.TrueBounds.{bounds_right, neg_bounds_right}
use Rattle.theorem3.proofs.Rounding.{rounded}
use Rattle.theorem3.proofs.Theorem3.{answer}

-- Two ends are the same or not, and it can be told.
pub same_told : (u v : End) → Answers (SameEnd u v) (same_by u v)
same_told (at p) (at q) = answers_eq _ _ (λ e. same_number (record { eq = e })) (λ n h. n (number h))
  where
    number : SameEnd (at p) (at q) → p.up * q.over + q.down * p.over ≡ q.up * p.over + p.down * q.over
    number (same_number h) = h.eq
same_told (at p) unbounded = denied (λ h. elim h [ ])
same_told unbounded (at q) = denied (λ h. elim h [ ])
same_told unbounded unbounded = affirmed same_none

-- A true bound, and whether the pattern that it rounds to is it.
abbrev exact_by : Format → End → Bool
exact_by F u = same_by u (end_of F (rounded F u).0)

exact_by_lem : (F : Format) (u : End) → UpperEndTold F u (rounded F u).0 (exact_by F u)
exact_by_lem F u = record { rounded = (rounded F u).1; told = same_told u (end_of F (rounded F u).0) }

-- Theorem 3's answer with its flags.
pub exact_answer : Format → Bounds → ExactPair
exact_answer F nothing = record { pair = answer F nothing; lower_exact = true; upper_exact = true }
exact_answer F (between l u) = record { pair = answer F (between l u); lower_exact = exact_by F l; upper_exact = exact_by F u }

exact_right : (F : Format) {R : Fraction → Type 0} {B : Bounds} → TrueBounds R B → ExactHullOf F R (exact_answer F B)
unfolding exact_answer answer
exact_right F {R} (no_results none) = exact_of_none F R (hull_of_none F R none)
exact_right F {R} (some_results {l} {u} s m top bottom) = exact_of_ends F R top bottom (exact_by_lem F u) (exact_by_lem F l) s m

-- Sum, difference, product and quotient of two valid operands.
pub theorem3_exact : (F : Format) (op : Arithmetic) (x y : Pair) → Bare F x → Bare F y
    → Exact₂ F (point (binary op)) x y (given (exact_answer F (bounds_of op (set_of F x) (set_of F y))))
theorem3_exact F op x y h k = right₂ (bare_good h) (bare_good k) (exact_right F (bounds_right op (set_valid F x h) (set_valid F y k)))

-- Negation.
pub theorem3_exact_neg : (F : Format) (x : Pair) → Bare F x → Exact₁ F neg x (given (exact_answer F (bounds_of_neg (set_of F x))))
theorem3_exact_neg F x h = right₁ (bare_good h) (exact_right F (neg_bounds_right (set_valid F x h)))

-- Whatever meets the statement is theorem 3's answer, with its flags.
pub only_exact : (F : Format) (op : Arithmetic) (x y : Pair) → Bare F x → Bare F y → {o : Outcome ExactPair} → Exact₂ F (point (binary op)) x y o
    → o ≡ given (exact_answer F (bounds_of op (set_of F x) (set_of F y)))
only_exact F op x y h k stated = exact₂_once F (point (binary op)) x y stated (theorem3_exact F op x y h k)

pub only_exact_neg : (F : Format) (x : Pair) → Bare F x → {o : Outcome ExactPair} → Exact₁ F neg x o → o ≡ given (exact_answer F (bounds_of_neg (set_of F x)))
only_exact_neg F x h stated = exact₁_once F neg x stated (theorem3_exact_neg F x h)
