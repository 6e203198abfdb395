-- A test of each case with flags, and that its success makes the case right.
use mathlib.Core.Bool.{Bool, true, false, not}
use mathlib.Core.Path.{◌≡◌, refl, subst, subst⁻¹}
use Prim.Native.Nat.{ℕ}
use lib.Dec.{T, eqb, eqb→eq}
use Rattle.truth.specs.Answers.{Answers}
use Rattle.patterns.specs.Format.{Format, infinity}
use Rattle.patterns.specs.Value.{opposite}
use Rattle.meaning.specs.Fraction.{Fraction}
use Rattle.meaning.specs.Sets.{End, SameEnd}
use Rattle.meaning.specs.Points.{neg}
use Rattle.meaning.specs.Results.{Result₂, point}
use Rattle.meaning.specs.Pairs.{Pair, both, minus_infinity, Bare, end_of, set_of}
use Rattle.meaning.specs.Statement.{given, right₁, right₂, bare_good}
use Rattle.meaning.proofs.ExactEnds.{UpperEndTold}
use Rattle.meaning.specs.Exactness.{ExactPair, ExactHullOf, Exact₁, Exact₂}
use Rattle.meaning.proofs.PairLaws.{split, set_valid}
use Rattle.meaning.proofs.PatternHull.{hull_of_none}
use Rattle.meaning.proofs.ExactLaws.{exact_of_ends, exact_of_none}
use Rattle.theorem3.specs.Answer.{Arithmetic, binary, Bounds, nothing, between, TrueBounds, no_results, some_results, bounds_of, bounds_of_neg}
use Rattle.theorem3.specs.Told.{same_by}
use Rattle.theorem3.proofs.TrueBounds.{bounds_right, neg_bounds_right}
use Rattle.theorem3.proofs.ExactTheorem3.{same_told}
use Rattle.cases.proofs.Tests.{upper_test, upper_tested}
use Rattle.cases.proofs.RowTests.{bare_test, bare_tested}

-- A flag says what the other truth value says.
abbrev pub agrees : Bool → Bool → Bool
agrees true t = t
agrees false t = not t

pub agreed : (s t : Bool) → T (agrees s t) → s ≡ t
agreed true true h = refl
agreed true false h = absurd h
agreed false true h = absurd h
agreed false false h = refl

-- An upper end is rounded upward, and its flag is right.
abbrev end_test : Format → End → ℕ → Bool → Bool
end_test F u r t = both (upper_test F u r) (agrees t (same_by u (end_of F r)))

end_tested : (F : Format) (u : End) (r : ℕ) (t : Bool) → T (end_test F u r t) → UpperEndTold F u r t
end_tested F u r t h =
    let s = split (upper_test F u r) (agrees t (same_by u (end_of F r))) h in
    record {
      rounded = upper_tested F u r s.0;
      told = subst⁻¹ (Answers (SameEnd u (end_of F r))) (agreed t (same_by u (end_of F r)) s.1) (same_told u (end_of F r));
    }

-- An answer with flags is the outward rounding of true bounds.
abbrev pub flagged_test : Format → Bounds → ExactPair → Bool
flagged_test F nothing z =
    both (both (eqb z.pair.lower (infinity F)) (eqb z.pair.upper (minus_infinity F))) (both z.lower_exact z.upper_exact)
flagged_test F (between l u) z =
    both (eqb (opposite F (opposite F z.pair.lower)) z.pair.lower)
    (both (end_test F l (opposite F z.pair.lower) z.lower_exact) (end_test F u z.pair.upper z.upper_exact))

set : (t : Bool) → T t → t ≡ true
set true h = refl
set false h = absurd h

pub flagged_tested : (F : Format) {R : Fraction → Type 0} {B : Bounds} (z : ExactPair) → TrueBounds R B → T (flagged_test F B z) → ExactHullOf F R z
flagged_tested F {R} z (no_results none) t =
    let ends = both (eqb z.pair.lower (infinity F)) (eqb z.pair.upper (minus_infinity F)) in
    let s = split ends (both z.lower_exact z.upper_exact) t in
    let e = split (eqb z.pair.lower (infinity F)) (eqb z.pair.upper (minus_infinity F)) s.0 in
    let f = split z.lower_exact z.upper_exact s.1 in
    subst⁻¹ (ExactHullOf F R)
    (λ i. record {
      pair = record { lower = eqb→eq z.pair.lower (infinity F) e.0 i; upper = eqb→eq z.pair.upper (minus_infinity F) e.1 i };
      lower_exact = set z.lower_exact f.0 i;
      upper_exact = set z.upper_exact f.1 i;
    })
    (exact_of_none F R (hull_of_none F R none))
flagged_tested F {R} z (some_results {l} {u} r m top bottom) t =
    let lower = end_test F l (opposite F z.pair.lower) z.lower_exact in
    let upper = end_test F u z.pair.upper z.upper_exact in
    let s = split (eqb (opposite F (opposite F z.pair.lower)) z.pair.lower) (both lower upper) t in
    let k = split lower upper s.1 in
    subst (ExactHullOf F R)
    (λ i. record {
      pair = record { lower = eqb→eq (opposite F (opposite F z.pair.lower)) z.pair.lower s.0 i; upper = z.pair.upper };
      lower_exact = z.lower_exact;
      upper_exact = z.upper_exact;
    })
    (exact_of_ends F R top bottom (end_tested F u z.pair.upper z.upper_exact k.1) (end_tested F l (opposite F z.pair.lower) z.lower_exact k.0) r m)

-- Arithmetic on bare operands, with flags.
abbrev pub exact_test : Format → Arithmetic → (x y : Pair) → ExactPair → Bool
exact_test F op x y z = both (bare_test F x) (both (bare_test F y) (flagged_test F (bounds_of op (set_of F x) (set_of F y)) z))

pub exact_hull_tested : (F : Format) (op : Arithmetic) (x y : Pair) (z : ExactPair) → T (exact_test F op x y z)
    → Bare F x × Bare F y × ExactHullOf F (Result₂ (point (binary op)) (set_of F x) (set_of F y)) z
exact_hull_tested F op x y z t =
    let last = flagged_test F (bounds_of op (set_of F x) (set_of F y)) z in
    let r = split (bare_test F x) (both (bare_test F y) last) t in
    let s = split (bare_test F y) last r.1 in
    let h = bare_tested F x r.0 in
    let k = bare_tested F y s.0 in
    (h, k, flagged_tested F z (bounds_right op (set_valid F x h) (set_valid F y k)) s.1)

pub exact_tested : (F : Format) (op : Arithmetic) (x y : Pair) (z : ExactPair) → T (exact_test F op x y z) → Exact₂ F (point (binary op)) x y (given z)
exact_tested F op x y z t = let h = exact_hull_tested F op x y z t in right₂ (bare_good h.0) (bare_good h.1) h.2

-- Negation.
abbrev pub exact_neg_test : Format → (x : Pair) → ExactPair → Bool
exact_neg_test F x z = both (bare_test F x) (flagged_test F (bounds_of_neg (set_of F x)) z)

pub exact_neg_tested : (F : Format) (x : Pair) (z : ExactPair) → T (exact_neg_test F x z) → Exact₁ F neg x (given z)
exact_neg_tested F x z t =
    let s = split (bare_test F x) (flagged_test F (bounds_of_neg (set_of F x)) z) t in
    let h = bare_tested F x s.0 in
    right₁ (bare_good h) (flagged_tested F z (neg_bounds_right (set_valid F x h)) s.1)
