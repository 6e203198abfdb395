-- A test of each case, and that its success makes the case right.
use mathlib.Core.Bool.{Bool, not}
use mathlib.Core.Path.{◌≡◌, sym, ◌∙◌, ap, ap₂, subst⁻¹, subst₂}
use mathlib.Core.Logic.{inl, inr, ⊎_elim}
use native.Mathlib.Omega.{arith}
use borrow.Author.Tests.{eq-eqb}
use lib.Dec.{T, eqb, ltb, eqb→eq, ltb→lt, T_not}
use Rattle.patterns.specs.Format.{Format, infinity, sign_bit}
use Rattle.patterns.specs.Value.{Finite, opposite}
use Rattle.patterns.proofs.SignLaws.{finite_opposite, opposite_opposite}
use Rattle.meaning.specs.Fraction.{Fraction, ◌≈◌, negated}
use Rattle.meaning.specs.Sets.{at, Set, span, ordered}
use Rattle.meaning.specs.Points.{Unary, neg, abs, ceil, floor, round, round_ties_even, sign, trunc, Makes₁}
use Rattle.meaning.specs.Results.{Result₁, Result₂, point}
use Rattle.meaning.specs.Pairs.{Pair, worth, both, minus_infinity, Proper, Bare, set_of}
use Rattle.meaning.specs.Statement.{given, HullOf, Bare₁, Bare₂, right₁, right₂, bare_good}
use Rattle.meaning.specs.Supremum.{UpperEnd}
use Rattle.meaning.proofs.FractionLaws.{eq_refl}
use Rattle.meaning.proofs.PairLaws.{split, set_valid, set_proper, end_finite, worth_opposite, opposite_sign}
use Rattle.meaning.proofs.PatternHull.{pair_by}
use Rattle.points.specs.Functions.{Mirrors, ceil_floor, floor_ceil, round_round, even_even, sign_sign, trunc_trunc}
use Rattle.points.specs.Ends.{of_number}
use Rattle.points.proofs.Images.{rising_bounds, lower_made}
use Rattle.points.proofs.Exactly.{exact_number}
use Rattle.points.proofs.Answers.{answer}
use Rattle.theorem3.specs.Answer.{Arithmetic, binary, bounds_of}
use Rattle.theorem3.proofs.TrueBounds.{bounds_right}
use Rattle.cases.proofs.Tests.{either, of_either, finite_test, finite_tested, proper_test, proper_tested, answer_test, answer_tested}
use Rattle.cases.proofs.PointTests.{made_test, made_tested}

abbrev pub bare_test : Format → Pair → Bool
bare_test F p = either (proper_test F p) (both (eqb p.lower (infinity F)) (eqb p.upper (minus_infinity F)))

pub bare_tested : (F : Format) (p : Pair) → T (bare_test F p) → Bare F p
bare_tested F p t =
    ⊎_elim (λ h. inl (proper_tested F p h))
    (λ h. let s = split (eqb p.lower (infinity F)) (eqb p.upper (minus_infinity F)) h in
    inr (record { lower_is = eqb→eq p.lower (infinity F) s.0; upper_is = eqb→eq p.upper (minus_infinity F) s.1 }))
    (of_either (proper_test F p) (both (eqb p.lower (infinity F)) (eqb p.upper (minus_infinity F))) t)

-- Arithmetic on bare operands.
abbrev pub arithmetic_test : Format → Arithmetic → (x y z : Pair) → Bool
arithmetic_test F op x y z = both (bare_test F x) (both (bare_test F y) (answer_test F (bounds_of op (set_of F x) (set_of F y)) z))

pub arithmetic_hull : (F : Format) (op : Arithmetic) (x y z : Pair) → T (arithmetic_test F op x y z)
    → Bare F x × Bare F y × HullOf F (Result₂ (point (binary op)) (set_of F x) (set_of F y)) z
arithmetic_hull F op x y z t =
    let last = answer_test F (bounds_of op (set_of F x) (set_of F y)) z in
    let r = split (bare_test F x) (both (bare_test F y) last) t in
    let s = split (bare_test F y) last r.1 in
    let h = bare_tested F x r.0 in
    let k = bare_tested F y s.0 in
    (h, k, answer_tested F z (bounds_right op (set_valid F x h) (set_valid F y k)) s.1)

pub arithmetic_tested : (F : Format) (op : Arithmetic) (x y z : Pair) → T (arithmetic_test F op x y z) → Bare₂ F (point (binary op)) x y (given z)
arithmetic_tested F op x y z t = let h = arithmetic_hull F op x y z t in right₂ (bare_good h.0) (bare_good h.1) h.2

-- The integer functions, and each one's mirror.
pub data Stepping : Unary → Type 0 where
  stepping : {op other : Unary} → Mirrors op other → Stepping op

stepping_tested : (op : Unary) (x r : Fraction) → T (made_test op x r) → Stepping op
stepping_tested neg x r t = absurd t
stepping_tested abs x r t = absurd t
stepping_tested ceil x r t = stepping ceil_floor
stepping_tested floor x r t = stepping floor_ceil
stepping_tested round x r t = stepping round_round
stepping_tested round_ties_even x r t = stepping even_even
stepping_tested sign x r t = stepping sign_sign
stepping_tested trunc x r t = stepping trunc_trunc

-- An operand or an answer with two finite ends.
abbrev pub bounded_test : Format → Pair → Bool
bounded_test F p = both (finite_test F p.lower) (finite_test F p.upper)

abbrev zeros_test : Format → Pair → Bool
zeros_test F p = both (ltb 0 p.lower) (not (eqb p.upper (sign_bit F)))

abbrev ends_test : Format → Unary → (x z : Pair) → Bool
ends_test F op x z = both (made_test op (worth F x.lower) (worth F z.lower)) (made_test op (worth F x.upper) (worth F z.upper))

-- An integer function on a bounded operand.
abbrev pub step_test : Format → Unary → (x z : Pair) → Bool
step_test F op x z = both (proper_test F x) (both (bounded_test F x) (both (bounded_test F z) (both (zeros_test F z) (ends_test F op x z))))

pub bounded_tested : (F : Format) (p : Pair) → T (bounded_test F p) → Finite F p.lower × Finite F p.upper
bounded_tested F p t =
    let s = split (finite_test F p.lower) (finite_test F p.upper) t in
    (finite_tested F p.lower s.0, finite_tested F p.upper s.1)

zeros_tested : (F : Format) (p : Pair) → T (zeros_test F p) → (p.lower ≡ 0 → ⊥) × (p.upper ≡ sign_bit F → ⊥)
zeros_tested F p t =
    let s = split (ltb 0 p.lower) (not (eqb p.upper (sign_bit F))) t in (
      λ e. let l = ltb→lt 0 p.lower s.0 in omega arith,
      λ e. T_not (eqb p.upper (sign_bit F)) s.1 (subst⁻¹ T (eq-eqb p.upper (sign_bit F) e) tt),
    )

module _ (F : Format) (op : Unary) (x z : Pair) (h : Proper F x) (f : Finite F x.lower × Finite F x.upper)
    (g : Finite F z.lower × Finite F z.upper) (k : (z.lower ≡ 0 → ⊥) × (z.upper ≡ sign_bit F → ⊥)) where
  operand : set_of F x ≡ span (at (worth F x.lower)) (at (worth F x.upper))
  operand = set_proper F x h ∙ ap₂ span (end_finite F f.0) (end_finite F f.1)

  lower_up : UpperEnd F (at (negated (worth F z.lower))) (opposite F z.lower)
  lower_up =
      exact_number F (finite_opposite F g.0)
      (λ e. k.0 (sym (opposite_opposite F g.0.pattern) ∙ ap (opposite F) e ∙ opposite_sign F))
      (subst⁻¹ (λ (q : Fraction). q ≈ negated (worth F z.lower)) (worth_opposite F g.0.pattern) (eq_refl (negated (worth F z.lower))))

  step_hull : {other : Unary} → Mirrors op other → Makes₁ op (worth F x.lower) (worth F z.lower) → Makes₁ op (worth F x.upper) (worth F z.upper)
      → HullOf F (Result₁ op (set_of F x)) z
  step_hull m low high =
      subst₂ (λ (X : Set) (w : Pair). HullOf F (Result₁ op X) w) (sym operand) back
      (answer F (Result₁ op (span (at (worth F x.lower)) (at (worth F x.upper))))
      (rising_bounds m (ordered (h.in_order f.0 f.1)) (of_number high) (lower_made m (worth F x.lower) (worth F z.lower) low))
      (exact_number F g.1 k.1 (eq_refl (worth F z.upper))) lower_up)
    where
      back : pair_by F (opposite F z.lower) z.upper ≡ z
      back = λ i. record { lower = opposite_opposite F g.0.pattern i; upper = z.upper }

pub step_hull_tested : (F : Format) (op : Unary) (x z : Pair) → T (step_test F op x z) → HullOf F (Result₁ op (set_of F x)) z
step_hull_tested F op x z t =
    let a = split (proper_test F x) (both (bounded_test F x) (both (bounded_test F z) (both (zeros_test F z) (ends_test F op x z)))) t in
    let b = split (bounded_test F x) (both (bounded_test F z) (both (zeros_test F z) (ends_test F op x z))) a.1 in
    let c = split (bounded_test F z) (both (zeros_test F z) (ends_test F op x z)) b.1 in
    let d = split (zeros_test F z) (ends_test F op x z) c.1 in
    let e = split (made_test op (worth F x.lower) (worth F z.lower)) (made_test op (worth F x.upper) (worth F z.upper)) d.1 in
    go (proper_tested F x a.0) (bounded_tested F x b.0) (bounded_tested F z c.0) (zeros_tested F z d.0)
    (made_tested op (worth F x.lower) (worth F z.lower) e.0) (made_tested op (worth F x.upper) (worth F z.upper) e.1)
    (stepping_tested op (worth F x.lower) (worth F z.lower) e.0)
  where
    go : Proper F x → Finite F x.lower × Finite F x.upper → Finite F z.lower × Finite F z.upper
        → (z.lower ≡ 0 → ⊥) × (z.upper ≡ sign_bit F → ⊥)
        → Makes₁ op (worth F x.lower) (worth F z.lower) → Makes₁ op (worth F x.upper) (worth F z.upper)
        → Stepping op → HullOf F (Result₁ op (set_of F x)) z
    go h f g k low high (stepping m) = step_hull F op x z h f g k m low high

pub step_tested : (F : Format) (op : Unary) (x z : Pair) → T (step_test F op x z) → Bare₁ F op x (given z)
step_tested F op x z t =
    let s = split (proper_test F x) (both (bounded_test F x) (both (bounded_test F z) (both (zeros_test F z) (ends_test F op x z)))) t in
    right₁ (bare_good (inl (proper_tested F x s.0))) (step_hull_tested F op x z t)
