-- Tests that the checker computes, and what their success shows, for any format.
use mathlib.Core.Bool.{Bool, true, false}
use mathlib.Core.Path.{◌≡◌, refl, subst, subst⁻¹}
use mathlib.Core.Logic.{◌⊎◌, inl, inr, ⊎_elim}
use Prim.Native.Nat.{ℕ, ◌+◌, ◌-◌, ◌*◌, ◌^◌, ◌≤◌}
use native.Mathlib.Nat.{not-le_of_lt, lt_of_lt_of_le, mul-le-mul_right, lt_of_le_of_lt}
use native.Mathlib.Omega.{arith}
use borrow.Author.Tests.{eq-eqb, lt-ltb, le-leb}
use lib.Dec.{T, leb, ltb, eqb, leb→le, ltb→lt, eqb→eq}
use Rattle.patterns.specs.Format.{Format, infinity, sign_bit}
use Rattle.patterns.specs.Value.{Finite, magnitude, value, opposite}
use Rattle.patterns.specs.Rounding.{RoundsUp, RoundsDown}
use Rattle.patterns.proofs.ValueLaws.{value_mono}
use Rattle.meaning.specs.Fraction.{Fraction, ◌≼◌, ◌≺◌, ◌≈◌}
use Rattle.meaning.specs.Sets.{End, at, unbounded}
use Rattle.meaning.specs.Pairs.{Pair, worth, both, minus_infinity, Proper}
use Rattle.meaning.specs.Statement.{HullOf}
use Rattle.meaning.specs.Supremum.{UpperEnd}
use Rattle.meaning.proofs.PairLaws.{split}
use Rattle.meaning.proofs.PatternHull.{hull_of_ends, hull_of_none}
use Rattle.theorem3.proofs.Rounding.{end_not_negative, end_negative, end_vanishing, end_infinite}
use Rattle.theorem3.specs.Answer.{Bounds, nothing, between, TrueBounds, no_results, some_results}

abbrev pub either : Bool → Bool → Bool
either true b = true
either false b = b

pub of_either : (a b : Bool) → T (either a b) → T a ⊎ T b
of_either true b t = inl tt
of_either false b t = inr t

-- Order of fractions.
abbrev pub le_test : Fraction → Fraction → Bool
le_test x y = leb (x.up * y.over + y.down * x.over) (y.up * x.over + x.down * y.over)

abbrev pub lt_test : Fraction → Fraction → Bool
lt_test x y = ltb (x.up * y.over + y.down * x.over) (y.up * x.over + x.down * y.over)

abbrev pub eq_test : Fraction → Fraction → Bool
eq_test x y = eqb (x.up * y.over + y.down * x.over) (y.up * x.over + x.down * y.over)

pub le_tested : (x y : Fraction) → T (le_test x y) → x ≼ y
le_tested x y t = record { le = leb→le _ _ t }

pub lt_tested : (x y : Fraction) → T (lt_test x y) → x ≺ y
lt_tested x y t = record { lt = ltb→lt _ _ t }

pub eq_tested : (x y : Fraction) → T (eq_test x y) → x ≈ y
eq_tested x y t = record { eq = eqb→eq _ _ t }

pub eq_passes : (x y : Fraction) → x ≈ y → T (eq_test x y)
eq_passes x y e = subst⁻¹ T (eq-eqb _ _ e.eq) tt

pub le_passes : (x y : Fraction) → x ≼ y → T (le_test x y)
le_passes x y h = subst⁻¹ T (le-leb _ _ h.le) tt

pub lt_passes : (x y : Fraction) → x ≺ y → T (lt_test x y)
lt_passes x y h = subst⁻¹ T (lt-ltb _ _ h.lt) tt

-- Patterns and pairs.
abbrev pub finite_test : Format → ℕ → Bool
finite_test F b = both (ltb b (2 * sign_bit F)) (ltb (magnitude F b) (infinity F))

pub finite_tested : (F : Format) (b : ℕ) → T (finite_test F b) → Finite F b
finite_tested F b t =
    let s = split (ltb b (2 * sign_bit F)) (ltb (magnitude F b) (infinity F)) t in
    record { pattern = ltb→lt b (2 * sign_bit F) s.0; finite = ltb→lt (magnitude F b) (infinity F) s.1 }

abbrev end_test : Format → ℕ → ℕ → Bool
end_test F i b = either (finite_test F b) (eqb b i)

end_tested : (F : Format) (i b : ℕ) → T (end_test F i b) → Finite F b ⊎ (b ≡ i)
end_tested F i b t = ⊎_elim (λ h. inl (finite_tested F b h)) (λ h. inr (eqb→eq b i h)) (of_either (finite_test F b) (eqb b i) t)

abbrev pub proper_test : Format → Pair → Bool
proper_test F p =
    both (end_test F (minus_infinity F) p.lower)
    (both (end_test F (infinity F) p.upper) (le_test (worth F p.lower) (worth F p.upper)))

pub proper_tested : (F : Format) (p : Pair) → T (proper_test F p) → Proper F p
proper_tested F p t =
    let lower = end_test F (minus_infinity F) p.lower in
    let upper = end_test F (infinity F) p.upper in
    let order = le_test (worth F p.lower) (worth F p.upper) in
    let r = split lower (both upper order) t in
    let s = split upper order r.1 in
    record {
      lower_end = end_tested F (minus_infinity F) p.lower r.0;
      upper_end = end_tested F (infinity F) p.upper s.0;
      in_order = λ f g. le_tested (worth F p.lower) (worth F p.upper) s.1;
    }

-- The upward rounding of a magnitude n / d, by the pattern and the one below it.
abbrev up_test : Format → (n d b : ℕ) → Bool
up_test F n d b =
    both (leb b (infinity F))
    (both (either (leb (infinity F) b) (leb n (value F.frac b * d))) (either (eqb b 0) (ltb (value F.frac (b - 1) * d) n)))

up_tested : (F : Format) (n d b : ℕ) → T (up_test F n d b) → RoundsUp F n d b
up_tested F n d b t =
    let second = either (leb (infinity F) b) (leb n (value F.frac b * d)) in
    let third = either (eqb b 0) (ltb (value F.frac (b - 1) * d) n) in
    let r = split (leb b (infinity F)) (both second third) t in
    let s = split second third r.1 in
    record {
      within = leb→le b (infinity F) r.0;
      above = λ h.
          ⊎_elim (λ k. absurd (not-le_of_lt h (leb→le (infinity F) b k))) (λ k. leb→le n (value F.frac b * d) k)
          (of_either (leb (infinity F) b) (leb n (value F.frac b * d)) s.0);
      least = λ c h.
          ⊎_elim (λ k. let e = eqb→eq b 0 k in absurd (omega arith))
          (λ k. lt_of_le_of_lt (mul-le-mul_right d (value_mono F.frac {a = c} {b = b - 1} (omega arith))) (ltb→lt (value F.frac (b - 1) * d) n k))
          (of_either (eqb b 0) (ltb (value F.frac (b - 1) * d) n) s.1);
    }

-- The downward rounding, by the pattern and the one above it.
abbrev down_test : Format → (n d b : ℕ) → Bool
down_test F n d b =
    both (ltb b (infinity F))
    (both (leb (value F.frac b * d) n) (either (leb (infinity F) (b + 1)) (ltb n (value F.frac (b + 1) * d))))

down_tested : (F : Format) (n d b : ℕ) → T (down_test F n d b) → RoundsDown F n d b
down_tested F n d b t =
    let second = leb (value F.frac b * d) n in
    let third = either (leb (infinity F) (b + 1)) (ltb n (value F.frac (b + 1) * d)) in
    let r = split (ltb b (infinity F)) (both second third) t in
    let s = split second third r.1 in
    record {
      within = ltb→lt b (infinity F) r.0;
      below = leb→le (value F.frac b * d) n s.0;
      greatest = λ c h k.
          ⊎_elim (λ i. let l = leb→le (infinity F) (b + 1) i in absurd (omega arith))
          (λ i. lt_of_lt_of_le (ltb→lt n (value F.frac (b + 1) * d) i) (mul-le-mul_right d (value_mono F.frac {a = b + 1} {b = c} (omega arith))))
          (of_either (leb (infinity F) (b + 1)) (ltb n (value F.frac (b + 1) * d)) s.1);
    }

-- The upward rounding of an end.
abbrev pub upper_test : Format → End → ℕ → Bool
upper_test F (at q) r =
    either (both (leb q.down q.up) (up_test F ((q.up - q.down) * 2 ^ F.point) q.over r))
    (both (leb q.up q.down)
    (either (both (eqb r 0) (down_test F ((q.down - q.up) * 2 ^ F.point) q.over 0))
    (both (ltb (sign_bit F) r) (down_test F ((q.down - q.up) * 2 ^ F.point) q.over (r - sign_bit F)))))
upper_test F unbounded r = eqb r (infinity F)

pub upper_tested : (F : Format) (u : End) (r : ℕ) → T (upper_test F u r) → UpperEnd F u r
upper_tested F unbounded r t = subst⁻¹ (UpperEnd F unbounded) (eqb→eq r (infinity F) t) (end_infinite F)
upper_tested F (at q) r t = ⊎_elim not_negative negative (of_either (both high (up_test F n d r)) (both low (either (both (eqb r 0) (down_test F m d 0)) (both (ltb (sign_bit F) r) (down_test F m d (r - sign_bit F))))) t)
  where
    n : ℕ
    n = (q.up - q.down) * 2 ^ F.point

    m : ℕ
    m = (q.down - q.up) * 2 ^ F.point

    d : ℕ
    d = q.over

    high : Bool
    high = leb q.down q.up

    low : Bool
    low = leb q.up q.down

    not_negative : T (both high (up_test F n d r)) → UpperEnd F (at q) r
    not_negative k =
        let s = split high (up_test F n d r) k in end_not_negative F q (leb→le q.down q.up s.0) (up_tested F n d r s.1)

    vanishing : q.up ≤ q.down → T (both (eqb r 0) (down_test F m d 0)) → UpperEnd F (at q) r
    vanishing h k =
        let s = split (eqb r 0) (down_test F m d 0) k in
        subst⁻¹ (UpperEnd F (at q)) (eqb→eq r 0 s.0) (end_vanishing F q h refl (down_tested F m d 0 s.1))

    below : q.up ≤ q.down → T (both (ltb (sign_bit F) r) (down_test F m d (r - sign_bit F))) → UpperEnd F (at q) r
    below h k =
        let s = split (ltb (sign_bit F) r) (down_test F m d (r - sign_bit F)) k in
        let l = ltb→lt (sign_bit F) r s.0 in
        let e : sign_bit F + (r - sign_bit F) ≡ r = omega arith in
        subst (UpperEnd F (at q)) e (end_negative F q h (omega arith) (down_tested F m d (r - sign_bit F) s.1))

    negative : T (both low (either (both (eqb r 0) (down_test F m d 0)) (both (ltb (sign_bit F) r) (down_test F m d (r - sign_bit F))))) → UpperEnd F (at q) r
    negative k =
        let rest = either (both (eqb r 0) (down_test F m d 0)) (both (ltb (sign_bit F) r) (down_test F m d (r - sign_bit F))) in
        let s = split low rest k in
        let h = leb→le q.up q.down s.0 in
        ⊎_elim (vanishing h) (below h)
        (of_either (both (eqb r 0) (down_test F m d 0)) (both (ltb (sign_bit F) r) (down_test F m d (r - sign_bit F))) s.1)

-- A pair is the outward rounding of true bounds.
abbrev pub answer_test : Format → Bounds → Pair → Bool
answer_test F nothing z = both (eqb z.lower (infinity F)) (eqb z.upper (minus_infinity F))
answer_test F (between l u) z = both (eqb (opposite F (opposite F z.lower)) z.lower) (both (upper_test F l (opposite F z.lower)) (upper_test F u z.upper))

pub answer_tested : (F : Format) {R : Fraction → Type 0} {B : Bounds} (z : Pair) → TrueBounds R B → T (answer_test F B z) → HullOf F R z
answer_tested F {R} z (no_results none) t =
    let s = split (eqb z.lower (infinity F)) (eqb z.upper (minus_infinity F)) t in
    subst⁻¹ (HullOf F R) (λ i. record { lower = eqb→eq z.lower (infinity F) s.0 i; upper = eqb→eq z.upper (minus_infinity F) s.1 i })
    (hull_of_none F R none)
answer_tested F {R} z (some_results {l} {u} r m top bottom) t =
    let lower = upper_test F l (opposite F z.lower) in
    let upper = upper_test F u z.upper in
    let s = split (eqb (opposite F (opposite F z.lower)) z.lower) (both lower upper) t in
    let k = split lower upper s.1 in
    subst (HullOf F R) (λ i. record { lower = eqb→eq (opposite F (opposite F z.lower)) z.lower s.0 i; upper = z.upper })
    (hull_of_ends F R top bottom (upper_tested F u z.upper k.1) (upper_tested F l (opposite F z.lower) k.0) r m)
