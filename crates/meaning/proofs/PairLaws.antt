-- The sets that valid pairs of patterns stand for.
use mathlib.Core.Bool.{Bool, true, false}
use mathlib.Core.Path.{◌≡◌, refl, sym, ◌∙◌, ap, ap₂, subst}
use mathlib.Core.Logic.{◌⊎◌, inl, inr, ⊎_elim}
use Prim.Native.Nat.{ℕ, ◌+◌, ◌*◌, ◌^◌, ◌<◌, ◌≤◌, zero-le}
use native.Mathlib.Nat.{lt_of_le_of_lt, add-zero}
use native.Mathlib.Omega.{arith}
use borrow.Author.Tests.{lt-ltb, le-ltb, eq-eqb, ne_eqb}
use lib.Dec.{T, ltb, eqb}
use lib.Pow.{pow_pos}
use Rattle.patterns.specs.Format.{Format, infinity, sign_bit}
use Rattle.patterns.specs.Value.{Finite, magnitude, opposite}
use Rattle.patterns.proofs.SignLaws.{plus_opposite, minus_opposite, magnitude_opposite, infinity_below, magnitude_positive, magnitude_negative, opposite_positive, opposite_negative}
use Rattle.meaning.specs.Fraction.{Fraction, negated}
use Rattle.meaning.specs.Sets.{at, unbounded, empty, span, Ordered, ordered, no_lower, no_upper, Valid, valid_empty, valid_span, mirror_end}
use Rattle.meaning.specs.Pairs.{Pair, worth, minus_infinity, Proper, EmptyPair, Bare, end_by, end_of, both, set_by, set_of}

-- Both tests succeed.
pub split : (s t : Bool) → T (both s t) → T s × T t
split true t h = (tt, h)
split false t h = absurd h

-- A finite pattern bounds by its worth.
pub end_finite : (F : Format) {b : ℕ} → Finite F b → end_of F b ≡ at (worth F b)
unfolding end_of
end_finite F {b} f = ap (λ (t : Bool). end_by t (worth F b)) (lt-ltb (magnitude F b) (infinity F) f.finite)

not_below_lem : (F : Format) (b : ℕ) → infinity F ≤ magnitude F b → end_of F b ≡ unbounded
unfolding end_of
not_below_lem F b h = ap (λ (t : Bool). end_by t (worth F b)) (le-ltb (magnitude F b) (infinity F) h)

-- Neither infinity bounds anything.
pub end_infinity : (F : Format) → end_of F (infinity F) ≡ unbounded
end_infinity F = not_below_lem F (infinity F) (omega (arith, magnitude_positive F (infinity_below F)))

pub end_minus_infinity : (F : Format) → end_of F (minus_infinity F) ≡ unbounded
unfolding minus_infinity
end_minus_infinity F = not_below_lem F (sign_bit F + infinity F) (omega (arith, magnitude_negative F (infinity_below F)))

pub infinity_not_finite : (F : Format) → Finite F (infinity F) → ⊥
infinity_not_finite F f = omega (arith, f.finite, magnitude_positive F (infinity_below F))

pub minus_infinity_not_finite : (F : Format) → Finite F (minus_infinity F) → ⊥
unfolding minus_infinity
minus_infinity_not_finite F f = omega (arith, f.finite, magnitude_negative F (infinity_below F))

pub infinities_differ : (F : Format) → infinity F ≡ minus_infinity F → ⊥
unfolding minus_infinity
infinities_differ F h = omega (arith, infinity_below F)

pub opposite_infinity : (F : Format) → opposite F (infinity F) ≡ minus_infinity F
unfolding minus_infinity
opposite_infinity F = opposite_positive F (infinity_below F)

pub opposite_minus_infinity : (F : Format) → opposite F (minus_infinity F) ≡ infinity F
unfolding minus_infinity
opposite_minus_infinity F = opposite_negative F (infinity_below F)

sign_positive : (F : Format) → 0 < sign_bit F
sign_positive F = lt_of_le_of_lt zero-le (infinity_below F)

-- The two zeros are opposites.
pub opposite_zero : (F : Format) → opposite F 0 ≡ sign_bit F
opposite_zero F = opposite_positive F (sign_positive F) ∙ add-zero (sign_bit F)

pub opposite_sign : (F : Format) → opposite F (sign_bit F) ≡ 0
opposite_sign F = ap (opposite F) (sym (add-zero (sign_bit F))) ∙ opposite_negative F (sign_positive F)

-- The pattern with the other sign is worth the negative.
pub worth_opposite : (F : Format) {b : ℕ} → b < 2 * sign_bit F → worth F (opposite F b) ≡ negated (worth F b)
worth_opposite F {b} h =
    λ i. record {
      up = plus_opposite F h i;
      down = minus_opposite F h i;
      over = 2 ^ F.point;
      positive = pow_pos F.point;
    }

-- It bounds by the mirrored end.
pub end_opposite : (F : Format) {b : ℕ} → b < 2 * sign_bit F → end_of F (opposite F b) ≡ mirror_end (end_of F b)
unfolding end_of
end_opposite F {b} h =
    ap₂ (λ (m : ℕ) (q : Fraction). end_by (ltb m (infinity F)) q) (magnitude_opposite F h) (worth_opposite F h)
    ∙ mirrored (ltb (magnitude F b) (infinity F)) (worth F b)
  where
    mirrored : (t : Bool) (q : Fraction) → end_by t (negated q) ≡ mirror_end (end_by t q)
    mirrored true q = refl
    mirrored false q = refl

-- The lower end of a proper pair is not +inf.
pub lower_not_infinity : (F : Format) (p : Pair) → Proper F p → p.lower ≡ infinity F → ⊥
lower_not_infinity F p h e =
    ⊎_elim (λ f. infinity_not_finite F (subst (Finite F) e f)) (λ m. infinities_differ F (sym e ∙ m)) h.lower_end

-- A proper pair stands for what lies between its ends.
pub set_proper : (F : Format) (p : Pair) → Proper F p → set_of F p ≡ span (end_of F p.lower) (end_of F p.upper)
unfolding set_of
set_proper F p h =
    ap (λ (t : Bool). set_by (both t (eqb p.upper (minus_infinity F))) (span (end_of F p.lower) (end_of F p.upper)))
    (ne_eqb p.lower (infinity F) (lower_not_infinity F p h))

-- EMPTY's pair stands for nothing.
pub set_empty : (F : Format) (p : Pair) → EmptyPair F p → set_of F p ≡ empty
unfolding set_of
set_empty F p h =
    ap₂ (λ (t u : Bool). set_by (both t u) (span (end_of F p.lower) (end_of F p.upper)))
    (eq-eqb p.lower (infinity F) h.lower_is) (eq-eqb p.upper (minus_infinity F) h.upper_is)

-- The lower end of a proper pair, and the upper.
pub proper_lower : (F : Format) (p : Pair) → Proper F p
    → (Finite F p.lower × (end_of F p.lower ≡ at (worth F p.lower))) ⊎ (end_of F p.lower ≡ unbounded)
proper_lower F p h =
    ⊎_elim (λ f. inl (f, end_finite F f)) (λ m. inr (ap (end_of F) m ∙ end_minus_infinity F)) h.lower_end

pub proper_upper : (F : Format) (p : Pair) → Proper F p
    → (Finite F p.upper × (end_of F p.upper ≡ at (worth F p.upper))) ⊎ (end_of F p.upper ≡ unbounded)
proper_upper F p h =
    ⊎_elim (λ f. inl (f, end_finite F f)) (λ m. inr (ap (end_of F) m ∙ end_infinity F)) h.upper_end

-- The ends of a proper pair are in order.
pub proper_ordered : (F : Format) (p : Pair) → Proper F p → Ordered (end_of F p.lower) (end_of F p.upper)
proper_ordered F p h = go (proper_lower F p h) (proper_upper F p h)
  where
    go : (Finite F p.lower × (end_of F p.lower ≡ at (worth F p.lower))) ⊎ (end_of F p.lower ≡ unbounded)
        → (Finite F p.upper × (end_of F p.upper ≡ at (worth F p.upper))) ⊎ (end_of F p.upper ≡ unbounded)
        → Ordered (end_of F p.lower) (end_of F p.upper)
    go (inl f) (inl g) = rw (f.1, g.1) (ordered (h.in_order f.0 g.0))
    go (inr m) (inl g) = rw m no_lower
    go (inl f) (inr n) = rw n no_upper
    go (inr m) (inr n) = rw n no_upper

-- A valid pair stands for a valid set.
pub set_valid : (F : Format) (p : Pair) → Bare F p → Valid (set_of F p)
set_valid F p (inl h) = rw (set_proper F p h) (valid_span (proper_ordered F p h))
set_valid F p (inr h) = rw (set_empty F p h) valid_empty
