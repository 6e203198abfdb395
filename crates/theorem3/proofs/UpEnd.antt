-- From upward rounding in whole numbers to upward rounding of ends.
use mathlib.Core.Bool.{Bool, true, false}
use mathlib.Core.Path.{◌≡◌, ap}
use Prim.Native.Nat.{ℕ, ◌+◌, ◌*◌, ◌^◌, ◌<◌, ◌≤◌}
use native.Mathlib.Nat.{eq_of_mul-eq-mul_right, mul-le-mul_right, le_of_mul-le-mul_right, mul-pos}
use native.Mathlib.Omega.{arith}
use lib.Dec.{lit<, ltb}
use lib.Pow.{pow_pos}
use Rattle.truth.specs.Answers.{Answers}
use Rattle.truth.proofs.AnswerLaws.{answers_iff}
use Rattle.patterns.specs.Format.{Format, sign_bit}
use Rattle.patterns.specs.Value.{plus, minus, value, magnitude, choose}
use Rattle.patterns.specs.Rounding.{Exact, NotAbove, Up, Reached, sum_of, product_of, quotient_of, divided}
use Rattle.meaning.specs.Fraction.{Fraction, ◌≼◌, ◌≈◌, ◌⊕◌, ◌⊗◌, whole}
use Rattle.meaning.specs.Sets.{at}
use Rattle.meaning.specs.Pairs.{worth}
use Rattle.meaning.specs.Hull.{OfFormat, EndOfFormat, format_number}
use Rattle.meaning.specs.Supremum.{at_most, UpperEnd}
use Rattle.meaning.proofs.FractionLaws.{le_trans, eq_le, eq_ge, eq_sym, eq_trans, mul_comm, mul_assoc, mul_one, mul_eq_left, mul_eq_right}
use Rattle.meaning.proofs.SupremumLaws.{at_most_lem}
use Rattle.theorem3.specs.Ends.{reciprocal}
use Rattle.theorem3.proofs.Scaling.{recip_times}

-- The exact value e, in units of the format, is the fraction q.
pub record Units (F : Format) (e : Exact) (q : Fraction) : Type 0 where
  pub some : 0 < e.over
  pub same : q.up * (e.over * 2 ^ F.point) + e.negative * q.over ≡ e.positive * q.over + q.down * (e.over * 2 ^ F.point)

-- The law over variables: t is 2 ^ point.
forward : (P N D t u d o p m : ℕ) → u * (D * t) + N * o ≡ P * o + d * (D * t) → P + m * D ≤ N + p * D → (u * t + m * o) * D ≤ (p * o + d * t) * D
forward P N D t u d o p m e h = omega (arith, mul-le-mul_right o h)

backward : (P N D t u d o p m : ℕ) → u * (D * t) + N * o ≡ P * o + d * (D * t) → u * t + m * o ≤ p * o + d * t → (P + m * D) * o ≤ (N + p * D) * o
backward P N D t u d o p m e h = omega (arith, mul-le-mul_right D h)

forward_same : (P N D t u d o p m : ℕ) → u * (D * t) + N * o ≡ P * o + d * (D * t) → P + m * D ≡ N + p * D → (u * t + m * o) * D ≡ (p * o + d * t) * D
forward_same P N D t u d o p m e h = omega (arith, ap (λ (k : ℕ). k * o) h)

backward_same : (P N D t u d o p m : ℕ) → u * (D * t) + N * o ≡ P * o + d * (D * t) → u * t + m * o ≡ p * o + d * t → (P + m * D) * o ≡ (N + p * D) * o
backward_same P N D t u d o p m e h = omega (arith, ap (λ (k : ℕ). k * D) h)

module _ (F : Format) {e : Exact} {q : Fraction} (units : Units F e q) where
  not_above_lem : (b : ℕ) → NotAbove F e b → q ≼ worth F b
  not_above_lem b h =
      record {
        le =
            le_of_mul-le-mul_right
            (forward e.positive e.negative e.over (2 ^ F.point) q.up q.down q.over (plus F b) (minus F b) units.same h.le)
            units.some;
      }

  above_not : (b : ℕ) → q ≼ worth F b → NotAbove F e b
  above_not b h =
      record {
        le =
            le_of_mul-le-mul_right
            (backward e.positive e.negative e.over (2 ^ F.point) q.up q.down q.over (plus F b) (minus F b) units.same h.le)
            q.positive;
      }

  -- The rounded pattern is the end q rounded upward.
  pub up_end : {r : ℕ} → Up F e r → UpperEnd F (at q) r
  up_end {r} up =
      record {
        upper = up.upper;
        above = λ f. at_most (not_above_lem r (up.above f));
        least = λ c f k. let l = up.least c f (above_not c (at_most_lem k)) in (l.0, worths c l.1);
      }
    where
      worths : (c : ℕ) → plus F r + minus F c ≤ plus F c + minus F r → worth F r ≼ worth F c
      worths c h = record { le = omega (arith, mul-le-mul_right (2 ^ F.point) h) }

  -- The exact value is the worth of some pattern exactly if the fraction is a number of the format.
  pub format_end : {x : Bool} → Answers (Reached F e) x → Answers (EndOfFormat F (at q)) x
  format_end = answers_iff forth (λ h. back (of_number h))
    where
      forth : Reached F e → EndOfFormat F (at q)
      forth h =
          format_number (record {
            pattern = h.pattern;
            is_finite = h.equals.finite;
            is = record {
              eq =
                  eq_of_mul-eq-mul_right e.over units.some _ _
                  (forward_same e.positive e.negative e.over (2 ^ F.point) q.up q.down q.over (plus F h.pattern) (minus F h.pattern) units.same h.equals.eq);
            };
          })

      of_number : EndOfFormat F (at q) → OfFormat F q
      of_number (format_number h) = h

      back : OfFormat F q → Reached F e
      back h = record {
        pattern = h.pattern;
        equals = record {
          finite = h.is_finite;
          eq =
              eq_of_mul-eq-mul_right q.over q.positive _ _
              (backward_same e.positive e.negative e.over (2 ^ F.point) q.up q.down q.over (plus F h.pattern) (minus F h.pattern) units.same h.is.eq);
        };
      }

-- Sums, products and quotients of two patterns' worths in units.
pub sum_units : (F : Format) (a b : ℕ) → Units F (sum_of F a b) (worth F a ⊕ worth F b)
unfolding sum_of ◌⊕◌
sum_units F a b = record { some = lit< tt; same = omega arith }

pub product_units : (F : Format) (a b : ℕ) → Units F (product_of F a b) (worth F a ⊗ worth F b)
unfolding product_of ◌⊗◌
product_units F a b = record { some = pow_pos F.point; same = omega arith }

-- An exact value as a fraction.
pub fraction_of : (F : Format) (e : Exact) → 0 < e.over → Fraction
fraction_of F e h = record { up = e.positive; down = e.negative; over = e.over * 2 ^ F.point; positive = mul-pos h (pow_pos F.point) }

pub fraction_units : (F : Format) (e : Exact) (h : 0 < e.over) → Units F e (fraction_of F e h)
unfolding fraction_of
fraction_units F e h = record { some = h; same = omega arith }

pub same_end : (F : Format) {p q : Fraction} {r : ℕ} → p ≈ q → UpperEnd F (at p) r → UpperEnd F (at q) r
same_end F e u =
    record {
      upper = u.upper;
      above = λ f. at_most (le_trans (eq_ge e) (at_most_lem (u.above f)));
      least = λ c f k. u.least c f (at_most (le_trans (eq_le e) (at_most_lem k)));
    }

-- A quotient times its divisor is the dividend, whatever the divisor's sign t.
divided_times : (t : Bool) (p m v s : ℕ) (h : 0 < (divided t (p * s) (m * s) v).over) (k : 0 < s)
    → ◌⊗◌ (record { up = (divided t (p * s) (m * s) v).positive; down = (divided t (p * s) (m * s) v).negative; over = (divided t (p * s) (m * s) v).over * s; positive = mul-pos h k })
    (record { up = choose t v 0; down = choose t 0 v; over = s; positive = k })
    ≈ record { up = p; down = m; over = s; positive = k }
unfolding ◌⊗◌
divided_times true p m v s h k = record { eq = omega arith }
divided_times false p m v s h k = record { eq = omega arith }

quotient_times : (F : Format) (a b : ℕ) (h : 0 < (quotient_of F a b).over) → fraction_of F (quotient_of F a b) h ⊗ worth F b ≈ worth F a
unfolding fraction_of quotient_of plus minus
quotient_times F a b h =
    divided_times (ltb b (sign_bit F)) (plus F a) (minus F a) (value F.frac (magnitude F b)) (2 ^ F.point) h (pow_pos F.point)

-- What a quotient is: the dividend times the divisor's reciprocal.
cancelled : (F : Format) (a b : ℕ) → (worth F b ≈ whole 0 → ⊥) → {q : Fraction} → q ⊗ worth F b ≈ worth F a → q ≈ worth F a ⊗ reciprocal (worth F b)
cancelled F a b z {q} e =
    let z' = reciprocal (worth F b) in
    eq_sym
    (eq_trans (mul_eq_right z' (eq_sym e))
    (eq_trans (mul_assoc q (worth F b) z')
    (eq_trans (mul_eq_left q (eq_trans (mul_comm (worth F b) z') (recip_times (worth F b) z))) (mul_one q))))

-- The rounded quotient of two patterns is their worths' quotient rounded upward.
pub quotient_end_lem : (F : Format) (a b : ℕ) {r : ℕ} → 0 < (quotient_of F a b).over → (worth F b ≈ whole 0 → ⊥) → Up F (quotient_of F a b) r
    → UpperEnd F (at (worth F a ⊗ reciprocal (worth F b))) r
quotient_end_lem F a b h z up = same_end F (cancelled F a b z (quotient_times F a b h)) (up_end F (fraction_units F (quotient_of F a b) h) up)

-- It is a number of the format exactly if some pattern is worth it.
same_format : (F : Format) {p q : Fraction} → p ≈ q → EndOfFormat F (at p) → EndOfFormat F (at q)
same_format F e (format_number h) = format_number (record { pattern = h.pattern; is_finite = h.is_finite; is = eq_trans (eq_sym e) h.is })

pub quotient_format : (F : Format) (a b : ℕ) {x : Bool} → 0 < (quotient_of F a b).over → (worth F b ≈ whole 0 → ⊥) → Answers (Reached F (quotient_of F a b)) x
    → Answers (EndOfFormat F (at (worth F a ⊗ reciprocal (worth F b)))) x
quotient_format F a b h z told =
    let e = cancelled F a b z (quotient_times F a b h) in
    answers_iff (same_format F e) (same_format F (eq_sym e)) (format_end F (fraction_units F (quotient_of F a b) h) told)
