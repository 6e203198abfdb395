-- The order of keys is the order of values.
use mathlib.Core.Bool.{Bool}
use mathlib.Core.Path.{◌≡◌, refl, sym, ◌∙◌, ap, subst}
use mathlib.Core.Logic.{◌⊎◌, inl, inr, ⊎_elim}
use Prim.Native.Nat.{ℕ, ◌+◌, ◌*◌, ◌-◌, ◌^◌, ◌<◌, ◌≤◌}
use native.Mathlib.Omega.{arith}
use native.Mathlib.Nat.{mul-le-mul_right, mul-lt-mul_of_pos_right}
use borrow.Author.Tests.{lt-ltb, le-ltb}
use lib.Dec.{leb}
use lib.Pow.{pow_pos}
use Rattle.patterns.specs.Format.{Format, infinity, sign_bit}
use Rattle.patterns.specs.Value.{value, plus, minus, choose, Finite}
use Rattle.patterns.proofs.UpLaws.{infinity_positive}
use Rattle.patterns.proofs.ValueLaws.{le_or_lt, value_zero, value_mono, value_strict, value_positive}
use Rattle.patterns.proofs.SignLaws.{infinity_below, signed, finite_cases, plus_positive, minus_positive, plus_negative, minus_negative}
use Rattle.meaning.specs.Fraction.{◌≼◌, ◌≺◌, ◌≈◌, whole}
use Rattle.meaning.specs.Pairs.{worth, minus_infinity}
use Rattle.meaning.proofs.FractionLaws.{antisymm, eq_ge, eq_le, eq_trans, le_lt_trans, lt_le_trans, lt_not_le}
use Rattle.truth.specs.Answers.{Answers}
use Rattle.end_pairs.specs.Keys.{key_of}
use Rattle.truth.proofs.AnswerLaws.{answers_le}

pub key_below : (F : Format) {b : ℕ} → b < sign_bit F → key_of F b ≡ sign_bit F + b
unfolding key_of
key_below F {b} h = ap (λ (t : Bool). choose t (sign_bit F + b) (2 * sign_bit F - b)) (lt-ltb b (sign_bit F) h)

pub key_above : (F : Format) {b : ℕ} → sign_bit F ≤ b → key_of F b ≡ 2 * sign_bit F - b
unfolding key_of
key_above F {b} h = ap (λ (t : Bool). choose t (sign_bit F + b) (2 * sign_bit F - b)) (le-ltb b (sign_bit F) h)

sign_positive : (F : Format) → 0 < sign_bit F
sign_positive F = omega (arith, infinity_below F)

worth_zero : (F : Format) → worth F 0 ≈ whole 0
worth_zero F =
    record { eq = omega (arith, plus_positive F (sign_positive F), minus_positive F (sign_positive F), value_zero F.frac) }

-- A pattern as the difference of two magnitudes, of which one is 0.
record Stands (F : Format) (b up down : ℕ) : Type 0 where
  is_plus : plus F b ≡ value F.frac up
  is_minus : minus F b ≡ value F.frac down
  is_key : key_of F b + down ≡ sign_bit F + up
  one_sign : (up ≡ 0) ⊎ (down ≡ 0)

stands : (F : Format) (b : ℕ) → b < 2 * sign_bit F → (up down : ℕ) × Stands F b up down
stands F b small = ⊎_elim positive negative (signed F small)
  where
    positive : b < sign_bit F → (up down : ℕ) × Stands F b up down
    positive h = (
      b,
      0,
      record {
        is_plus = plus_positive F h;
        is_minus = minus_positive F h ∙ sym (value_zero F.frac);
        is_key = omega (arith, key_below F h);
        one_sign = inr refl;
      },
    )

    negative : (m : ℕ) × (sign_bit F + m ≡ b) × (m < sign_bit F) → (up down : ℕ) × Stands F b up down
    negative (m, e, h) =
        subst (λ (c : ℕ). (up down : ℕ) × Stands F c up down) e (
          0,
          m,
          record {
            is_plus = plus_negative F h ∙ sym (value_zero F.frac);
            is_minus = minus_negative F h;
            is_key = omega (arith, key_above F {b = sign_bit F + m} (omega arith));
            one_sign = inl refl;
          },
        )

some_value : (h : ℕ) {a b : ℕ} → (0 < a) ⊎ (0 < b) → 0 < value h a + value h b
some_value h (inl l) = omega (arith, value_positive h l)
some_value h (inr l) = omega (arith, value_positive h l)

module _ (h : ℕ) {up down up' down' : ℕ} where
  le_values : (up ≡ 0) ⊎ (down ≡ 0) → (up' ≡ 0) ⊎ (down' ≡ 0) → up + down' ≤ up' + down
      → value h up + value h down' ≤ value h up' + value h down
  le_values (inl p) (inl q) l =
      omega (arith, ap (value h) p, ap (value h) q, value_mono h {a = down'} {b = down} (omega arith))
  le_values (inl p) (inr q) l = omega (arith, ap (value h) p, ap (value h) q, value_zero h)
  le_values (inr p) (inl q) l =
      omega (arith, ap (value h) {x = up} {y = 0} (omega arith), ap (value h) {x = down'} {y = 0} (omega arith), value_zero h)
  le_values (inr p) (inr q) l =
      omega (arith, ap (value h) p, ap (value h) q, value_mono h {a = up} {b = up'} (omega arith))

  lt_values : (up ≡ 0) ⊎ (down ≡ 0) → (up' ≡ 0) ⊎ (down' ≡ 0) → up + down' < up' + down
      → value h up + value h down' < value h up' + value h down
  lt_values (inl p) (inl q) l =
      omega (arith, ap (value h) p, ap (value h) q, value_strict h {a = down'} {b = down} (omega arith))
  lt_values (inl p) (inr q) l =
      omega (
        arith,
        ap (value h) p,
        ap (value h) q,
        value_zero h,
        some_value h {a = up'} {b = down} (⊎_elim (λ e. inr (omega arith)) inl (le_or_lt up' 0)),
      )
  lt_values (inr p) (inl q) l = omega arith
  lt_values (inr p) (inr q) l =
      omega (arith, ap (value h) p, ap (value h) q, value_strict h {a = up} {b = up'} (omega arith))

module _ (F : Format) {a b : ℕ} (p : a < 2 * sign_bit F) (q : b < 2 * sign_bit F) where
  signed_le : key_of F a ≤ key_of F b → plus F a + minus F b ≤ plus F b + minus F a
  signed_le l =
      let (u, d, s) = stands F a p in
      let (u', d', t) = stands F b q in
      omega (arith, le_values F.frac s.one_sign t.one_sign (omega (arith, s.is_key, t.is_key)), s.is_plus, s.is_minus, t.is_plus, t.is_minus)

  signed_lt : key_of F a < key_of F b → plus F a + minus F b < plus F b + minus F a
  signed_lt l =
      let (u, d, s) = stands F a p in
      let (u', d', t) = stands F b q in
      omega (arith, lt_values F.frac s.one_sign t.one_sign (omega (arith, s.is_key, t.is_key)), s.is_plus, s.is_minus, t.is_plus, t.is_minus)

  pub key_le : key_of F a ≤ key_of F b → worth F a ≼ worth F b
  key_le l = record { le = omega (arith, mul-le-mul_right (2 ^ F.point) (signed_le l)) }

  pub key_lt : key_of F a < key_of F b → worth F a ≺ worth F b
  key_lt l = record { lt = omega (arith, mul-lt-mul_of_pos_right (signed_lt l) (pow_pos F.point)) }

pub answers_keys : (F : Format) {a b : ℕ} → a < 2 * sign_bit F → b < 2 * sign_bit F
    → Answers (worth F a ≼ worth F b) (leb (key_of F a) (key_of F b))
answers_keys F {a} {b} p q = answers_le (key_of F a) (key_of F b) (key_le F p q) (λ l h. lt_not_le (key_lt F q p l) h)

-- The key of 0 is the sign bit, and keys below and above it are those of negative and positive values.
key_zero : (F : Format) → key_of F 0 ≡ sign_bit F
key_zero F = key_below F (sign_positive F) ∙ omega arith

module _ (F : Format) {b : ℕ} (p : b < 2 * sign_bit F) where
  zero_pattern : 0 < 2 * sign_bit F
  zero_pattern = omega (arith, sign_positive F)

  pub below_zero_lem : key_of F b < sign_bit F → worth F b ≺ whole 0
  below_zero_lem l = lt_le_trans (key_lt F p zero_pattern (omega (arith, key_zero F))) (eq_le (worth_zero F))

  pub above_zero_lem : sign_bit F < key_of F b → whole 0 ≺ worth F b
  above_zero_lem l = le_lt_trans (eq_ge (worth_zero F)) (key_lt F zero_pattern p (omega (arith, key_zero F)))

  pub at_zero_lem : key_of F b ≡ sign_bit F → worth F b ≈ whole 0
  at_zero_lem e =
      eq_trans
      (antisymm (key_le F p zero_pattern (omega (arith, key_zero F))) (key_le F zero_pattern p (omega (arith, key_zero F))))
      (worth_zero F)

pub key_infinity : (F : Format) → key_of F (infinity F) ≡ sign_bit F + infinity F
key_infinity F = key_below F (infinity_below F)

pub key_minus_infinity : (F : Format) → key_of F (minus_infinity F) + infinity F ≡ sign_bit F
unfolding minus_infinity
key_minus_infinity F = omega (arith, key_above F {b = sign_bit F + infinity F} (omega arith), infinity_below F)

pub infinite_keys : (F : Format) → key_of F (minus_infinity F) < key_of F (infinity F)
infinite_keys F = omega (arith, key_infinity F, key_minus_infinity F, infinity_positive F)

-- The keys of finite patterns lie between those of the infinities.
pub finite_keys : (F : Format) {b : ℕ} → Finite F b
    → (key_of F (minus_infinity F) < key_of F b) × (key_of F b < key_of F (infinity F))
finite_keys F {b} f = ⊎_elim positive negative (finite_cases F f)
  where
    positive : b < infinity F → (key_of F (minus_infinity F) < key_of F b) × (key_of F b < key_of F (infinity F))
    positive h = omega (arith, key_below F {b = b} (omega (arith, infinity_below F)), key_infinity F, key_minus_infinity F)

    negative : (m : ℕ) × (sign_bit F + m ≡ b) × (m < infinity F)
        → (key_of F (minus_infinity F) < key_of F b) × (key_of F b < key_of F (infinity F))
    negative (m, e, h) = omega (arith, key_above F {b = b} (omega arith), infinity_below F, key_infinity F, key_minus_infinity F)
