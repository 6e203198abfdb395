-- Numbers with a sign by their magnitudes.
use mathlib.Core.Bool.{Bool}
use mathlib.Core.Path.{◌≡◌, refl, sym, ◌∙◌, ap, subst, subst₂, subst⁻¹}
use mathlib.Core.Logic.{⊎_elim}
use Prim.Native.Nat.{ℕ, ◌+◌, ◌-◌, ◌*◌, ◌^◌, ◌<◌, ◌≤◌}
use native.Mathlib.Nat.{lt_trans}
use native.Mathlib.Omega.{arith}
use lib.Pow.{pow_pos}
use Rattle.patterns.specs.Format.{Format, infinity, sign_bit}
use Rattle.patterns.specs.Value.{value, magnitude, Finite}
use Rattle.patterns.proofs.ValueLaws.{value_zero, value_positive}
use Rattle.patterns.proofs.SignLaws.{infinity_below, magnitude_positive, magnitude_negative, opposite_positive, finite_positive, finite_negative, finite_cases}
use Rattle.meaning.specs.Fraction.{Fraction, ◌≼◌, ◌≺◌, ◌⊕◌, negated, whole, half, Whole}
use Rattle.meaning.specs.Points.{Unary, floor, sign, trunc, Makes₁}
use Rattle.meaning.specs.Pairs.{worth}
use Rattle.meaning.proofs.FractionLaws.{eq_sym}
use Rattle.meaning.proofs.PairLaws.{worth_opposite}
use Rattle.points.specs.Functions.{Mirrors}
use Rattle.points.proofs.PointLaws.{mirror_back, mirror_makes}
use Rattle.points.proofs.ZeroLaws.{sign_zero, sign_above, sign_same}
use Rattle.truth.specs.Answers.{Answers}
use Rattle.truth.proofs.AnswerLaws.{answers_iff}
use Rattle.wholes.specs.Made.{Number, Made, MadeMagnitude, NegativeOf}
use Rattle.wholes.proofs.EnclosureLaws.{parts, worth_magnitude, natural}
use Rattle.wholes.proofs.PickLaws.{floor_trunc}
use Rattle.wholes.proofs.SplitLaws.{one_finite, one_worth}

parts_positive : (o : ℕ) (pos : 0 < o) {v : ℕ} → 0 < v → whole 0 ≺ parts o pos v
parts_positive o pos h = record { lt = omega arith }

parts_not_negative : (o : ℕ) (pos : 0 < o) (v : ℕ) → whole 0 ≼ parts o pos v
parts_not_negative o pos v = record { le = omega arith }

-- One half more is a whole number on both sides of 0.
half_mirror : (x : Fraction) → Whole (x ⊕ half) → Whole (negated x ⊕ half)
unfolding ◌⊕◌
half_mirror x w = record { plus = w.minus + 1; minus = w.plus; is = omega (arith, w.is) }

module _ (F : Format) where
  pub positive_finite : {b : ℕ} → Finite F b → b < sign_bit F → b < infinity F
  positive_finite f l = subst (λ (m : ℕ). m < infinity F) (magnitude_positive F l) f.finite

  pub negative_finite : {b : ℕ} → Finite F b → sign_bit F ≤ b → b - sign_bit F < infinity F
  negative_finite f l =
      ⊎_elim (λ h. absurd (omega (arith, infinity_below F))) (λ (m, e, h). omega arith) (finite_cases F f)

  number_positive : {r : ℕ} → r < infinity F → Number F r
  number_positive f = record { finite = finite_positive F f; not_minus_zero = λ e. omega (arith, infinity_below F) }

  worth_negative : {m : ℕ} → m < infinity F → worth F (sign_bit F + m) ≡ negated (worth F m)
  worth_negative {m} f =
      let small : m < sign_bit F = lt_trans f (infinity_below F) in
      sym (ap (worth F) (opposite_positive F small)) ∙ worth_opposite F (omega arith)

  worth_zero : {m : ℕ} → m < infinity F → m ≡ 0 → worth F m ≡ parts (2 ^ F.point) (pow_pos F.point) 0
  worth_zero f e = worth_magnitude F f ∙ ap (parts (2 ^ F.point) (pow_pos F.point)) (ap (value F.frac) e ∙ value_zero F.frac)

  pub negative_zero : {m : ℕ} → m < infinity F → m ≡ 0 → NegativeOf F m 0
  negative_zero {m} f e =
      let none : 0 < infinity F = omega arith in
      record { number = number_positive none; is = worth_zero none refl ∙ sym (ap negated (worth_zero f e)) }

  pub negative_some : {m : ℕ} → m < infinity F → (m ≡ 0 → ⊥) → NegativeOf F m (sign_bit F + m)
  negative_some f n = record {
    number = record { finite = finite_negative F f; not_minus_zero = λ e. n (omega arith) };
    is = worth_negative f;
  }

  pub made_positive : {op : Unary} {b r : ℕ} → MadeMagnitude F op b r → Made F op b r
  made_positive m = record { number = number_positive m.finite; makes = m.makes }

  -- The negative of what the mirror makes of the magnitude.
  pub made_negative : {op other : Unary} {b r s : ℕ} → Mirrors op other → Finite F b → sign_bit F ≤ b
      → MadeMagnitude F other (b - sign_bit F) r → NegativeOf F r s → Made F op b s
  made_negative {op} {b = b} k f l m n = record {
    number = n.number;
    makes =
        subst₂ (Makes₁ op) (sym (worth_negative (negative_finite f l)) ∙ ap (worth F) (omega arith)) (sym n.is)
        (mirror_makes (mirror_back k) _ _ m.makes);
  }

  pub trunc_made : {m r : ℕ} → m < infinity F → MadeMagnitude F floor m r → MadeMagnitude F trunc m r
  trunc_made {m} f h = record {
    finite = h.finite;
    makes = floor_trunc (subst⁻¹ (λ (x : Fraction). whole 0 ≼ x) (worth_magnitude F f) (parts_not_negative _ _ (value F.frac m))) h.makes;
  }

  pub sign_none : {m : ℕ} → m < infinity F → m ≡ 0 → MadeMagnitude F sign m 0
  sign_none f e =
      let none : 0 < infinity F = omega arith in
      record {
        finite = none;
        makes =
            sign_same (sign_zero (natural F 0 f (ap (value F.frac) e ∙ value_zero F.frac ∙ omega arith)))
            (eq_sym (natural F 0 none (value_zero F.frac ∙ omega arith)));
      }

  pub sign_some : F.frac + 1 ≤ F.point → {m : ℕ} → m < infinity F → (m ≡ 0 → ⊥)
      → MadeMagnitude F sign m ((F.point - F.frac + 1) * 2 ^ F.frac)
  sign_some fine {m} f n = record {
    finite = one_finite F;
    makes =
        sign_same
        (sign_above (subst⁻¹ (λ (x : Fraction). whole 0 ≺ x) (worth_magnitude F f) (parts_positive _ _ (value_positive F.frac (omega arith)))))
        (eq_sym (one_worth F fine));
  }

  -- The fractional part of a number is one half if that of its magnitude is.
  pub half_magnitude : {b : ℕ} {t : Bool} → Finite F b → Answers (Whole (worth F (magnitude F b) ⊕ half)) t → Answers (Whole (worth F b ⊕ half)) t
  half_magnitude {b} {t} f = ⊎_elim positive negative (finite_cases F f)
    where
      positive : b < infinity F → Answers (Whole (worth F (magnitude F b) ⊕ half)) t → Answers (Whole (worth F b ⊕ half)) t
      positive h =
          subst (λ (m : ℕ). Answers (Whole (worth F m ⊕ half)) t → Answers (Whole (worth F b ⊕ half)) t)
          (sym (magnitude_positive F (lt_trans h (infinity_below F)))) (λ a. a)

      negative : (m : ℕ) × (sign_bit F + m ≡ b) × (m < infinity F) → Answers (Whole (worth F (magnitude F b) ⊕ half)) t → Answers (Whole (worth F b ⊕ half)) t
      negative (m, e, h) =
          subst (λ (b : ℕ). Answers (Whole (worth F (magnitude F b) ⊕ half)) t → Answers (Whole (worth F b ⊕ half)) t) e
          (subst₂ (λ (k : ℕ) (y : Fraction). Answers (Whole (worth F k ⊕ half)) t → Answers (Whole (y ⊕ half)) t)
          (sym (magnitude_negative F (lt_trans h (infinity_below F)))) (sym (worth_negative h)) (answers_iff (half_mirror (worth F m)) (half_mirror (negated (worth F m)))))
