-- The laws of sign, trunc and abs, whose results are told by the side of zero that x is on.
use mathlib.Core.Logic.{⊎_elim}
use native.Mathlib.Omega.{arith}
use Rattle.meaning.specs.Fraction.{Fraction, ◌≼◌, ◌≺◌, ◌≈◌, negated, whole, Whole}
use Rattle.meaning.specs.Points.{Ceil, Floor, Abs, Sign, Trunc}
use Rattle.meaning.proofs.FractionLaws.{le_refl, le_trans, lt_le, le_or_lt, le_or_le, lt_not_le, eq_refl, eq_le, eq_ge, eq_sym, eq_trans, antisymm, neg_le, neg_lt, neg_eq}
use Rattle.points.specs.Functions.{Monotone, Total}
use Rattle.points.proofs.WholeLaws.{is_whole_lem}
use Rattle.points.proofs.FloorLaws.{floor_ceil_lem, ceil_floor_lem, floor_monotone, ceil_monotone, floor_same, ceil_same, floor_whole, ceil_whole, floor_total}

-- A fact about x is shown below, at and above zero.
pub by_side : {A : Type 0} (x : Fraction) → (x ≺ whole 0 → A) → (x ≈ whole 0 → A) → (whole 0 ≺ x → A) → A
by_side x below zero above =
    ⊎_elim (λ h. ⊎_elim (λ k. zero (antisymm h k)) below (le_or_lt (whole 0) x)) above (le_or_lt x (whole 0))

pub zero_negated : {x : Fraction} → whole 0 ≼ x → x ≼ whole 0 → x ≈ negated x
zero_negated h k = eq_trans (antisymm k h) (neg_eq (antisymm h k))

pub zero_whole : {x : Fraction} → whole 0 ≼ x → x ≼ whole 0 → Whole x
zero_whole h k = is_whole_lem 0 0 (antisymm k h)

pub sign_mirror : {x r : Fraction} → Sign x r → Sign (negated x) (negated r)
sign_mirror g = record {
  of_positive = λ h. neg_eq (g.of_negative (neg_lt h));
  of_zero = λ e. neg_eq (g.of_zero (neg_eq e));
  of_negative = λ h. neg_eq (g.of_positive (neg_lt h));
}

pub sign_same : {x r s : Fraction} → Sign x r → r ≈ s → Sign x s
sign_same g e = record {
  of_positive = λ h. eq_trans (eq_sym e) (g.of_positive h);
  of_zero = λ h. eq_trans (eq_sym e) (g.of_zero h);
  of_negative = λ h. eq_trans (eq_sym e) (g.of_negative h);
}

pub sign_above : {x : Fraction} → whole 0 ≺ x → Sign x (whole 1)
sign_above h = record {
  of_positive = λ k. eq_refl (whole 1);
  of_zero = λ e. absurd (lt_not_le h (eq_le e));
  of_negative = λ k. absurd (lt_not_le h (lt_le k));
}

pub sign_zero : {x : Fraction} → x ≈ whole 0 → Sign x (whole 0)
sign_zero e = record {
  of_positive = λ k. absurd (lt_not_le k (eq_le e));
  of_zero = λ k. eq_refl (whole 0);
  of_negative = λ k. absurd (lt_not_le k (eq_ge e));
}

pub sign_total : Total Sign
sign_total x =
    by_side x (λ h. (negated (whole 1), sign_mirror (sign_above (neg_lt h)))) (λ e. (whole 0, sign_zero e)) (λ h. (whole 1, sign_above h))

zero_one : whole 0 ≼ whole 1
zero_one = record { le = omega arith }

minus_one : negated (whole 1) ≼ whole 1
minus_one = record { le = omega arith }

-- No sign is above 1 or below -1.
pub sign_most : {x r : Fraction} → Sign x r → r ≼ whole 1
sign_most {x} g =
    by_side x (λ h. le_trans (eq_le (g.of_negative h)) minus_one) (λ e. le_trans (eq_le (g.of_zero e)) zero_one) (λ h. eq_le (g.of_positive h))

pub sign_least : {x r : Fraction} → Sign x r → negated (whole 1) ≼ r
sign_least g = neg_le (sign_most (sign_mirror g))

pub sign_monotone : Monotone Sign
sign_monotone = record { rises = rises }
  where
    rises : {x y r s : Fraction} → Sign x r → Sign y s → x ≼ y → r ≼ s
    rises {x} {y} f g h =
        ⊎_elim
        (λ up. ⊎_elim
        (λ down. eq_le (eq_trans (f.of_zero (antisymm (le_trans h down) up)) (eq_sym (g.of_zero (antisymm down (le_trans up h))))))
        (λ above. le_trans (sign_most f) (eq_ge (g.of_positive above)))
        (le_or_lt y (whole 0)))
        (λ below. le_trans (eq_le (f.of_negative below)) (sign_least g))
        (le_or_lt (whole 0) x)

pub trunc_mirror : {x r : Fraction} → Trunc x r → Trunc (negated x) (negated r)
trunc_mirror t = record {
  of_positive = λ h. ceil_floor_lem (t.of_negative (neg_le h));
  of_negative = λ h. floor_ceil_lem (t.of_positive (neg_le h));
}

pub trunc_same : {x r s : Fraction} → Trunc x r → r ≈ s → Trunc x s
trunc_same t e = record {
  of_positive = λ h. floor_same (t.of_positive h) e;
  of_negative = λ h. ceil_same (t.of_negative h) e;
}

pub trunc_whole : {x : Fraction} → Whole x → Trunc x x
trunc_whole w = record { of_positive = λ h. floor_whole w; of_negative = λ h. ceil_whole w }

whole_floor_ceil : {x r : Fraction} → Whole x → Floor x r → Ceil x r
whole_floor_ceil {x} w f =
    ceil_same (ceil_whole w) (antisymm (floor_monotone.rises (floor_whole w) f (le_refl x)) f.not_above)

trunc_above : (x : Fraction) → whole 0 ≼ x → (r : Fraction) × Trunc x r
trunc_above x h =
    let (r, f) = floor_total x in
    (r, record { of_positive = λ k. f; of_negative = λ k. whole_floor_ceil (zero_whole h k) f })

pub trunc_total : Total Trunc
trunc_total x =
    ⊎_elim (trunc_above x) (λ h. let (r, t) = trunc_above (negated x) (neg_le h) in (negated r, trunc_mirror t)) (le_or_le (whole 0) x)

pub trunc_monotone : Monotone Trunc
trunc_monotone = record { rises = rises }
  where
    zero : Whole (whole 0)
    zero = zero_whole (le_refl (whole 0)) (le_refl (whole 0))

    rises : {x y r s : Fraction} → Trunc x r → Trunc y s → x ≼ y → r ≼ s
    rises {x} {y} f g h =
        ⊎_elim
        (λ up. floor_monotone.rises (f.of_positive up) (g.of_positive (le_trans up h)) h)
        (λ down. ⊎_elim
        (λ above. le_trans (ceil_monotone.rises (f.of_negative down) (ceil_whole zero) down)
        (floor_monotone.rises (floor_whole zero) (g.of_positive above) above))
        (λ below. ceil_monotone.rises (f.of_negative down) (g.of_negative below) h)
        (le_or_le (whole 0) y))
        (le_or_le (whole 0) x)

pub abs_mirror : {x r : Fraction} → Abs x r → Abs (negated x) r
abs_mirror a = record { of_positive = λ h. a.of_negative (neg_le h); of_negative = λ h. a.of_positive (neg_le h) }

pub abs_same : {x r s : Fraction} → Abs x r → r ≈ s → Abs x s
abs_same a e = record {
  of_positive = λ h. eq_trans (eq_sym e) (a.of_positive h);
  of_negative = λ h. eq_trans (eq_sym e) (a.of_negative h);
}

pub abs_above : (x : Fraction) → whole 0 ≼ x → Abs x x
abs_above x h = record { of_positive = λ k. eq_refl x; of_negative = λ k. zero_negated h k }

pub abs_total : Total Abs
abs_total x =
    ⊎_elim (λ h. (x, abs_above x h)) (λ h. (negated x, abs_mirror (abs_above (negated x) (neg_le h)))) (le_or_le (whole 0) x)

pub abs_single : {x r s : Fraction} → Abs x r → Abs x s → r ≈ s
abs_single {x} a b =
    ⊎_elim (λ h. eq_trans (a.of_positive h) (eq_sym (b.of_positive h))) (λ h. eq_trans (a.of_negative h) (eq_sym (b.of_negative h)))
    (le_or_le (whole 0) x)

-- |x| is not below 0 and not below x.
pub abs_not_negative : {x r : Fraction} → Abs x r → whole 0 ≼ r
abs_not_negative {x} a =
    ⊎_elim (λ h. le_trans h (eq_ge (a.of_positive h))) (λ h. le_trans (neg_le h) (eq_ge (a.of_negative h))) (le_or_le (whole 0) x)

pub abs_not_below : {x r : Fraction} → Abs x r → x ≼ r
abs_not_below {x} a =
    ⊎_elim (λ h. eq_ge (a.of_positive h)) (λ h. le_trans h (abs_not_negative a)) (le_or_le (whole 0) x)
