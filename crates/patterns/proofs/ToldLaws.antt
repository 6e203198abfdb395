-- Whether a rounded pattern is worth the exact value: exactly if some finite pattern is. It is told in one way.
use mathlib.Core.Bool.{Bool}
use mathlib.Core.Path.{◌≡◌, sym, ◌∙◌, ap, subst, subst₂}
use Prim.Native.Nat.{ℕ, ◌+◌, ◌*◌, ◌<◌, ◌≤◌}
use native.Mathlib.Omega.{arith}
use native.Mathlib.Nat.{le_antisymm, le_of_eq, mul-le-mul_right, zero-mul}
use Rattle.truth.specs.Answers.{Answers}
use Rattle.truth.proofs.AnswerLaws.{answers_iff, answers_once}
use Rattle.patterns.specs.Format.{Format, infinity, sign_bit}
use Rattle.patterns.specs.Value.{value, plus, minus, Finite}
use Rattle.patterns.specs.Rounding.{Exact, Up, UpTold, Equals, Reached, Representable}
use Rattle.patterns.proofs.ValueLaws.{value_zero}
use Rattle.patterns.proofs.SignLaws
use Rattle.patterns.proofs.UpLaws.{positively, negatively, by_finite, infinity_positive, plus_is, minus_is, plus_less, minus_less, up_unique}

-- A value that some pattern is worth rounds to a pattern of that worth.
pub equals_rounded : (F : Format) {e : Exact} {r c : ℕ} → Up F e r → Equals F e c → Equals F e r
equals_rounded F {e} {r} {c} up h =
    let (finite, le) = up.least c h.finite (record { le = le_of_eq h.eq }) in
    let is = h.eq in
    let above = (up.above finite).le in
    let scaled : (plus F r + minus F c) * e.over ≤ (plus F c + minus F r) * e.over = mul-le-mul_right e.over le in
    record { finite = finite; eq = le_antisymm above (omega arith) }

-- What a finite magnitude pattern is worth, without and with the sign bit.
module _ (F : Format) {n d m : ℕ} (small : m < infinity F) where
  positive_worth : value F.frac m * d ≡ n → Equals F (positively n d) m
  positive_worth is = record {
    finite = SignLaws.finite_positive F small;
    eq = subst₂ (λ (p m : ℕ). n + m * d ≡ 0 + p * d) (sym (plus_is F small)) (sym (minus_is F small)) (omega arith);
  }

  negative_worth : value F.frac m * d ≡ n → Equals F (negatively n d) (sign_bit F + m)
  negative_worth is = record {
    finite = SignLaws.finite_negative F small;
    eq = subst₂ (λ (p m : ℕ). 0 + m * d ≡ n + p * d) (sym (plus_less F small)) (sym (minus_less F small)) (omega arith);
  }

-- 0 is the worth of a pattern.
nothing : (F : Format) {n : ℕ} (d : ℕ) → n ≡ 0 → Representable F n d
nothing F d none =
    record { pattern = 0; finite = infinity_positive F; eq = ap (λ (v : ℕ). v * d) (value_zero F.frac) ∙ zero-mul d ∙ sym none }

positive_back : (F : Format) {n d : ℕ} (c : ℕ) → Finite F c → Equals F (positively n d) c → Representable F n d
positive_back F {n} {d} = by_finite F (λ (c : ℕ). Equals F (positively n d) c → Representable F n d)
    (λ m small h.
    let is = subst₂ (λ (p m : ℕ). n + m * d ≡ 0 + p * d) (plus_is F small) (minus_is F small) h.eq in
    record { pattern = m; finite = small; eq = omega arith })
    (λ m small h.
    let is = subst₂ (λ (p m : ℕ). n + m * d ≡ 0 + p * d) (plus_less F small) (minus_less F small) h.eq in
    nothing F d (omega arith))

negative_back : (F : Format) {n d : ℕ} (c : ℕ) → Finite F c → Equals F (negatively n d) c → Representable F n d
negative_back F {n} {d} = by_finite F (λ (c : ℕ). Equals F (negatively n d) c → Representable F n d)
    (λ m small h.
    let is = subst₂ (λ (p m : ℕ). 0 + m * d ≡ n + p * d) (plus_is F small) (minus_is F small) h.eq in
    nothing F d (omega arith))
    (λ m small h.
    let is = subst₂ (λ (p m : ℕ). 0 + m * d ≡ n + p * d) (plus_less F small) (minus_less F small) h.eq in
    record { pattern = m; finite = small; eq = omega arith })

-- A value of either sign is a pattern's worth exactly if its magnitude is.
pub reached_positive : (F : Format) {n d : ℕ} {x : Bool} → Answers (Representable F n d) x → Answers (Reached F (positively n d)) x
reached_positive F =
    answers_iff (λ h. record { pattern = h.pattern; equals = positive_worth F h.finite h.eq }) (λ h. positive_back F h.pattern h.equals.finite h.equals)

pub reached_negative : (F : Format) {n d : ℕ} {x : Bool} → Answers (Representable F n d) x → Answers (Reached F (negatively n d)) x
reached_negative F =
    answers_iff (λ h. record { pattern = sign_bit F + h.pattern; equals = negative_worth F h.finite h.eq }) (λ h. negative_back F h.pattern h.equals.finite h.equals)

-- So a rounded pattern is told to be exact.
pub told_by : (F : Format) {e : Exact} {r : ℕ} {x : Bool} → Up F e r → Answers (Reached F e) x → UpTold F e r x
told_by F {r = r} up told =
    record { up = up; told = answers_iff (λ h. equals_rounded F up h.equals) (λ h. record { pattern = r; equals = h }) told }

-- Only the difference of an exact value's two parts matters.
module _ (F : Format) (e e' : Exact) (same : e.positive + e'.negative ≡ e'.positive + e.negative) (overs : e.over ≡ e'.over) where
  equals_same : {b : ℕ} → Equals F e b → Equals F e' b
  equals_same {b} h =
      let is = subst (λ (d : ℕ). e.positive + minus F b * d ≡ e.negative + plus F b * d) overs h.eq in
      record { finite = h.finite; eq = omega arith }

pub reached_same : (F : Format) (e e' : Exact) → e.positive + e'.negative ≡ e'.positive + e.negative → e.over ≡ e'.over
    → {x : Bool} → Answers (Reached F e) x → Answers (Reached F e') x
reached_same F e e' same overs =
    answers_iff (λ h. record { pattern = h.pattern; equals = equals_same F e e' same overs h.equals })
    (λ h. record { pattern = h.pattern; equals = equals_same F e' e (sym same) (sym overs) h.equals })

-- Upward rounding that tells has one answer.
pub told_once : (F : Format) {e : Exact} {r r' : ℕ} {x x' : Bool} → UpTold F e r x → UpTold F e r' x' → (r ≡ r') × (x ≡ x')
told_once F {e} {r} {r'} {x} {x'} h k =
    let same : r ≡ r' = up_unique F h.up k.up in
    (same, answers_once (Equals F e r) x x' h.told (subst (λ (b : ℕ). Answers (Equals F e b) x') (sym same) k.told))
