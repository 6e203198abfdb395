-- Upward rounding of a signed value from the rounding of its magnitude, and that the rounded pattern is the only one.
use mathlib.Core.Path.{◌≡◌, sym, ◌∙◌, ap, subst, subst₂}
use mathlib.Core.Logic.{◌↔◌, inl, inr, ⊎_elim}
use Prim.Native.Nat.{ℕ, ◌+◌, ◌*◌, ◌<◌, ◌≤◌}
use native.Mathlib.Omega.{arith}
use native.Mathlib.Nat.{eq-or-lt_of_le, le_antisymm, le_of_mul-le-mul_right, lt_irrefl, lt_of_le_of_lt, lt_of_lt_of_le, lt_trans, mul-pos}
use lib.Pow.{pow_pos}
use Rattle.patterns.specs.Format.{Format, infinity, sign_bit}
use Rattle.patterns.specs.Value.{value, plus, minus, Finite}
use Rattle.patterns.specs.Rounding.{Exact, NotAbove, UpperPattern, Up, RoundsUp, RoundsDown}
use Rattle.patterns.proofs.ValueLaws.{le_or_lt, value_zero, value_mono, value_injective}
use Rattle.patterns.proofs.SignLaws

pub infinity_positive : (F : Format) → 0 < infinity F
unfolding infinity
infinity_positive F = mul-pos {m = F.codes} (let wide = F.wide in omega arith) (pow_pos F.frac)

-- What a finite pattern up to infinity's is worth, by its two signs.
module _ (F : Format) {b : ℕ} (finite : b < infinity F) where
  below_sign : b < sign_bit F
  below_sign = lt_trans finite (SignLaws.infinity_below F)

  pub plus_is : plus F b ≡ value F.frac b
  plus_is = SignLaws.plus_positive F below_sign

  pub minus_is : minus F b ≡ 0
  minus_is = SignLaws.minus_positive F below_sign

  pub plus_less : plus F (sign_bit F + b) ≡ 0
  plus_less = SignLaws.plus_negative F below_sign

  pub minus_less : minus F (sign_bit F + b) ≡ value F.frac b
  minus_less = SignLaws.minus_negative F below_sign

  -- What it is for such a pattern not to be below an exact value, in terms of its magnitude's value.
  pub not_above_positive : (e : Exact) → NotAbove F e b ↔ (e.positive ≤ e.negative + value F.frac b * e.over)
  not_above_positive e = (
    λ above. let le = subst₂ (λ (p m : ℕ). e.positive + m * e.over ≤ e.negative + p * e.over) plus_is minus_is above.le in omega arith,
    λ le. record { le = subst₂ (λ (p m : ℕ). e.positive + m * e.over ≤ e.negative + p * e.over) (sym plus_is) (sym minus_is) (omega arith) },
  )

  pub not_above_negative : (e : Exact) → NotAbove F e (sign_bit F + b) ↔ (e.positive + value F.frac b * e.over ≤ e.negative)
  not_above_negative e = (
    λ above. let le = subst₂ (λ (p m : ℕ). e.positive + m * e.over ≤ e.negative + p * e.over) plus_less minus_less above.le in omega arith,
    λ le. record { le = subst₂ (λ (p m : ℕ). e.positive + m * e.over ≤ e.negative + p * e.over) (sym plus_less) (sym minus_less) (omega arith) },
  )

-- A fact about every finite pattern is shown of a magnitude below infinity's, without and with the sign bit.
pub by_finite : (F : Format) (P : ℕ → Type 0)
    → ((m : ℕ) → m < infinity F → P m)
    → ((m : ℕ) → m < infinity F → P (sign_bit F + m))
    → (c : ℕ) → Finite F c → P c
by_finite F P first second c finite =
    ⊎_elim (first c) (λ m. subst P m.1 (second m.0 m.2)) (SignLaws.finite_cases F finite)

pub not_finite_infinity : (F : Format) → Finite F (infinity F) → ⊥
not_finite_infinity F finite =
    lt_irrefl (infinity F)
    (subst (λ (m : ℕ). m < infinity F) (SignLaws.magnitude_positive F (SignLaws.infinity_below F)) finite.finite)

-- The exact values n / d and - n / d.
abbrev pub positively : ℕ → ℕ → Exact
positively n d = record { positive = n; negative = 0; over = d }

abbrev pub negatively : ℕ → ℕ → Exact
negatively n d = record { positive = 0; negative = n; over = d }

module _ (F : Format) {n d b : ℕ} (some : 0 < d) (r : RoundsUp F n d b) where
  up_finite : Finite F b → b < infinity F
  up_finite finite =
      ⊎_elim (λ e. absurd (not_finite_infinity F (subst (Finite F) e finite))) (λ less. less) (eq-or-lt_of_le r.within)

  up_upper : UpperPattern F b
  up_upper = record {
    number = ⊎_elim inr (λ less. inl (SignLaws.finite_positive F less)) (eq-or-lt_of_le r.within);
    not_minus_zero = λ e. omega (arith, r.within, SignLaws.infinity_below F);
  }

  not_above_lem : {c : ℕ} → n ≤ value F.frac c * d → b ≤ c
  not_above_lem {c} enough = ⊎_elim (λ le. le) (λ less. absurd (lt_irrefl n (lt_of_le_of_lt enough (r.least c less)))) (le_or_lt b c)

  up_least_positive : (c : ℕ) → c < infinity F → NotAbove F (positively n d) c → Finite F b × (plus F b + minus F c ≤ plus F c + minus F b)
  up_least_positive c small above =
      let enough : n ≤ value F.frac c * d = let le = (not_above_positive F small (positively n d)).0 above in omega arith in
      let le : b ≤ c = not_above_lem enough in
      let less : b < infinity F = lt_of_le_of_lt le small in
      (SignLaws.finite_positive F less, omega (arith, value_mono F.frac le, plus_is F less, plus_is F small, minus_is F less, minus_is F small))

  up_least_negative : (m : ℕ) → m < infinity F → NotAbove F (positively n d) (sign_bit F + m) → Finite F b × (plus F b + minus F (sign_bit F + m) ≤ plus F (sign_bit F + m) + minus F b)
  up_least_negative m small above =
      let none : n + value F.frac m * d ≤ 0 = (not_above_negative F small (positively n d)).0 above in
      let le : b ≤ 0 = not_above_lem (omega arith) in
      let worthless : value F.frac m ≤ 0 = le_of_mul-le-mul_right (omega arith) some in
      let less : b < infinity F = lt_of_le_of_lt le (infinity_positive F) in
      (SignLaws.finite_positive F less, omega (arith, value_mono F.frac le, value_zero F.frac, plus_is F less, plus_less F small, minus_less F small))

  pub up_positive : Up F (positively n d) b
  up_positive = record {
    upper = up_upper;
    above = λ finite. (not_above_positive F (up_finite finite) (positively n d)).1 (let enough = r.above (up_finite finite) in omega arith);
    least = by_finite F _ up_least_positive up_least_negative;
  }

module _ (F : Format) {n d b : ℕ} (r : RoundsDown F n d b) where
  not_below_lem : {c : ℕ} → c < infinity F → value F.frac c * d ≤ n → c ≤ b
  not_below_lem {c} small enough = ⊎_elim (λ le. le) (λ less. absurd (lt_irrefl n (lt_of_lt_of_le (r.greatest c less small) enough))) (le_or_lt c b)

  -- A finite pattern that is not below - n / d is worth at most the magnitude b below 0.
  down_least : (c : ℕ) → Finite F c → NotAbove F (negatively n d) c → minus F c ≤ plus F c + value F.frac b
  down_least =
      by_finite F (λ (c : ℕ). NotAbove F (negatively n d) c → minus F c ≤ plus F c + value F.frac b)
      (λ m small above. omega (arith, minus_is F small))
      (λ m small above.
      let enough = (not_above_negative F small (negatively n d)).0 above in
      omega (arith, minus_less F small, value_mono F.frac (not_below_lem small (omega arith))))

  pub up_negative : 0 < b → Up F (negatively n d) (sign_bit F + b)
  up_negative some = record {
    upper = record { number = inl (SignLaws.finite_negative F r.within); not_minus_zero = λ e. omega arith };
    above = λ finite. (not_above_negative F r.within (negatively n d)).1 (let low = r.below in omega arith);
    least = λ c finite above.
        (SignLaws.finite_negative F r.within, omega (arith, down_least c finite above, plus_less F r.within, minus_less F r.within));
  }

  pub up_negative_zero : b ≡ 0 → Up F (negatively n d) 0
  up_negative_zero none =
      let small = infinity_positive F in
      record {
        upper = record { number = inl (SignLaws.finite_positive F small); not_minus_zero = λ e. omega (arith, SignLaws.infinity_below F) };
        above = λ finite. (not_above_positive F small (negatively n d)).1 (omega arith);
        least = λ c finite above. (
          SignLaws.finite_positive F small,
          omega (arith, down_least c finite above, ap (value F.frac) none, value_zero F.frac, plus_is F small, minus_is F small),
        );
      }

-- Only the difference of an exact value's two parts matters.
not_above_same : (F : Format) (e e' : Exact) → e.positive + e'.negative ≡ e'.positive + e.negative → e.over ≡ e'.over
    → {b : ℕ} → NotAbove F e b → NotAbove F e' b
not_above_same F e e' same overs {b} above =
    let le = subst (λ (d : ℕ). e.positive + minus F b * d ≤ e.negative + plus F b * d) overs above.le in
    record { le = omega arith }

pub up_same : (F : Format) (e e' : Exact) → e.positive + e'.negative ≡ e'.positive + e.negative → e.over ≡ e'.over
    → {r : ℕ} → Up F e r → Up F e' r
up_same F e e' same overs up = record {
  upper = up.upper;
  above = λ finite. not_above_same F e e' same overs (up.above finite);
  least = λ c finite above. up.least c finite (not_above_same F e' e (sym same) (sym overs) above);
}

SameValue : Format → ℕ → ℕ → Type 0
SameValue F a b = plus F a + minus F b ≡ plus F b + minus F a

-- A pattern without the sign bit has the value of one with it only if that is -0.0.
signs_apart : (F : Format) {m k : ℕ} → m < infinity F → k < infinity F → SameValue F m (sign_bit F + k) → sign_bit F + k ≡ sign_bit F
unfolding SameValue
signs_apart F {m} {k} sm sk same =
    let none : k ≡ 0 = value_injective F.frac (omega (arith, value_zero F.frac, minus_is F sm, plus_less F sk, minus_less F sk)) in
    omega arith

-- Two finite patterns of one value are one pattern, if neither is -0.0.
One : Format → ℕ → ℕ → Type 0
One F a b = (a ≡ sign_bit F → ⊥) → (b ≡ sign_bit F → ⊥) → SameValue F a b → a ≡ b

one_from_positive : (F : Format) (m : ℕ) → m < infinity F → (b : ℕ) → Finite F b → One F m b
unfolding One SameValue
one_from_positive F m sm =
    by_finite F (One F m)
    (λ k sk na nb same. value_injective F.frac (omega (arith, plus_is F sm, plus_is F sk, minus_is F sm, minus_is F sk)))
    (λ k sk na nb same. absurd (nb (signs_apart F sm sk same)))

one_from_negative : (F : Format) (m : ℕ) → m < infinity F → (b : ℕ) → Finite F b → One F (sign_bit F + m) b
unfolding One SameValue
one_from_negative F m sm =
    by_finite F (One F (sign_bit F + m))
    (λ k sk na nb same. absurd (na (signs_apart F sk sm (sym same))))
    (λ k sk na nb same. ap (λ (j : ℕ). sign_bit F + j) (value_injective F.frac (omega (arith, plus_less F sm, plus_less F sk, minus_less F sm, minus_less F sk))))

pub value_unique : (F : Format) {a b : ℕ} → Finite F a → Finite F b → (a ≡ sign_bit F → ⊥) → (b ≡ sign_bit F → ⊥)
    → plus F a + minus F b ≡ plus F b + minus F a → a ≡ b
unfolding One SameValue
value_unique F {a} {b} fa fb =
    by_finite F (λ (a : ℕ). One F a b) (λ m sm. one_from_positive F m sm b fb) (λ m sm. one_from_negative F m sm b fb) a fa

-- Upward rounding has one answer.
pub up_unique : (F : Format) {e : Exact} {r r' : ℕ} → Up F e r → Up F e r' → r ≡ r'
up_unique F {e} {r} {r'} up up' = ⊎_elim finite infinite up.upper.number
  where
    finite : Finite F r → r ≡ r'
    finite f =
        let (f', le) = up'.least r f (up.above f) in
        let (g, le') = up.least r' f' (up'.above f') in
        value_unique F f f' up.upper.not_minus_zero up'.upper.not_minus_zero (le_antisymm le' le)

    infinite : r ≡ infinity F → r ≡ r'
    infinite e =
        ⊎_elim
        (λ f'. absurd (not_finite_infinity F (subst (Finite F) e (up.least r' f' (up'.above f')).0)))
        (λ e'. e ∙ sym e')
        up'.upper.number

not_less_up : (F : Format) {n d b b' : ℕ} → RoundsUp F n d b → RoundsUp F n d b' → b ≤ b'
not_less_up F {n} {d} {b} {b'} r r' =
    ⊎_elim (λ le. le)
    (λ less. absurd (lt_irrefl n (lt_of_le_of_lt (r'.above (lt_of_lt_of_le less r.within)) (r.least b' less))))
    (le_or_lt b b')

pub rounds_up_unique : (F : Format) {n d b b' : ℕ} → RoundsUp F n d b → RoundsUp F n d b' → b ≡ b'
rounds_up_unique F r r' = le_antisymm (not_less_up F r r') (not_less_up F r' r)

not_less_down : (F : Format) {n d b b' : ℕ} → RoundsDown F n d b → RoundsDown F n d b' → b' ≤ b
not_less_down F {n} {d} {b} {b'} r r' = not_below_lem F r r'.within r'.below

pub rounds_down_unique : (F : Format) {n d b b' : ℕ} → RoundsDown F n d b → RoundsDown F n d b' → b ≡ b'
rounds_down_unique F r r' = le_antisymm (not_less_down F r' r) (not_less_down F r r')
