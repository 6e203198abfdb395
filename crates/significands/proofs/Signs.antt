-- Products and quotients of signed patterns, by their magnitudes and whether their signs differ.
use mathlib.Core.Bool.{Bool, true, false, not, beq, xor}
use mathlib.Core.Path.{◌≡◌, refl, sym, ap, subst, ◌∙◌}
use Prim.Native.Nat.{ℕ, ◌+◌, ◌*◌, ◌^◌, ◌<◌, zero-le}
use native.Mathlib.Nat.{le_of_eq, mul-pos, mul-zero, not-suc-le-zero, zero-mul}
use native.Mathlib.Omega.{arith}
use lib.Bits.{bit_or, or_shifted}
use lib.Dec.{ltb}
use lib.Pow.{pow_pos}
use Rattle.truth.specs.Answers.{Answers, affirmed}
use Rattle.patterns.specs.Format.{Format, binary64, infinity, sign_bit}
use Rattle.patterns.specs.Value.{value, magnitude, plus, minus, choose}
use Rattle.patterns.specs.Rounding.{Exact, Up, Reached, Representable, RoundsUp, RoundsDown, product_of, quotient_of, divided}
use Rattle.patterns.proofs.ValueLaws.{value_positive, value_zero}
use Rattle.patterns.proofs.UpLaws.{infinity_positive, up_positive, up_negative, up_negative_zero, up_same}
use Rattle.patterns.proofs.ToldLaws.{reached_positive, reached_negative, reached_same}
use Rattle.significands.specs.SignedExact.{signed}

-- the machine's test that two truths differ
pub differs : (s t : Bool) → not (beq s t) ≡ xor s t
unfolding xor
differs true true = refl
differs true false = refl
differs false true = refl
differs false false = refl

-- a magnitude rounded away from zero or toward it, as a signed value rounded upward
pub rounded_positive : (F : Format) {s : Bool} → s ≡ false → {n d b : ℕ} → 0 < d → RoundsUp F n d b → Up F (signed s n d) b
rounded_positive F e {n} {d} {b} some rounds = subst (λ (s : Bool). Up F (signed s n d) b) (sym e) (up_positive F some rounds)

rounded_negative : (F : Format) {s : Bool} → s ≡ true → {n d b : ℕ} → 0 < b → RoundsDown F n d b → Up F (signed s n d) (sign_bit F + b)
rounded_negative F e {n} {d} {b} some rounds = subst (λ (s : Bool). Up F (signed s n d) (sign_bit F + b)) (sym e) (up_negative F rounds some)

pub rounded_zero : (F : Format) {s : Bool} → s ≡ true → {n d b : ℕ} → b ≡ 0 → RoundsDown F n d b → Up F (signed s n d) 0
rounded_zero F e {n} {d} none rounds = subst (λ (s : Bool). Up F (signed s n d) 0) (sym e) (up_negative_zero F rounds none)

-- a negative double as the code makes it
pub sign_set : {s : Bool} → s ≡ true → {n d b : ℕ} → 0 < b → RoundsDown binary64 n d b → Up binary64 (signed s n d) (bit_or (2 ^ 63) b)
unfolding sign_bit infinity
sign_set {s} e {n} {d} {b} some rounds =
    subst (Up binary64 (signed s n d)) (sym (or_shifted 1 63 b (omega (arith, rounds.within)))) (rounded_negative binary64 e some rounds)

-- nothing rounds to +0.0, whatever its sign
nothing_up : (F : Format) {d : ℕ} → RoundsUp F 0 d 0
nothing_up F = record { within = zero-le; above = λ finite. zero-le; least = λ c below. absurd (not-suc-le-zero below) }

nothing_down : (F : Format) {d : ℕ} → 0 < d → RoundsDown F 0 d 0
nothing_down F {d} some = record {
  within = infinity_positive F;
  below = le_of_eq (ap (λ (v : ℕ). v * d) (value_zero F.frac) ∙ zero-mul d);
  greatest = λ c above finite. mul-pos (value_positive F.frac above) some;
}

zero_up : (F : Format) (s : Bool) {n d : ℕ} → n ≡ 0 → 0 < d → Up F (signed s n d) 0
zero_up F true {n} {d} none some = subst (λ (n : ℕ). Up F (signed true n d) 0) (sym none) (up_negative_zero F (nothing_down F some) refl)
zero_up F false {n} {d} none some = subst (λ (n : ℕ). Up F (signed false n d) 0) (sym none) (up_positive F some (nothing_up F))

-- one difference of parts over one divisor
abbrev Same : Exact → Exact → Type 0
Same e e' = (e.positive + e'.negative ≡ e'.positive + e.negative) × (e.over ≡ e'.over)

product_same : (s t : Bool) (v w d : ℕ)
    → Same (signed (xor s t) (v * w) d) (record { positive = choose s v 0 * choose t w 0 + choose s 0 v * choose t 0 w; negative = choose s v 0 * choose t 0 w + choose s 0 v * choose t w 0; over = d })
unfolding xor
product_same true true v w d = (omega arith, refl)
product_same true false v w d = (omega arith, refl)
product_same false true v w d = (omega arith, refl)
product_same false false v w d = (omega arith, refl)

quotient_same : (s t : Bool) (v p w : ℕ) → Same (signed (xor s t) (v * p) w) (divided t (choose s v 0 * p) (choose s 0 v * p) w)
unfolding xor
quotient_same true true v p w = (omega arith, refl)
quotient_same true false v p w = (omega arith, refl)
quotient_same false true v p w = (omega arith, refl)
quotient_same false false v p w = (omega arith, refl)

-- the exactness of a signed value is that of its magnitude
pub reached_signed : (F : Format) (s : Bool) {n d : ℕ} {x : Bool} → Answers (Representable F n d) x → Answers (Reached F (signed s n d)) x
reached_signed F true = reached_negative F
reached_signed F false = reached_positive F

-- nothing is exact
zero_reached : (F : Format) (s : Bool) {n : ℕ} (d : ℕ) → n ≡ 0 → Answers (Reached F (signed s n d)) true
zero_reached F s d none =
    reached_signed F s
    (affirmed (record { pattern = 0; finite = infinity_positive F; eq = ap (λ (v : ℕ). v * d) (value_zero F.frac) ∙ zero-mul d ∙ sym none }))

module _ (F : Format) (a b : ℕ) where
  abbrev differ : Bool
  differ = xor (ltb a (sign_bit F)) (ltb b (sign_bit F))

  abbrev worth : ℕ → ℕ
  worth c = value F.frac (magnitude F c)

  worthless : (c : ℕ) → magnitude F c ≡ 0 → worth c ≡ 0
  worthless c none = ap (value F.frac) none ∙ value_zero F.frac

  first_nothing : magnitude F a ≡ 0 → worth a * worth b ≡ 0
  first_nothing none = ap (λ (v : ℕ). v * worth b) (worthless a none) ∙ zero-mul (worth b)

  second_nothing : magnitude F b ≡ 0 → worth a * worth b ≡ 0
  second_nothing none = ap (λ (v : ℕ). worth a * v) (worthless b none) ∙ mul-zero (worth a)

  dividend_nothing : magnitude F a ≡ 0 → worth a * 2 ^ F.point ≡ 0
  dividend_nothing none = ap (λ (v : ℕ). v * 2 ^ F.point) (worthless a none) ∙ zero-mul (2 ^ F.point)

  pub product_up : {r : ℕ} → Up F (signed differ (worth a * worth b) (2 ^ F.point)) r → Up F (product_of F a b) r
  unfolding product_of plus minus
  product_up up =
      let same = product_same (ltb a (sign_bit F)) (ltb b (sign_bit F)) (worth a) (worth b) (2 ^ F.point) in
      up_same F _ _ same.0 same.1 up

  pub quotient_up : {r : ℕ} → Up F (signed differ (worth a * 2 ^ F.point) (worth b)) r → Up F (quotient_of F a b) r
  unfolding quotient_of plus minus
  quotient_up up =
      let same = quotient_same (ltb a (sign_bit F)) (ltb b (sign_bit F)) (worth a) (2 ^ F.point) (worth b) in
      up_same F _ _ same.0 same.1 up

  pub product_first_zero : magnitude F a ≡ 0 → Up F (product_of F a b) 0
  product_first_zero none = product_up (zero_up F differ (first_nothing none) (pow_pos F.point))

  pub product_second_zero : magnitude F b ≡ 0 → Up F (product_of F a b) 0
  product_second_zero none = product_up (zero_up F differ (second_nothing none) (pow_pos F.point))

  pub quotient_zero : 0 < worth b → magnitude F a ≡ 0 → Up F (quotient_of F a b) 0
  quotient_zero some none = quotient_up (zero_up F differ (dividend_nothing none) some)

  -- whether the same are the worth of some pattern
  pub product_reached : {x : Bool} → Answers (Reached F (signed differ (worth a * worth b) (2 ^ F.point))) x → Answers (Reached F (product_of F a b)) x
  unfolding product_of plus minus
  product_reached told =
      let same = product_same (ltb a (sign_bit F)) (ltb b (sign_bit F)) (worth a) (worth b) (2 ^ F.point) in
      reached_same F _ _ same.0 same.1 told

  pub quotient_reached : {x : Bool} → Answers (Reached F (signed differ (worth a * 2 ^ F.point) (worth b))) x → Answers (Reached F (quotient_of F a b)) x
  unfolding quotient_of plus minus
  quotient_reached told =
      let same = quotient_same (ltb a (sign_bit F)) (ltb b (sign_bit F)) (worth a) (2 ^ F.point) (worth b) in
      reached_same F _ _ same.0 same.1 told

  pub product_first_nothing : magnitude F a ≡ 0 → Answers (Reached F (product_of F a b)) true
  product_first_nothing none = product_reached (zero_reached F differ (2 ^ F.point) (first_nothing none))

  pub product_second_nothing : magnitude F b ≡ 0 → Answers (Reached F (product_of F a b)) true
  product_second_nothing none = product_reached (zero_reached F differ (2 ^ F.point) (second_nothing none))

  pub quotient_nothing : magnitude F a ≡ 0 → Answers (Reached F (quotient_of F a b)) true
  quotient_nothing none = quotient_reached (zero_reached F differ (worth b) (dividend_nothing none))
