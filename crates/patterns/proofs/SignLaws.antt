-- Signed patterns: what the sign bit does to a magnitude, and what changing it does to a value.
use mathlib.Core.Bool.{Bool}
use mathlib.Core.Path.{◌≡◌, sym, ◌∙◌, ap, subst}
use mathlib.Core.Logic.{◌⊎◌, inl, inr, ⊎_elim}
use Prim.Native.Nat.{ℕ, ◌+◌, ◌*◌, ◌-◌, ◌%◌, ◌<◌, ◌≤◌}
use native.Mathlib.Omega.{arith}
use native.Mathlib.Nat.{lt_trans, mod-eq_of_lt}
use borrow.Author.Tests.{lt-ltb, le-ltb}
use lib.Dec.{ltb}
use lib.Arith.{digits_mod}
use lib.Pow.{pow_pos}
use Rattle.patterns.specs.Format.{Format, infinity, sign_bit}
use Rattle.patterns.specs.Value.{value, magnitude, plus, minus, opposite, choose, Finite}
use Rattle.patterns.proofs.ValueLaws.{le_or_lt}

pub infinity_below : (F : Format) → infinity F < sign_bit F
unfolding infinity sign_bit
infinity_below F = omega (arith, pow_pos F.frac)

-- A pattern is a magnitude, or the sign bit and a magnitude.
pub signed : (F : Format) {b : ℕ} → b < 2 * sign_bit F → (b < sign_bit F) ⊎ ((m : ℕ) × (sign_bit F + m ≡ b) × (m < sign_bit F))
signed F {b} small =
    ⊎_elim (λ (big : sign_bit F ≤ b). inr (b - sign_bit F, omega arith, omega arith)) inl (le_or_lt (sign_bit F) b)

module _ (F : Format) {b : ℕ} (small : b < sign_bit F) where
  pub magnitude_positive : magnitude F b ≡ b
  unfolding magnitude
  magnitude_positive = mod-eq_of_lt small

  pub magnitude_negative : magnitude F (sign_bit F + b) ≡ b
  unfolding magnitude
  magnitude_negative = ap (λ (n : ℕ). n % sign_bit F) (omega arith) ∙ digits_mod 1 small

  picks_first : (x y : ℕ) → choose (ltb b (sign_bit F)) x y ≡ x
  picks_first x y = ap (λ (t : Bool). choose t x y) (lt-ltb b (sign_bit F) small)

  picks_second : (x y : ℕ) → choose (ltb (sign_bit F + b) (sign_bit F)) x y ≡ y
  picks_second x y = ap (λ (t : Bool). choose t x y) (le-ltb (sign_bit F + b) (sign_bit F) (omega arith))

  pub plus_positive : plus F b ≡ value F.frac b
  unfolding plus
  plus_positive = picks_first _ _ ∙ ap (value F.frac) magnitude_positive

  pub minus_positive : minus F b ≡ 0
  unfolding minus
  minus_positive = picks_first _ _

  pub plus_negative : plus F (sign_bit F + b) ≡ 0
  unfolding plus
  plus_negative = picks_second _ _

  pub minus_negative : minus F (sign_bit F + b) ≡ value F.frac b
  unfolding minus
  minus_negative = picks_second _ _ ∙ ap (value F.frac) magnitude_negative

  pub opposite_positive : opposite F b ≡ sign_bit F + b
  unfolding opposite
  opposite_positive = picks_first _ _ ∙ omega arith

  pub opposite_negative : opposite F (sign_bit F + b) ≡ b
  unfolding opposite
  opposite_negative = picks_second _ _ ∙ magnitude_negative

-- A fact about every pattern is shown of a magnitude, and of the sign bit and a magnitude.
by_sign : (F : Format) (P : ℕ → Type 0)
    → ((m : ℕ) → m < sign_bit F → P m)
    → ((m : ℕ) → m < sign_bit F → P (sign_bit F + m))
    → (b : ℕ) → b < 2 * sign_bit F → P b
by_sign F P first second b small = ⊎_elim (first b) (λ m. subst P m.1 (second m.0 m.2)) (signed F small)

pub plus_opposite : (F : Format) {b : ℕ} → b < 2 * sign_bit F → plus F (opposite F b) ≡ minus F b
plus_opposite F {b} =
    by_sign F (λ (b : ℕ). plus F (opposite F b) ≡ minus F b)
    (λ m small. ap (plus F) (opposite_positive F small) ∙ plus_negative F small ∙ sym (minus_positive F small))
    (λ m small. ap (plus F) (opposite_negative F small) ∙ plus_positive F small ∙ sym (minus_negative F small))
    b

pub minus_opposite : (F : Format) {b : ℕ} → b < 2 * sign_bit F → minus F (opposite F b) ≡ plus F b
minus_opposite F {b} =
    by_sign F (λ (b : ℕ). minus F (opposite F b) ≡ plus F b)
    (λ m small. ap (minus F) (opposite_positive F small) ∙ minus_negative F small ∙ sym (plus_positive F small))
    (λ m small. ap (minus F) (opposite_negative F small) ∙ minus_positive F small ∙ sym (plus_negative F small))
    b

pub opposite_opposite : (F : Format) {b : ℕ} → b < 2 * sign_bit F → opposite F (opposite F b) ≡ b
opposite_opposite F {b} =
    by_sign F (λ (b : ℕ). opposite F (opposite F b) ≡ b)
    (λ m small. ap (opposite F) (opposite_positive F small) ∙ opposite_negative F small)
    (λ m small. ap (opposite F) (opposite_negative F small) ∙ opposite_positive F small)
    b

pub opposite_pattern : (F : Format) {b : ℕ} → b < 2 * sign_bit F → opposite F b < 2 * sign_bit F
opposite_pattern F {b} =
    by_sign F (λ (b : ℕ). opposite F b < 2 * sign_bit F)
    (λ m small. omega (arith, opposite_positive F small))
    (λ m small. omega (arith, opposite_negative F small))
    b

pub magnitude_opposite : (F : Format) {b : ℕ} → b < 2 * sign_bit F → magnitude F (opposite F b) ≡ magnitude F b
magnitude_opposite F {b} =
    by_sign F (λ (b : ℕ). magnitude F (opposite F b) ≡ magnitude F b)
    (λ m small. ap (magnitude F) (opposite_positive F small) ∙ magnitude_negative F small ∙ sym (magnitude_positive F small))
    (λ m small. ap (magnitude F) (opposite_negative F small) ∙ magnitude_positive F small ∙ sym (magnitude_negative F small))
    b

pub finite_opposite : (F : Format) {b : ℕ} → Finite F b → Finite F (opposite F b)
finite_opposite F f =
    record { pattern = opposite_pattern F f.pattern; finite = subst (λ (m : ℕ). m < infinity F) (sym (magnitude_opposite F f.pattern)) f.finite }

-- The finite patterns are the magnitudes below infinity's, with and without the sign bit.
pub finite_positive : (F : Format) {b : ℕ} → b < infinity F → Finite F b
finite_positive F {b} small =
    let within : b < sign_bit F = lt_trans small (infinity_below F) in
    record { pattern = omega arith; finite = subst (λ (m : ℕ). m < infinity F) (sym (magnitude_positive F within)) small }

pub finite_negative : (F : Format) {b : ℕ} → b < infinity F → Finite F (sign_bit F + b)
finite_negative F {b} small =
    let within : b < sign_bit F = lt_trans small (infinity_below F) in
    record { pattern = omega arith; finite = subst (λ (m : ℕ). m < infinity F) (sym (magnitude_negative F within)) small }

pub finite_cases : (F : Format) {b : ℕ} → Finite F b → (b < infinity F) ⊎ ((m : ℕ) × (sign_bit F + m ≡ b) × (m < infinity F))
finite_cases F {b} f = ⊎_elim (λ small. inl (positive small)) (λ m. inr (negative m)) (signed F f.pattern)
  where
    positive : b < sign_bit F → b < infinity F
    positive small = subst (λ (m : ℕ). m < infinity F) (magnitude_positive F small) f.finite

    negative : (m : ℕ) × (sign_bit F + m ≡ b) × (m < sign_bit F) → (m : ℕ) × (sign_bit F + m ≡ b) × (m < infinity F)
    negative m =
        (m.0, m.1, subst (λ (m : ℕ). m < infinity F) (ap (magnitude F) (sym m.1) ∙ magnitude_negative F m.2) f.finite)
