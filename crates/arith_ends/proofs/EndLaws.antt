-- Ends of patterns, finite or not, combined and rounded upward.
use mathlib.Core.Bool.{Bool, true, false}
use mathlib.Core.Path.{◌≡◌, refl, ap, ◌∙◌, subst⁻¹}
use mathlib.Core.Logic.{◌⊎◌, inl, inr, ⊎_elim}
use Prim.Native.Nat.{ℕ, ◌*◌, ◌<◌}
use native.Mathlib.Omega.{arith}
use borrow.Author.Tests.{le-ltb}
use lib.Dec.{ltb}
use Rattle.truth.specs.Answers.{Answers, affirmed}
use Rattle.patterns.specs.Format.{Format, infinity, sign_bit}
use Rattle.patterns.specs.Value.{Finite, magnitude, value, plus, minus, choose}
use Rattle.patterns.specs.Rounding.{Up, Reached, quotient_of, divided}
use Rattle.patterns.proofs.ValueLaws.{le_or_lt, value_zero}
use Rattle.patterns.proofs.UpLaws.{infinity_positive}
use Rattle.patterns.proofs.SignLaws.{infinity_below, finite_positive, plus_positive, minus_positive}
use Rattle.meaning.specs.Fraction.{Fraction, ◌≈◌, whole}
use Rattle.meaning.specs.Sets.{End, at, unbounded}
use Rattle.meaning.specs.Classes.{AtZero, at_zero}
use Rattle.meaning.specs.Pairs.{worth, end_by, end_of}
use Rattle.meaning.specs.Hull.{EndOfFormat, format_number, format_infinite}
use Rattle.meaning.specs.Supremum.{UpperEnd}
use Rattle.meaning.proofs.FractionLaws.{eq_sym}
use Rattle.meaning.proofs.PairLaws.{end_finite}
use Rattle.theorem3.specs.Ends.{quotient_end}
use Rattle.theorem3.proofs.UpEnd.{quotient_end_lem, quotient_format}
use Rattle.points.proofs.Exactly.{exact_number, exact_infinity}

module _ (F : Format) {b : ℕ} (pattern : b < 2 * sign_bit F) where
  -- A pattern that is not finite bounds nothing.
  pub end_infinite : (Finite F b → ⊥) → end_of F b ≡ unbounded
  unfolding end_of
  end_infinite n =
      ⊎_elim (λ k. ap (λ (t : Bool). end_by t (worth F b)) (le-ltb (magnitude F b) (infinity F) k))
      (λ k. absurd (n (record { pattern = pattern; finite = k }))) (le_or_lt (infinity F) (magnitude F b))

  finite_or : Finite F b ⊎ (Finite F b → ⊥)
  finite_or =
      ⊎_elim (λ k. inr (λ f. omega (arith, f.finite))) (λ k. inl (record { pattern = pattern; finite = k }))
      (le_or_lt (infinity F) (magnitude F b))

-- +0.0 is the upper end 0.
worth_zero : (F : Format) → worth F 0 ≈ whole 0
worth_zero F =
    let positive : 0 < sign_bit F = omega (arith, infinity_below F) in
    record { eq = omega (arith, plus_positive F positive, minus_positive F positive, value_zero F.frac) }

pub zero_end : (F : Format) → UpperEnd F (at (whole 0)) 0
zero_end F = exact_number F (finite_positive F (infinity_positive F)) (λ e. omega (arith, infinity_below F)) (worth_zero F)

-- Two ends combined by E, which has no bound where the first has none.
module _ (F : Format) (E : End → End → End) (first : (y : End) → E unbounded y ≡ unbounded) where
  pub numbers : {a b r : ℕ} → Finite F a × Finite F b → UpperEnd F (E (at (worth F a)) (at (worth F b))) r → UpperEnd F (E (end_of F a) (end_of F b)) r
  numbers f h = rw (end_finite F f.0, end_finite F f.1) h

  pub first_infinite : {a : ℕ} (v : End) → a < 2 * sign_bit F → (Finite F a → ⊥) → UpperEnd F (E (end_of F a) v) (infinity F)
  first_infinite v p n = rw (end_infinite F p n, first v) (exact_infinity F)

  pub second_infinite : {a b : ℕ} {u : End} {r : ℕ} → ((x : Fraction) → E (at x) unbounded ≡ u) → UpperEnd F u r
      → b < 2 * sign_bit F → (Finite F a × Finite F b → ⊥) → Finite F a → UpperEnd F (E (end_of F a) (end_of F b)) r
  second_infinite {a} second h q n f = rw (end_finite F f, end_infinite F q (λ g. n (f, g)), second (worth F a)) h

  -- An infinite end on either side.
  pub either_infinite : {a b : ℕ} → ((x : Fraction) → E (at x) unbounded ≡ unbounded) → a < 2 * sign_bit F → b < 2 * sign_bit F → (Finite F a × Finite F b → ⊥)
      → UpperEnd F (E (end_of F a) (end_of F b)) (infinity F)
  either_infinite {b = b} second p q n = ⊎_elim (second_infinite second (exact_infinity F) q n) (first_infinite (end_of F b) p) (finite_or F p)

chosen_zero : (t : Bool) → choose t 0 0 ≡ 0
chosen_zero true = refl
chosen_zero false = refl

plus_zero_lem : (F : Format) (b : ℕ) → value F.frac (magnitude F b) ≡ 0 → plus F b ≡ 0
unfolding plus
plus_zero_lem F b e = ap (λ (v : ℕ). choose (ltb b (sign_bit F)) v 0) e ∙ chosen_zero (ltb b (sign_bit F))

minus_zero_lem : (F : Format) (b : ℕ) → value F.frac (magnitude F b) ≡ 0 → minus F b ≡ 0
unfolding minus
minus_zero_lem F b e = ap (λ (v : ℕ). choose (ltb b (sign_bit F)) 0 v) e ∙ chosen_zero (ltb b (sign_bit F))

divided_over : (t : Bool) (p n v : ℕ) → (divided t p n v).over ≡ v
divided_over true p n v = refl
divided_over false p n v = refl

quotient_over : (F : Format) (a b : ℕ) → (quotient_of F a b).over ≡ value F.frac (magnitude F b)
unfolding quotient_of
quotient_over F a b = divided_over (ltb b (sign_bit F)) _ _ _

-- A divisor that is not 0.
module _ (F : Format) {b : ℕ} (finite : Finite F b) (not_zero_lem : AtZero (end_of F b) → ⊥) where
  worth_not_zero : worth F b ≈ whole 0 → ⊥
  worth_not_zero e = not_zero_lem (subst⁻¹ AtZero (end_finite F finite) (at_zero e))

  pub value_not_zero : value F.frac (magnitude F b) ≡ 0 → ⊥
  value_not_zero e = worth_not_zero (record { eq = omega (arith, plus_zero_lem F b e, minus_zero_lem F b e) })

  over_positive : (a : ℕ) → 0 < (quotient_of F a b).over
  over_positive a =
      ⊎_elim (λ k. absurd (value_not_zero (omega (arith, quotient_over F a b)))) (λ k. k) (le_or_lt (quotient_of F a b).over 0)

  pub quotient_right : (a : ℕ) {r : ℕ} → Up F (quotient_of F a b) r → UpperEnd F (quotient_end (at (worth F a)) (at (worth F b))) r
  quotient_right a up = quotient_end_lem F a b (over_positive a) worth_not_zero up

  pub quotient_exact : (a : ℕ) {x : Bool} → Answers (Reached F (quotient_of F a b)) x → Answers (EndOfFormat F (quotient_end (at (worth F a)) (at (worth F b)))) x
  quotient_exact a told = quotient_format F a b (over_positive a) worth_not_zero told

-- No bound is an end of the format, and 0 is a number of it.
pub infinite_exact : (F : Format) → EndOfFormat F unbounded
infinite_exact F = format_infinite

pub zero_exact : (F : Format) → EndOfFormat F (at (whole 0))
zero_exact F = format_number (record { pattern = 0; is_finite = finite_positive F (infinity_positive F); is = eq_sym (worth_zero F) })

-- Whether two ends combined by E, which has no bound where the first has none, make an end of the format.
module _ (F : Format) (E : End → End → End) (first : (y : End) → E unbounded y ≡ unbounded) where
  pub exact_numbers : {a b : ℕ} {x : Bool} → Finite F a × Finite F b → Answers (EndOfFormat F (E (at (worth F a)) (at (worth F b)))) x
      → Answers (EndOfFormat F (E (end_of F a) (end_of F b))) x
  exact_numbers f h = rw (end_finite F f.0, end_finite F f.1) h

  pub exact_infinite : {a b : ℕ} {u : End} → ((x : Fraction) → E (at x) unbounded ≡ u) → EndOfFormat F u → a < 2 * sign_bit F → b < 2 * sign_bit F → (Finite F a × Finite F b → ⊥)
      → Answers (EndOfFormat F (E (end_of F a) (end_of F b))) true
  exact_infinite {a} {b} second h p q n =
      affirmed
      (⊎_elim (λ f. rw (end_finite F f, end_infinite F q (λ g. n (f, g)), second (worth F a)) h)
      (λ g. rw (end_infinite F p g, first (end_of F b)) (infinite_exact F)) (finite_or F p))
