-- The mirrored pair stands for the set of the negatives.
use mathlib.Core.Path.{◌≡◌, sym, ◌∙◌, ap, ap₂, subst, subst₂}
use mathlib.Core.Logic.{◌⊎◌, inl, inr, ⊎_elim}
use Prim.Native.Nat.{ℕ, ◌+◌, ◌*◌, ◌-◌, ◌/◌, ◌%◌, ◌^◌, ◌<◌, ◌≤◌}
use native.Mathlib.Omega.{arith}
use Rattle.std.specs.Int.Bits.{bit_and, bit_xor, xor_add_and}
use Rattle.std.proofs.lemmas.Nat.Bits.{and_high}
use Rattle.patterns.proofs.ValueLaws.{le_or_lt}
use Rattle.patterns.specs.Format.{Format, binary64, infinity, sign_bit}
use Rattle.patterns.specs.Value.{Finite, opposite}
use Rattle.patterns.proofs.SignLaws.{finite_opposite, opposite_opposite, opposite_positive, opposite_negative}
use Rattle.meaning.specs.Fraction.{◌≼◌}
use Rattle.meaning.specs.Sets.{span, mirror}
use Rattle.meaning.specs.Pairs.{Pair, minus_infinity, Proper, EmptyPair, Bare, set_of}
use Rattle.meaning.proofs.FractionLaws.{neg_le}
use Rattle.meaning.proofs.PairLaws.{opposite_infinity, opposite_minus_infinity, worth_opposite, end_opposite, set_proper, set_empty}
use Rattle.end_pairs.proofs.TestLaws.{lower_pattern, upper_pattern}
use Rattle.end_pairs.specs.Mirror.{mirror_pair}

-- The sign bit is added to a positive pattern, and taken from a negative one.
sign_added : (F : Format) {b : ℕ} → b < sign_bit F → b + sign_bit F ≡ opposite F b
sign_added F {b} h = omega (arith, opposite_positive F h)

sign_taken : (F : Format) {b : ℕ} → b < 2 * sign_bit F → sign_bit F ≤ b → b - sign_bit F ≡ opposite F b
sign_taken F {b} h k =
    sym (opposite_negative F (omega arith)) ∙ ap (opposite F) (omega arith)

-- To flip the sign bit of a double is to change its sign.
pub sign_flipped : {b : ℕ} → b < 2 ^ 64 → bit_xor b (2 ^ 63) ≡ opposite binary64 b
unfolding sign_bit
sign_flipped {b} h =
    let sign : bit_and b (2 ^ 63) ≡ b / 2 ^ 63 % 2 * 2 ^ 63 = and_high b 1 63 in
    let both : bit_xor b (2 ^ 63) + bit_and b (2 ^ 63) * 2 ≡ b + 2 ^ 63 = xor_add_and b (2 ^ 63) in
    ⊎_elim
    (λ negative. let e : bit_xor b (2 ^ 63) ≡ b - 2 ^ 63 = omega arith in e ∙ sign_taken binary64 h negative)
    (λ positive. let e : bit_xor b (2 ^ 63) ≡ b + 2 ^ 63 = omega arith in e ∙ sign_added binary64 positive)
    (le_or_lt (2 ^ 63) b)

module _ (F : Format) where
  opposite_lower : {b : ℕ} → Finite F b ⊎ (b ≡ minus_infinity F) → Finite F (opposite F b) ⊎ (opposite F b ≡ infinity F)
  opposite_lower (inl f) = inl (finite_opposite F f)
  opposite_lower (inr e) = inr (ap (opposite F) e ∙ opposite_minus_infinity F)

  opposite_upper : {b : ℕ} → Finite F b ⊎ (b ≡ infinity F) → Finite F (opposite F b) ⊎ (opposite F b ≡ minus_infinity F)
  opposite_upper (inl f) = inl (finite_opposite F f)
  opposite_upper (inr e) = inr (ap (opposite F) e ∙ opposite_infinity F)

  finite_back : {b : ℕ} → b < 2 * sign_bit F → Finite F (opposite F b) → Finite F b
  finite_back h f = subst (Finite F) (opposite_opposite F h) (finite_opposite F f)

  pub mirror_proper : (p : Pair) → Proper F p → Proper F (mirror_pair F p)
  mirror_proper p h =
      let low = lower_pattern F h.lower_end in
      let high = upper_pattern F h.upper_end in
      record {
        lower_end = opposite_upper h.upper_end;
        upper_end = opposite_lower h.lower_end;
        in_order = λ f g.
            subst₂ ◌≼◌ (sym (worth_opposite F high)) (sym (worth_opposite F low))
            (neg_le (h.in_order (finite_back low g) (finite_back high f)));
      }

  mirror_empty : (p : Pair) → EmptyPair F p → EmptyPair F (mirror_pair F p)
  mirror_empty p e =
      record {
        lower_is = ap (opposite F) e.upper_is ∙ opposite_minus_infinity F;
        upper_is = ap (opposite F) e.lower_is ∙ opposite_infinity F;
      }

  pub mirror_bare : (p : Pair) → Bare F p → Bare F (mirror_pair F p)
  mirror_bare p (inl h) = inl (mirror_proper p h)
  mirror_bare p (inr e) = inr (mirror_empty p e)

  pub mirror_set : (p : Pair) → Bare F p → set_of F (mirror_pair F p) ≡ mirror (set_of F p)
  mirror_set p (inl h) =
      set_proper F (mirror_pair F p) (mirror_proper p h)
      ∙ ap₂ span (end_opposite F (upper_pattern F h.upper_end)) (end_opposite F (lower_pattern F h.lower_end))
      ∙ sym (ap mirror (set_proper F p h))
  mirror_set p (inr e) = set_empty F (mirror_pair F p) (mirror_empty p e) ∙ sym (ap mirror (set_empty F p e))
