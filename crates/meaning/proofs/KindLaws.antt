-- A pair is of one kind only: proper, EMPTY's or NaI's. A NaN is an end of NaI's alone.
use mathlib.Core.Path.{◌≡◌, refl, ◌∙◌, ap, subst⁻¹}
use mathlib.Core.Logic.{◌⊎◌, inl, inr, ⊎_elim}
use Prim.Native.Nat.{ℕ, ◌-◌, ◌<◌}
use native.Mathlib.Omega.{arith}
use lib.Pow.{pow_pos, pow-lt}
use Rattle.patterns.specs.Format.{Format, infinity, sign_bit, quiet_nan}
use Rattle.patterns.specs.Value.{Finite, magnitude}
use Rattle.patterns.proofs.SignLaws.{infinity_below, magnitude_positive, magnitude_negative}
use Rattle.meaning.specs.Pairs.{Pair, minus_infinity, NaN, Proper, EmptyPair, Bare, NaNs}
use Rattle.meaning.specs.Statement.{nai, Ends}
use Rattle.meaning.specs.Bytes.{BytesEnds, canonical_ends, nan_ends}
use Rattle.meaning.proofs.PairLaws.{lower_not_infinity}

-- The ends that bytes may have are an interval's or NaI's.
pub bytes_ends : {F : Format} {p : Pair} → BytesEnds F p → Ends F p
bytes_ends (canonical_ends k) = inl k.bare
bytes_ends (nan_ends n) = inr n

-- The magnitude of both infinities.
infinity_magnitude : (F : Format) → magnitude F (infinity F) ≡ infinity F
infinity_magnitude F = magnitude_positive F (infinity_below F)

minus_infinity_magnitude : (F : Format) → magnitude F (minus_infinity F) ≡ infinity F
unfolding minus_infinity
minus_infinity_magnitude F = magnitude_negative F (infinity_below F)

module _ (F : Format) where
  pub finite_not_nan : {b : ℕ} → Finite F b → NaN F b → ⊥
  finite_not_nan f h = omega arith

  infinite_not_nan : {b : ℕ} → magnitude F b ≡ infinity F → NaN F b → ⊥
  infinite_not_nan e h = omega arith

  minus_not_nan : {b : ℕ} → b ≡ minus_infinity F → NaN F b → ⊥
  minus_not_nan e = infinite_not_nan (ap (magnitude F) e ∙ minus_infinity_magnitude F)

  plus_not_nan : {b : ℕ} → b ≡ infinity F → NaN F b → ⊥
  plus_not_nan e = infinite_not_nan (ap (magnitude F) e ∙ infinity_magnitude F)

  quiet_below : quiet_nan F < sign_bit F
  unfolding quiet_nan infinity sign_bit
  quiet_below = omega (arith, pow-lt {i = F.frac - 1} {j = F.frac} (omega (arith, F.fine)))

  quiet_beyond : infinity F < quiet_nan F
  unfolding quiet_nan
  quiet_beyond = omega (arith, pow_pos (F.frac - 1))

  -- The NaN of NaI's ends is one.
  pub quiet_nan_lem : NaN F (quiet_nan F)
  quiet_nan_lem =
      record {
        pattern = omega (arith, quiet_below);
        beyond = subst⁻¹ (λ (m : ℕ). infinity F < m) (magnitude_positive F quiet_below) quiet_beyond;
      }

  pub nai_nans : NaNs F (nai F).pair
  nai_nans = record { lower_is = refl; upper_is = refl }

  module _ {p : Pair} where
    pub proper_not_empty : Proper F p → EmptyPair F p → ⊥
    proper_not_empty h e = lower_not_infinity F p h e.lower_is

    -- No end of a bare interval is a NaN.
    pub bare_no_nan : Bare F p → NaN F p.lower ⊎ NaN F p.upper → ⊥
    bare_no_nan (inl h) (inl n) = ⊎_elim (λ f. finite_not_nan f n) (λ e. minus_not_nan e n) h.lower_end
    bare_no_nan (inl h) (inr n) = ⊎_elim (λ f. finite_not_nan f n) (λ e. plus_not_nan e n) h.upper_end
    bare_no_nan (inr e) (inl n) = plus_not_nan e.lower_is n
    bare_no_nan (inr e) (inr n) = minus_not_nan e.upper_is n

    pub nans_lower : NaNs F p → NaN F p.lower
    nans_lower n = subst⁻¹ (NaN F) n.lower_is quiet_nan_lem

    pub bare_not_nans : Bare F p → NaNs F p → ⊥
    bare_not_nans b n = bare_no_nan b (inl (nans_lower n))

    pub only_bare : Ends F p → (NaNs F p → ⊥) → Bare F p
    only_bare (inl b) n = b
    only_bare (inr m) n = absurd (n m)

    -- NaI has one spelling.
    pub nans_spelt : NaNs F p → p ≡ (nai F).pair
    nans_spelt n = λ i. record { lower = n.lower_is i; upper = n.upper_is i }

    -- "any other NaN in either end gets 5": ends with such a NaN are none that an interval has.
    pub other_nan_no_ends : NaN F p.lower ⊎ NaN F p.upper → (NaNs F p → ⊥) → Ends F p → ⊥
    other_nan_no_ends n other = ⊎_elim (λ b. bare_no_nan b n) other
