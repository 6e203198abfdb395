-- Ends are in order exactly if their keys are, infinite ones among them, once for `≼` and `≺`.
use mathlib.Core.Logic.{◌⊎◌, inl, inr}
use mathlib.Core.Path.{◌≡◌, ap}
use Prim.Native.Nat.{ℕ, ◌*◌, ◌<◌, ◌≤◌}
use native.Mathlib.Nat.{le_of_lt}
use native.Mathlib.Omega.{arith}
use Rattle.patterns.specs.Format.{Format, infinity, sign_bit}
use Rattle.meaning.specs.Fraction.{Fraction, ◌≼◌, ◌≺◌}
use Rattle.meaning.specs.Sets.{End}
use Rattle.meaning.specs.Pairs.{worth}
use Rattle.meaning.proofs.FractionLaws.{lt_not_le}
use Rattle.end_pairs.specs.Keys.{key_of}
use Rattle.end_pairs.proofs.KeyLaws.{key_le, key_lt, infinite_keys, finite_keys}
use Rattle.end_pairs.proofs.Shapes.{LowerShape, lower_finite, lower_infinite, UpperShape, upper_finite, upper_infinite}
use Rattle.comparison_laws.specs.Ends.{Reaches, reaches, reaches_all, Before, before}

-- Values are in the order R exactly if their keys are in the order K, which is `≤` or `<`.
pub record Keyed (F : Format) (R : Fraction → Fraction → Type 0) (K : ℕ → ℕ → Type 0) : Type 0 where
  pub values : {a b : ℕ} → a < 2 * sign_bit F → b < 2 * sign_bit F → K (key_of F a) (key_of F b) → R (worth F a) (worth F b)
  pub keys : {a b : ℕ} → a < 2 * sign_bit F → b < 2 * sign_bit F → R (worth F a) (worth F b) → K (key_of F a) (key_of F b)
  pub at_most_lem : {k m : ℕ} → K k m → k ≤ m

module _ (F : Format) where
  weak_back : {a b : ℕ} → a < 2 * sign_bit F → b < 2 * sign_bit F → worth F a ≼ worth F b → key_of F a ≤ key_of F b
  weak_back {a} {b} p q h = let above : key_of F b < key_of F a → ⊥ = λ l. lt_not_le (key_lt F q p l) h in omega arith

  strict_back : {a b : ℕ} → a < 2 * sign_bit F → b < 2 * sign_bit F → worth F a ≺ worth F b → key_of F a < key_of F b
  strict_back {a} {b} p q h = let above : key_of F b ≤ key_of F a → ⊥ = λ l. lt_not_le h (key_le F q p l) in omega arith

  pub weak_keys : Keyed F ◌≼◌ ◌≤◌
  weak_keys = record { values = key_le F; keys = weak_back; at_most_lem = λ h. h }

  pub strict_keys : Keyed F ◌≺◌ ◌<◌
  strict_keys = record { values = key_lt F; keys = strict_back; at_most_lem = le_of_lt }

  -- An infinite upper end is reached by all.
  pub reach_infinite : {R : Fraction → Fraction → Type 0} {m : ℕ} {b d : End} → UpperShape F m d → m ≡ infinity F → Reaches R b d
  reach_infinite (upper_finite g) i = absurd (omega (arith, finite_keys F g, ap (key_of F) i))
  reach_infinite (upper_infinite e) i = reaches_all

  module _ {R : Fraction → Fraction → Type 0} {K : ℕ → ℕ → Type 0} (keyed : Keyed F R K) {n m : ℕ} where
    -- Two upper ends.
    pub reach : {b d : End} → UpperShape F n b → UpperShape F m d → K (key_of F n) (key_of F m) → Reaches R b d
    reach (upper_finite f) (upper_finite g) k = reaches (keyed.values f.pattern g.pattern k)
    reach (upper_finite f) (upper_infinite e) k = reaches_all
    reach (upper_infinite e) (upper_finite g) k = absurd (omega (arith, keyed.at_most_lem k, finite_keys F g, ap (key_of F) e))
    reach (upper_infinite e) (upper_infinite i) k = reaches_all

    pub reach_only : {b d : End} → UpperShape F n b → UpperShape F m d → Reaches R b d → K (key_of F n) (key_of F m) ⊎ (m ≡ infinity F)
    reach_only (upper_finite f) (upper_finite g) (reaches r) = inl (keyed.keys f.pattern g.pattern r)
    reach_only u (upper_infinite e) h = inr e
    reach_only (upper_infinite e) (upper_finite g) h = elim h [ ]

    -- An upper end and a lower end.
    pub come_before : {b c : End} → UpperShape F n b → LowerShape F m c → K (key_of F n) (key_of F m) → Before R b c
    come_before (upper_finite f) (lower_finite g) k = before (keyed.values f.pattern g.pattern k)
    come_before (upper_finite f) (lower_infinite e) k = absurd (omega (arith, keyed.at_most_lem k, finite_keys F f, ap (key_of F) e))
    come_before (upper_infinite e) (lower_finite g) k = absurd (omega (arith, keyed.at_most_lem k, finite_keys F g, ap (key_of F) e))
    come_before (upper_infinite e) (lower_infinite i) k = absurd (omega (arith, keyed.at_most_lem k, infinite_keys F, ap (key_of F) e, ap (key_of F) i))

    pub before_only : {b c : End} → UpperShape F n b → LowerShape F m c → Before R b c → K (key_of F n) (key_of F m)
    before_only (upper_finite f) (lower_finite g) (before r) = keyed.keys f.pattern g.pattern r
    before_only (upper_finite f) (lower_infinite e) h = elim h [ ]
    before_only {c = c} (upper_infinite e) l h = elim h [ ]

  -- An upper end is not beyond an infinite one.
  pub below_infinity : {n m : ℕ} {b : End} → UpperShape F n b → m ≡ infinity F → key_of F n ≤ key_of F m
  below_infinity (upper_finite f) i = omega (arith, finite_keys F f, ap (key_of F) i)
  below_infinity (upper_infinite e) i = omega (arith, ap (key_of F) e, ap (key_of F) i)
