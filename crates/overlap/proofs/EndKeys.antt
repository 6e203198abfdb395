-- The keys of ends are ordered as the ends are, infinite ones among them.
use mathlib.Core.Logic.{◌⊎◌, inl, inr}
use mathlib.Core.Path.{◌≡◌, refl}
use Prim.Native.Nat.{ℕ, ◌<◌}
use native.Mathlib.Omega.{arith}
use Rattle.patterns.specs.Format.{Format, infinity}
use Rattle.patterns.specs.Value.{Finite}
use Rattle.meaning.specs.Pairs.{Pair, worth, minus_infinity, Proper, EmptyPair, end_of, set_of}
use Rattle.meaning.specs.Overlap.{State, both_empty, first_empty, second_empty, Conditions, Extended, minus_inf, number, plus_inf, as_lower, as_upper, Less, less_numbers, from_minus, to_plus, across, Same, same_numbers, minuses, pluses, OverlapOf}
use Rattle.meaning.proofs.FractionLaws.{antisymm}
use Rattle.meaning.proofs.PairLaws.{end_finite, end_infinity, end_minus_infinity, set_proper, set_empty}
use Rattle.end_pairs.specs.Keys.{key_of}
use Rattle.end_pairs.proofs.KeyLaws.{key_le, key_lt, infinite_keys, finite_keys}
use Rattle.uniqueness.specs.Order.{Keys}
use Rattle.uniqueness.proofs.KeyLaws.{by_keys}

-- The key of a number, and of an infinity.
data Keyed (F : Format) : ℕ → Extended → Type 0 where
  key_number : {b : ℕ} → Finite F b → Keyed F (key_of F b) (number (worth F b))
  key_minus : Keyed F (key_of F (minus_infinity F)) minus_inf
  key_plus : Keyed F (key_of F (infinity F)) plus_inf

module _ (F : Format) where
  keeps_less : {k m : ℕ} {x y : Extended} → Keyed F k x → Keyed F m y → k < m → Less x y
  keeps_less (key_number f) (key_number g) h = less_numbers (key_lt F f.pattern g.pattern h)
  keeps_less (key_number f) key_minus h = absurd (omega (arith, finite_keys F f))
  keeps_less (key_number f) key_plus h = to_plus
  keeps_less key_minus (key_number g) h = from_minus
  keeps_less key_minus key_minus h = absurd (omega arith)
  keeps_less key_minus key_plus h = across
  keeps_less key_plus (key_number g) h = absurd (omega (arith, finite_keys F g))
  keeps_less key_plus key_minus h = absurd (omega (arith, infinite_keys F))
  keeps_less key_plus key_plus h = absurd (omega arith)

  keeps_same : {k m : ℕ} {x y : Extended} → Keyed F k x → Keyed F m y → k ≡ m → Same x y
  keeps_same (key_number f) (key_number g) h =
      same_numbers (antisymm (key_le F f.pattern g.pattern (omega arith)) (key_le F g.pattern f.pattern (omega arith)))
  keeps_same (key_number f) key_minus h = absurd (omega (arith, finite_keys F f))
  keeps_same (key_number f) key_plus h = absurd (omega (arith, finite_keys F f))
  keeps_same key_minus (key_number g) h = absurd (omega (arith, finite_keys F g))
  keeps_same key_minus key_minus h = minuses
  keeps_same key_minus key_plus h = absurd (omega (arith, infinite_keys F))
  keeps_same key_plus (key_number g) h = absurd (omega (arith, finite_keys F g))
  keeps_same key_plus key_minus h = absurd (omega (arith, infinite_keys F))
  keeps_same key_plus key_plus h = pluses

  end_keys : Keys ◌<◌ ◌≡◌ Less Same (Keyed F)
  end_keys = record { keeps_less = keeps_less; keeps_same = keeps_same }

  lower_key : {n : ℕ} → Finite F n ⊎ (n ≡ minus_infinity F) → Keyed F (key_of F n) (as_lower (end_of F n))
  lower_key (inl f) = rw (end_finite F f) (key_number f)
  lower_key (inr q) = rw (q, end_minus_infinity F) key_minus

  upper_key : {n : ℕ} → Finite F n ⊎ (n ≡ infinity F) → Keyed F (key_of F n) (as_upper (end_of F n))
  upper_key (inl f) = rw (end_finite F f) (key_number f)
  upper_key (inr q) = rw (q, end_infinity F) key_plus

-- The state of two valid pairs.
module _ (F : Format) (x y : Pair) where
  pub both_empty_lem : EmptyPair F x → EmptyPair F y → OverlapOf (set_of F x) (set_of F y) both_empty
  both_empty_lem e d = rw (set_empty F x e, set_empty F y d) refl

  pub first_empty_lem : EmptyPair F x → Proper F y → OverlapOf (set_of F x) (set_of F y) first_empty
  first_empty_lem e k = rw (set_empty F x e, set_proper F y k) refl

  pub second_empty_lem : Proper F x → EmptyPair F y → OverlapOf (set_of F x) (set_of F y) second_empty
  second_empty_lem h d = rw (set_proper F x h, set_empty F y d) refl

  pub neither_empty : Proper F x → Proper F y → (s : State)
      → Conditions ◌<◌ ◌≡◌ s (key_of F x.lower) (key_of F x.upper) (key_of F y.lower) (key_of F y.upper)
      → OverlapOf (set_of F x) (set_of F y) s
  neither_empty h k s w =
      rw (set_proper F x h, set_proper F y k)
      (by_keys (end_keys F) (lower_key F h.lower_end) (upper_key F h.upper_end) (lower_key F k.lower_end) (upper_key F k.upper_end) s w)
