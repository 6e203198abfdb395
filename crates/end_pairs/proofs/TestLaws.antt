-- Which pairs of patterns are intervals, decided by tests on the patterns.
use mathlib.Core.Bool.{Bool, ◌&&◌}
use mathlib.Core.Path.{◌≡◌, ap}
use mathlib.Core.Logic.{◌⊎◌, inl, inr, ⊎_elim}
use Prim.Native.Nat.{ℕ, ◌*◌, ◌<◌, ◌≤◌}
use native.Mathlib.Omega.{arith}
use lib.Dec.{ltb, eqb}
use Rattle.patterns.specs.Format.{Format, infinity, sign_bit}
use Rattle.patterns.specs.Value.{magnitude, Finite}
use Rattle.patterns.proofs.ValueLaws.{le_or_lt}
use Rattle.patterns.proofs.SignLaws.{infinity_below}
use Rattle.meaning.specs.Fraction.{◌≼◌}
use Rattle.meaning.specs.Pairs.{Pair, worth, minus_infinity, Proper}
use Rattle.meaning.proofs.FractionLaws.{lt_not_le}
use Rattle.truth.specs.Answers.{Answers}
use Rattle.end_pairs.specs.Keys.{key_of}
use Rattle.truth.proofs.AnswerLaws.{answers_lt, answers_eq, answers_and, answers_iff}
use Rattle.end_pairs.proofs.KeyLaws.{key_le, key_lt, finite_keys, key_infinity, key_minus_infinity}

module _ (F : Format) {b : ℕ} (pattern : b < 2 * sign_bit F) where
  pub answers_finite : Answers (Finite F b) (ltb (magnitude F b) (infinity F))
  answers_finite =
      answers_lt (magnitude F b) (infinity F) (λ h. record { pattern = pattern; finite = h }) (λ h f. omega (arith, f.finite))

-- Two patterns are those of two others.
pub answers_both : (a b m n : ℕ) → Answers ((a ≡ m) × (b ≡ n)) (eqb a m && eqb b n)
answers_both a b m n =
    answers_and (answers_eq a m (λ e. e) (λ differ e. differ e)) (answers_eq b n (λ e. e) (λ differ e. differ e))

pub lower_pattern : (F : Format) {a : ℕ} → Finite F a ⊎ (a ≡ minus_infinity F) → a < 2 * sign_bit F
unfolding minus_infinity
lower_pattern F (inl f) = f.pattern
lower_pattern F (inr e) = omega (arith, infinity_below F)

pub upper_pattern : (F : Format) {b : ℕ} → Finite F b ⊎ (b ≡ infinity F) → b < 2 * sign_bit F
upper_pattern F (inl f) = f.pattern
upper_pattern F (inr e) = omega (arith, infinity_below F)

-- The ends of a proper pair are in order, infinite ones too: -inf is worth less, and +inf more, than all finite patterns.
pub proper_order : (F : Format) (p : Pair) → Proper F p → worth F p.lower ≼ worth F p.upper
proper_order F p h = go h.lower_end h.upper_end
  where
    by_keys : key_of F p.lower ≤ key_of F p.upper → worth F p.lower ≼ worth F p.upper
    by_keys = key_le F (lower_pattern F h.lower_end) (upper_pattern F h.upper_end)

    go : Finite F p.lower ⊎ (p.lower ≡ minus_infinity F) → Finite F p.upper ⊎ (p.upper ≡ infinity F)
        → worth F p.lower ≼ worth F p.upper
    go (inl f) (inl g) = h.in_order f g
    go (inl f) (inr e) = by_keys (omega (arith, ap (key_of F) e, (finite_keys F f).1))
    go (inr e) (inl g) = by_keys (omega (arith, ap (key_of F) e, (finite_keys F g).0))
    go (inr e) (inr e') =
        by_keys (omega (arith, ap (key_of F) e, ap (key_of F) e', key_infinity F, key_minus_infinity F))

-- Of a pair whose ends may be those of an interval, whether it is one goes by the order of the ends.
pub answers_proper : (F : Format) (p : Pair) {t : Bool}
    → Finite F p.lower ⊎ (p.lower ≡ minus_infinity F) → Finite F p.upper ⊎ (p.upper ≡ infinity F)
    → Answers (worth F p.lower ≼ worth F p.upper) t → Answers (Proper F p) t
answers_proper F p l u = answers_iff (λ h. record { lower_end = l; upper_end = u; in_order = λ f g. h }) (proper_order F p)

-- The keys of a proper pair are in order.
pub proper_keys : (F : Format) (p : Pair) → Proper F p → key_of F p.lower ≤ key_of F p.upper
proper_keys F p h =
    ⊎_elim (λ l. l)
    (λ l. absurd (lt_not_le (key_lt F (upper_pattern F h.upper_end) (lower_pattern F h.lower_end) l) (proper_order F p h)))
    (le_or_lt (key_of F p.lower) (key_of F p.upper))
