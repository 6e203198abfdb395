-- The exact sum of two patterns, by the sign of the greater magnitude and whether their signs differ, over any format.
use mathlib.Core.Bool.{Bool, true, false, not, xor}
use mathlib.Core.Logic.{⊎_elim}
use mathlib.Core.Path.{◌≡◌, refl, subst₂}
use Prim.Native.Nat.{ℕ, ◌+◌, ◌-◌, ◌<◌, ◌≤◌}
use native.Mathlib.Omega.{arith}
use lib.Dec.{ltb}
use Rattle.truth.specs.Answers.{Answers}
use Rattle.patterns.specs.Format.{Format, sign_bit}
use Rattle.patterns.specs.Value.{value, magnitude, plus, minus, choose}
use Rattle.patterns.specs.Rounding.{Exact, Up, Reached, sum_of}
use Rattle.patterns.proofs.ValueLaws.{le_or_lt, value_mono}
use Rattle.patterns.proofs.UpLaws.{up_same}
use Rattle.patterns.proofs.ToldLaws.{reached_same}
use Rattle.significands.specs.SignedExact.{signed}

-- What is told of two patterns in order, and does not depend on their order, is told of them as they were given.
pub either_order : (P : ℕ → ℕ → Type 0) (v w a b : ℕ) {great small : ℕ} → (P b a → P a b)
    → (w ≤ v → (great ≡ a) × (small ≡ b)) → (v < w → (great ≡ b) × (small ≡ a)) → P great small → P a b
either_order P v w a b swap kept swapped told =
    ⊎_elim (λ le. subst₂ P (kept le).0 (kept le).1 told) (λ less. swap (subst₂ P (swapped less).0 (swapped less).1 told)) (le_or_lt w v)

-- The sum of v and w, of which s and t say whether they are positive.
abbrev signed_sum : (s t : Bool) (v w : ℕ) → Exact
signed_sum s t v w = signed (not s) (choose (xor s t) (v - w) (v + w)) 1

same : (s t : Bool) {v w : ℕ} → w ≤ v
    → ((signed_sum s t v w).positive + (choose s 0 v + choose t 0 w) ≡ choose s v 0 + choose t w 0 + (signed_sum s t v w).negative)
    × ((signed_sum s t v w).over ≡ 1)
unfolding xor
same true true le = (omega arith, refl)
same true false le = (omega arith, refl)
same false true le = (omega arith, refl)
same false false le = (omega arith, refl)

module _ (F : Format) (a b : ℕ) {r : ℕ} where
  pub sum_up : magnitude F b ≤ magnitude F a
      → Up F (signed_sum (ltb a (sign_bit F)) (ltb b (sign_bit F)) (value F.frac (magnitude F a)) (value F.frac (magnitude F b))) r
      → Up F (sum_of F a b) r
  unfolding sum_of plus minus
  sum_up le up =
      let (parts, overs) = same (ltb a (sign_bit F)) (ltb b (sign_bit F)) (value_mono F.frac le) in
      up_same F _ _ parts overs up

  -- The order of the two does not matter.
  pub sum_swap : Up F (sum_of F b a) r → Up F (sum_of F a b) r
  unfolding sum_of
  sum_swap = up_same F _ _ (omega arith) refl

-- Whether the sum is the worth of some pattern.
module _ (F : Format) (a b : ℕ) {x : Bool} where
  pub sum_reached : magnitude F b ≤ magnitude F a
      → Answers (Reached F (signed_sum (ltb a (sign_bit F)) (ltb b (sign_bit F)) (value F.frac (magnitude F a)) (value F.frac (magnitude F b)))) x
      → Answers (Reached F (sum_of F a b)) x
  unfolding sum_of plus minus
  sum_reached le told =
      let (parts, overs) = same (ltb a (sign_bit F)) (ltb b (sign_bit F)) (value_mono F.frac le) in
      reached_same F _ _ parts overs told

  pub reached_swap : Answers (Reached F (sum_of F b a)) x → Answers (Reached F (sum_of F a b)) x
  unfolding sum_of
  reached_swap = reached_same F _ _ (omega arith) refl
