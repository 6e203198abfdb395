-- One shift drops the digits that are too many, and one adds those that are missing.
use mathlib.Core.Logic.{⊎_elim}
use mathlib.Core.Path.{◌≡◌, sym, ap, subst}
use Prim.Native.Nat.{ℕ, ◌+◌, ◌*◌, ◌/◌, ◌^◌, ◌<◌, ◌≤◌}
use native.Mathlib.Nat.{div-lt_iff_lt-mul, le_trans, lt_irrefl, lt_of_le_of_lt, lt_of_lt_of_le, mul-le-mul_left}
use native.Mathlib.Omega.{arith}
use lib.Pow.{pow-add, pow_mono, pow_pos, shr_lt}
use Rattle.patterns.proofs.ValueLaws.{pow_next}
use Rattle.packing.specs.Digits.{Excess, Missing}

-- Of two shifts that leave all digits, the greater drops one.
excess_least : {frac m s s' : ℕ} → Excess frac m s → Excess frac m s' → s < s' → ⊥
excess_least {frac} {m} {s} {s'} h k less = ⊎_elim (λ none. omega arith) (λ full. lt_irrefl (2 ^ frac) (lt_of_le_of_lt full dropped)) k.full
  where
    below : m < 2 ^ (frac + 1 + s)
    below = subst (λ (j : ℕ). m < j) (sym (pow-add 2 (frac + 1) s)) ((div-lt_iff_lt-mul (pow_pos s)).0 h.short)

    dropped : m / 2 ^ s' < 2 ^ frac
    dropped = shr_lt frac s' (lt_of_lt_of_le below (pow_mono (omega arith)))

pub excess_once : {frac m s s' : ℕ} → Excess frac m s → Excess frac m s' → s ≡ s'
excess_once h k = omega (arith, excess_least h k, excess_least k h)

-- Of two shifts that give all digits, the greater adds one too many.
missing_least : {frac m s s' : ℕ} → Missing frac m s → Missing frac m s' → s < s' → ⊥
missing_least {frac} {m} {s} {s'} h k less = ⊎_elim (λ none. omega arith) (λ short. lt_irrefl (2 ^ (frac + 1)) (lt_of_le_of_lt added short)) k.short
  where
    added : 2 ^ (frac + 1) ≤ m * 2 ^ s'
    added =
        let full = h.full in
        let one_more : 2 ^ (frac + 1) ≤ m * 2 ^ (s + 1) = omega (arith, pow_next frac, ap (λ (j : ℕ). m * j) (pow_next s)) in
        le_trans one_more (mul-le-mul_left m (pow_mono (omega arith)))

pub missing_once : {frac m s s' : ℕ} → Missing frac m s → Missing frac m s' → s ≡ s'
missing_once h k = omega (arith, missing_least h k, missing_least k h)
