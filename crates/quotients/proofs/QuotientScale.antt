-- The exact quotient of two values, from that of their significands.
use mathlib.Core.Bool.{Bool}
use mathlib.Core.Path.{◌≡◌, ap, ◌∙◌}
use Prim.Native.Nat.{ℕ, ◌+◌, ◌*◌, ◌^◌, ◌<◌}
use native.Mathlib.Nat.{mul-pos}
use native.Mathlib.Omega.{arith}
use lib.Dec.{eqb}
use lib.Pow.{pow-add, pow_pos}
use Rattle.packing.specs.Bracket.{Brackets}
use Rattle.significands.proofs.Proportion.{divided, proportional}

-- the quotient of two significands, cut after k bits, with the exponents' bias g
pub quotient_cut : (d g k e e' m n q r : ℕ) → k + g ≡ d → 0 < n → q * n + r ≡ m * 2 ^ k → r < n
    → Brackets (m * 2 ^ (e + d) * 2 ^ e') (n * 2 ^ e') q (e + g) (eqb r 0)
quotient_cut d g k e e' m n q r same some whole small =
    let even : 2 ^ (e + d) ≡ 2 ^ k * 2 ^ (e + g) = ap (λ (t : ℕ). 2 ^ t) (omega arith) ∙ pow-add 2 k (e + g) in
    proportional some (mul-pos some (pow_pos e')) (omega (arith, ap (λ (t : ℕ). m * n * 2 ^ e' * t) even)) (divided q r whole small)

-- v and w are worth their significands at exponents that count from 2 ^ -f
pub quotient_worth : (f d e e' m n v : ℕ) {w q h : ℕ} {x : Bool} → 0 < n → 0 < w → v * 2 ^ f ≡ m * 2 ^ e → w * 2 ^ f ≡ n * 2 ^ e'
    → Brackets (m * 2 ^ (e + d)) (n * 2 ^ e') q h x → Brackets (v * 2 ^ d) w q h x
quotient_worth f d e e' m n v {w} {q} {h} some some' first second =
    let dividend : m * 2 ^ (e + d) ≡ v * 2 ^ f * 2 ^ d = omega (arith, ap (λ (t : ℕ). m * t) (pow-add 2 e d), ap (λ (t : ℕ). t * 2 ^ d) first) in
    proportional (mul-pos some (pow_pos e')) some'
    (omega (arith, ap (λ (t : ℕ). t * (2 ^ h * w)) dividend, ap (λ (t : ℕ). v * 2 ^ d * 2 ^ h * t) second))
