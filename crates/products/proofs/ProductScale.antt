-- The exact product of two values, from that of their significands.
use mathlib.Core.Bool.{Bool}
use mathlib.Core.Path.{◌≡◌, sym, ap, ap₂, ◌∙◌}
use Prim.Native.Nat.{ℕ, ◌+◌, ◌*◌, ◌^◌, ◌<◌}
use native.Mathlib.Omega.{arith}
use lib.Dec.{eqb}
use lib.Pow.{pow-add, pow_pos}
use Rattle.packing.specs.Bracket.{Brackets}
use Rattle.significands.proofs.Proportion.{divided, proportional}

-- a product of powers of two, by their exponents
powers : (s t d : ℕ) → 2 ^ s * 2 ^ t * 2 ^ d ≡ 2 ^ (s + t + d)
powers s t d = ap (λ (p : ℕ). p * 2 ^ d) (sym (pow-add 2 s t)) ∙ sym (pow-add 2 (s + t) d)

-- the product of two significands, cut at its lower k bits, with the exponents' bias l
pub product_cut : (d l k e m n h r : ℕ) → d ≡ l + k → h * 2 ^ k + r ≡ m * n → r < 2 ^ k
    → Brackets (m * n * 2 ^ e * 2 ^ l) (2 ^ d) h e (eqb r 0)
product_cut d l k e m n h r same whole small =
    let even : 2 ^ d ≡ 2 ^ l * 2 ^ k = ap (λ (t : ℕ). 2 ^ t) same ∙ pow-add 2 l k in
    proportional (pow_pos k) (pow_pos d) (omega (arith, ap (λ (t : ℕ). m * n * 2 ^ e * t) even)) (divided h r whole small)

-- v and w are worth their significands at exponents that count from 2 ^ -f
pub product_worth : (f d k e e' m n v w : ℕ) {q h : ℕ} {x : Bool} → f + f + d ≡ k → v * 2 ^ f ≡ m * 2 ^ e → w * 2 ^ f ≡ n * 2 ^ e'
    → Brackets (m * n * 2 ^ (e + e')) (2 ^ k) q h x → Brackets (v * w) (2 ^ d) q h x
product_worth f d k e e' m n v w {q} {h} same first second =
    let both : m * n * 2 ^ (e + e') ≡ v * w * (2 ^ f * 2 ^ f) =
    omega (arith, ap (λ (t : ℕ). m * n * t) (pow-add 2 e e'), ap₂ (λ (s t : ℕ). s * t) first second) in
    let even : 2 ^ f * 2 ^ f * 2 ^ d ≡ 2 ^ k = powers f f d ∙ ap (λ (t : ℕ). 2 ^ t) same in
    proportional (pow_pos k) (pow_pos d) (omega (arith, ap (λ (t : ℕ). t * (2 ^ h * 2 ^ d)) both, ap (λ (t : ℕ). v * w * 2 ^ h * t) even))
