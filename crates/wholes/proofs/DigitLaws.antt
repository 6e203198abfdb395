-- A significand cut at the digit that is worth 1. All values are in units of 2 ^ -p.
use mathlib.Core.Path.{◌≡◌, sym, ◌∙◌, ap}
use mathlib.Core.Logic.{inr}
use Prim.Native.Nat.{ℕ, suc, ◌+◌, ◌-◌, ◌*◌, ◌/◌, ◌%◌, ◌^◌, ◌<◌, ◌≤◌}
use native.Mathlib.Nat.{le_of_lt, div-add-mod', mod-lt, mul-le-mul_right, mul-lt-mul_of_pos_right, lt_of_mul-lt-mul_right, two-pow-succ}
use native.Mathlib.Omega.{arith}
use lib.Pow.{pow_pos, pow-add}
use Rattle.std.proofs.Common.{Ordering, Less, Equal, Greater}
use Rattle.std.specs.Ordering.{MatchOrdering}
use Rattle.patterns.specs.Value.{value}
use Rattle.patterns.proofs.ValueLaws.{packed, pow_next}

-- The pattern b has the significand q at the exponent k, and the last s digits of q stand after the point.
pub record Cuts (h p b k s q : ℕ) : Type 0 where
  pub pattern : b ≡ k * 2 ^ h + q
  pub wide : 2 ^ h ≤ q
  pub short : q < 2 ^ (h + 1)
  pub point : k + s ≡ p
  pub some : 0 < s
  pub inside : s ≤ h

-- How a number compares with a middle.
abbrev pub Lies : ℕ → ℕ → Ordering → Type 0
Lies at middle z = MatchOrdering z (at < middle) (at ≡ middle) (middle < at)

-- Twice a number compares with twice another as they do, also as multiples of a unit.
doubled : (v w k a m : ℕ) (z : Ordering) → 0 < k → v ≡ w + 2 * a * k → {e : ℕ} → e ≡ w + 2 * m * k → Lies a m z → Lies v e z
doubled v w k a m Less pos p q l = omega (arith, mul-lt-mul_of_pos_right l pos)
doubled v w k a m Equal pos p q e = omega (arith, ap (λ (t : ℕ). t * k) e)
doubled v w k a m Greater pos p q l = omega (arith, mul-lt-mul_of_pos_right l pos)

module _ {h p b k s q : ℕ} (c : Cuts h p b k s q) where
  divided : q / 2 ^ s * 2 ^ s + q % 2 ^ s ≡ q
  divided = div-add-mod' q (2 ^ s)

  unit_inside : 2 ^ h ≡ 2 ^ (h - s) * 2 ^ s
  unit_inside = let i = c.inside in ap (λ (j : ℕ). 2 ^ j) {y = h - s + s} (omega arith) ∙ pow-add 2 (h - s) s

  one : 2 ^ p ≡ 2 ^ k * 2 ^ s
  one = ap (λ (j : ℕ). 2 ^ j) (sym c.point) ∙ pow-add 2 k s

  least : 2 ^ (h - s) < q / 2 ^ s + 1
  least = let w = c.wide in lt_of_mul-lt-mul_right (2 ^ s) (omega (arith, divided, mod-lt q (pow_pos s), unit_inside))

  most : q / 2 ^ s < 2 ^ (h - s) + 2 ^ (h - s)
  most = let w = c.short in lt_of_mul-lt-mul_right (2 ^ s) (omega (arith, divided, pow_next h, unit_inside))

  -- The whole numbers n of units up to the next exponent are packed at the exponent k.
  packs : (n r : ℕ) → 2 ^ (h - s) ≤ n → n ≤ 2 ^ (h - s) + 2 ^ (h - s) → r ≡ k * 2 ^ h + n * 2 ^ s → value h r ≡ n * 2 ^ p
  packs n r l m e =
      ap (value h) e
      ∙ packed h k (n * 2 ^ s) (inr (omega (arith, unit_inside, mul-le-mul_right (2 ^ s) l)))
      (omega (arith, pow_next h, unit_inside, mul-le-mul_right (2 ^ s) m))
      ∙ omega (arith, ap (λ (t : ℕ). n * t) one)

  pub low_value : value h (b - q % 2 ^ s) ≡ q / 2 ^ s * 2 ^ p
  low_value =
      packs (q / 2 ^ s) (b - q % 2 ^ s) (omega (arith, least)) (le_of_lt most) (omega (arith, c.pattern, divided))

  pub high_value : value h (b - q % 2 ^ s + 2 ^ s) ≡ (q / 2 ^ s + 1) * 2 ^ p
  high_value =
      packs (q / 2 ^ s + 1) (b - q % 2 ^ s + 2 ^ s) (le_of_lt least) (omega (arith, most)) (omega (arith, c.pattern, divided))

  here_packed : value h b ≡ q * 2 ^ k
  here_packed = ap (value h) c.pattern ∙ packed h k q (inr c.wide) (le_of_lt c.short)

  -- What stands after the point is the rest.
  pub here_value : value h b ≡ q / 2 ^ s * 2 ^ p + q % 2 ^ s * 2 ^ k
  here_value =
      here_packed ∙ omega (arith, ap (λ (t : ℕ). t * 2 ^ k) divided, ap (λ (t : ℕ). q / 2 ^ s * t) one)

  pub rest_value : q % 2 ^ s * 2 ^ k < 2 ^ p
  rest_value = omega (arith, mul-lt-mul_of_pos_right (mod-lt q (pow_pos s)) (pow_pos k), one)

  halves : 2 ^ s ≡ 2 * (2 ^ s / 2)
  halves = let i = c.some in omega (arith, ap (λ (j : ℕ). 2 ^ j) {x = s} {y = suc (s - 1)} (omega arith), two-pow-succ (s - 1))

  pub side_value : (z : Ordering) → Lies (q % 2 ^ s) (2 ^ s / 2) z → Lies (2 * value h b) ((2 * (q / 2 ^ s) + 1) * 2 ^ p) z
  side_value z =
      doubled _ (2 * (q / 2 ^ s) * 2 ^ p) (2 ^ k) _ _ z (pow_pos k) (omega (arith, here_value))
      (omega (arith, one, ap (λ (t : ℕ). 2 ^ k * t) halves))

  pub high_pattern : b - q % 2 ^ s + 2 ^ s ≤ (k + 2) * 2 ^ h
  high_pattern = omega (arith, c.pattern, divided, most, pow_next h, unit_inside, mul-le-mul_right (2 ^ s) most)
