-- Brackets of equal fractions.
use mathlib.Core.Bool.{Bool}
use mathlib.Core.Path.{◌≡◌, refl, sym, ap, subst, ◌∙◌}
use Prim.Native.Nat.{ℕ, ◌+◌, ◌*◌, ◌^◌, ◌<◌, ◌≤◌}
use native.Mathlib.Nat.{eq_of_mul-eq-mul_right, le_of_mul-le-mul_right, lt_of_mul-lt-mul_right, mul-le-mul_right, mul-lt-mul_of_pos_right, mul-pos}
use native.Mathlib.Omega.{arith}
use borrow.Author.Tests.{eqb-true, eq-eqb}
use lib.Dec.{eqb}
use lib.Pow.{pow_pos, pow-add}
use Rattle.packing.specs.Bracket.{Brackets}

-- n / k and n' / k' are one fraction, so q is as much of the one as of the other
module _ (n k n' k' : ℕ) (same : n * k' ≡ n' * k) where
  scaled_le : 0 < k → (q : ℕ) → q * k ≤ n → q * k' ≤ n'
  scaled_le some q low = le_of_mul-le-mul_right {k = k} (omega (arith, mul-le-mul_right k' low)) some

  scaled_lt : 0 < k' → (q : ℕ) → n < q * k → n' < q * k'
  scaled_lt some q high = lt_of_mul-lt-mul_right k (omega (arith, mul-lt-mul_of_pos_right high some))

  scaled_eq : 0 < k → (q : ℕ) → q * k ≡ n → q * k' ≡ n'
  scaled_eq some q exact = eq_of_mul-eq-mul_right k some (q * k') n' (omega (arith, ap (λ (x : ℕ). x * k') exact))

-- equal fractions have one bracket
pub proportional : {n d q e n' d' e' : ℕ} {x : Bool} → 0 < d → 0 < d' → n * (2 ^ e' * d') ≡ n' * (2 ^ e * d) → Brackets n d q e x → Brackets n' d' q e' x
proportional {n} {d} {q} {e} {n'} {d'} {e'} positive positive' same b =
    let k : ℕ = 2 ^ e * d in
    let k' : ℕ = 2 ^ e' * d' in
    let some : 0 < k = mul-pos (pow_pos e) positive in
    let some' : 0 < k' = mul-pos (pow_pos e') positive' in
    record {
      low = omega (arith, scaled_le n k n' k' same some q (omega (arith, b.low)));
      high = omega (arith, scaled_lt n k n' k' same some' (q + 1) (omega (arith, b.high)));
      told = (
        λ exact. omega (arith, scaled_eq n k n' k' same some q (omega (arith, b.told.0 exact))),
        λ whole. b.told.1 (omega (arith, scaled_eq n' k' n k (sym same) some' q (omega (arith, whole)))),
      );
    }

raised : (n l h' d p : ℕ) → 2 ^ (l + h') ≡ p → n * 2 ^ l * (2 ^ h' * d) ≡ n * (p * d)
raised n l h' d p e = omega (arith, ap (λ (x : ℕ). n * (x * d)) (sym (pow-add 2 l h') ∙ e))

-- only the difference of the two exponents matters
pub moved : (n h l h' l' : ℕ) {d q : ℕ} {x : Bool} → 0 < d → l + h' ≡ l' + h → Brackets (n * 2 ^ l) d q h x → Brackets (n * 2 ^ l') d q h' x
moved n h l h' l' {d} {q} some same =
    proportional some some (raised n l h' d (2 ^ (l' + h)) (ap (λ (k : ℕ). 2 ^ k) same) ∙ sym (raised n l' h d (2 ^ (l' + h)) refl))

pub unmoved : (n : ℕ) {d q h : ℕ} {x : Bool} → Brackets (n * 2 ^ 0) d q h x → Brackets n d q h x
unmoved n {d} {q} {h} {x} = subst (λ (m : ℕ). Brackets m d q h x) (omega arith)

-- a quotient and its remainder
pub divided : (q r : ℕ) {n d : ℕ} → q * d + r ≡ n → r < d → Brackets n d q 0 (eqb r 0)
divided q r {n} {d} whole small = record {
  low = omega arith;
  high = omega arith;
  told = (λ none. omega (arith, eqb-true r 0 none), λ exact. eq-eqb r 0 (omega arith));
}
