-- A bracket that is cut by s digits is a bracket of the same value.
use mathlib.Core.Bool.{Bool, true, ◌&&◌, and-eq-true_iff}
use mathlib.Core.Path.{◌≡◌, sym, ◌∙◌, ap, subst}
use mathlib.Core.Logic.{◌↔◌}
use Prim.Native.Nat.{ℕ, ◌+◌, ◌*◌, ◌/◌, ◌^◌, ◌<◌, ◌≤◌}
use native.Mathlib.Omega.{arith}
use native.Mathlib.Nat.{div-mul-le_self, eq_of_mul-eq-mul_right, le_antisymm, le_of_eq, le_trans, lt-div-mul-add, lt_of_lt_of_le, mul-le-mul_right, mul-pos}
use lib.Pow.{pow-add, pow_pos}
use Rattle.packing.specs.Bracket.{Brackets, Rebrackets}

-- A multiple of 2 ^ (e + s), in terms of multiples of 2 ^ e.
regrouped : (q e s d : ℕ) → q * 2 ^ (e + s) * d ≡ q * 2 ^ s * (2 ^ e * d)
regrouped q e s d = rw (pow-add 2 e s) (omega arith)

module _ (m e s : ℕ) (x t : Bool) (whole : (t ≡ true) ↔ (m / 2 ^ s * 2 ^ s ≡ m)) where
  module _ (n d : ℕ) (some : 0 < d) (b : Brackets n d m e x) where
    unit_positive : 0 < 2 ^ e * d
    unit_positive = mul-pos (pow_pos e) some

    inside : m / 2 ^ s * 2 ^ s * (2 ^ e * d) ≤ m * (2 ^ e * d)
    inside = mul-le-mul_right (2 ^ e * d) (div-mul-le_self m (2 ^ s))

    low : m * (2 ^ e * d) ≤ n
    low = let le = b.low in omega arith

    high : n < (m / 2 ^ s + 1) * 2 ^ s * (2 ^ e * d)
    high =
        let less : m < m / 2 ^ s * 2 ^ s + 2 ^ s = lt-div-mul-add (pow_pos s) in
        let more : (m + 1) * (2 ^ e * d) ≤ (m / 2 ^ s + 1) * 2 ^ s * (2 ^ e * d) = mul-le-mul_right (2 ^ e * d) (omega arith) in
        lt_of_lt_of_le b.high (le_trans (omega arith) more)

    told_cut : m / 2 ^ s * 2 ^ s * (2 ^ e * d) ≡ n → x && t ≡ true
    told_cut is =
        let all : m * (2 ^ e * d) ≡ n = le_antisymm low (le_trans (le_of_eq (sym is)) inside) in
        (and-eq-true_iff x t).1 (b.told.1 (omega arith), whole.1 (eq_of_mul-eq-mul_right (2 ^ e * d) unit_positive _ _ (is ∙ sym all)))

    told_whole : x && t ≡ true → m / 2 ^ s * 2 ^ s * (2 ^ e * d) ≡ n
    told_whole is =
        let all : m * 2 ^ e * d ≡ n = b.told.0 ((and-eq-true_iff x t).0 is).0 in
        ap (λ (k : ℕ). k * (2 ^ e * d)) (whole.0 ((and-eq-true_iff x t).0 is).1) ∙ omega arith

  pub cut_brackets : Rebrackets m e x (m / 2 ^ s) (e + s) (x && t)
  cut_brackets n d some b = record {
    low = subst (λ (k : ℕ). k ≤ n) (sym (regrouped (m / 2 ^ s) e s d)) (le_trans (inside n d some b) (low n d some b));
    high = subst (λ (k : ℕ). n < k) (sym (regrouped (m / 2 ^ s + 1) e s d)) (high n d some b);
    told = (
      λ is. regrouped (m / 2 ^ s) e s d ∙ told_whole n d some b is,
      λ is. told_cut n d some b (sym (regrouped (m / 2 ^ s) e s d) ∙ is),
    );
  }
